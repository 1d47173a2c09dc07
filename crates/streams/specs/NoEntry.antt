-- What a reader had and has left where an entry was not read.
use Rattle.std.specs.Prelude.{◌<◌, ℕ, List, length, Option, ◌⊎◌}
use Rattle.std.specs.Io.KnownBytes.{Consumes, IsAtEnd}
use Rattle.streams.specs.declared.entry.NoEntry.{NoEntry}
use Rattle.streams.specs.declared.entry.NoEntry.TheVariants.{End, Cut, Failed}

-- these were the last bytes, fewer than n
abbrev pub Short : Option (List ℕ) → Option (List ℕ) → ℕ → List ℕ → Type 0
Short old new n bs = (length bs < n) × Consumes old new bs × IsAtEnd new

-- the n bytes of a head
abbrev pub WhyNoHead : Option (List ℕ) → Option (List ℕ) → ℕ → NoEntry → Type 0
WhyNoHead old new n End = IsAtEnd old × IsAtEnd new
WhyNoHead old new n Cut = (bs : List ℕ) × (0 < length bs) × Short old new n bs
WhyNoHead old new n (Failed e) = Unit {0}

-- the n bytes that follow a head, in a buffer with so much room
abbrev pub WhyNoPart : Option (List ℕ) → Option (List ℕ) → ℕ → ℕ → NoEntry → Type 0
WhyNoPart old new room n End = ⊥
WhyNoPart old new room n Cut = (room < n) ⊎ ((bs : List ℕ) × Short old new n bs)
WhyNoPart old new room n (Failed e) = Unit {0}
