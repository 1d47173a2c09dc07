-- The counts of the image, as the walk over the tokens adds them up.
use Rattle.std.specs.Prelude.{◌≡◌, ◌<◌, ◌+◌, ◌^◌, ◌&&◌, Result, Ok, Err}
use Rattle.definition.specs.Prelude.{ℕ, Bool, true, false, List, leb, ltb}
use Rattle.definition.specs.Limits.{limits}
use Rattle.definition.specs.Tokens.{Token}
use Rattle.errors.specs.declared.reasons.TokenReason.{TokenReason}
use Rattle.errors.specs.declared.reasons.TokenReason.TheVariants.{OverLimits}
use Rattle.image.specs.declared.token_tree.Counts.{Counts}
use Rattle.image.specs.token_tree.Tables.{counts_of}
use Rattle.token_facts.specs.Flat.{weigh, semicolons, dividers, records, bytes, deepest}
use Rattle.token_stream.specs.declared.counts.Tally.{Tally}

abbrev pub Sums : Type 0
Sums = record { semicolons : ℕ; dividers : ℕ; records : ℕ; bytes : ℕ }

abbrev pub tally_of : Tally → Sums
tally_of t = record { semicolons = t.semicolons; dividers = t.dividers; records = t.records; bytes = t.bytes }

abbrev pub sum_of : Sums → Sums → Sums
sum_of a b =
    record {
      semicolons = a.semicolons + b.semicolons;
      dividers = a.dividers + b.dividers;
      records = a.records + b.records;
      bytes = a.bytes + b.bytes;
    }

-- what one token adds, and what a list does
abbrev pub token_tally : ℕ → Token → List Token → Sums
token_tally d t ts = record { semicolons = semicolons d t ts; dividers = dividers d t ts; records = records d t ts; bytes = bytes d t ts }

abbrev pub list_tally : ℕ → List Token → Sums
list_tally d ts =
    record { semicolons = weigh semicolons d ts; dividers = weigh dividers d ts; records = weigh records d ts; bytes = weigh bytes d ts }

-- far from 2^64
pub record Small (t : Tally) : Type 0 where
  pub semicolons : t.semicolons < 2 ^ 34
  pub dividers : t.dividers < 2 ^ 34
  pub records : t.records < 2 ^ 34
  pub bytes : t.bytes < 2 ^ 34

-- no count is above its limit, d groups being open: there is one concatenation more than semicolons, one component more than dividers
abbrev pub within : Sums → ℕ → Bool
within t d =
    ltb t.semicolons limits.concatenations && ltb t.dividers limits.components && (leb t.records limits.records && leb t.bytes limits.text)
    && leb d limits.depth

abbrev pub within_in : List Token → Bool
within_in ts = within (list_tally 0 ts) (deepest 0 ts)

abbrev pub counts_in : List Token → record { c : ℕ; n : ℕ; r : ℕ; t : ℕ; b : ℕ }
counts_in ts =
    record { c = weigh semicolons 0 ts + 1; n = weigh dividers 0 ts + 1; r = weigh records 0 ts; t = weigh bytes 0 ts; b = 0 }

-- within the limits the counts, else 52
abbrev pub CountedIs : List Token → Result Counts TokenReason → Type 0
CountedIs ts (Ok h) = (within_in ts ≡ true) × (counts_of h ≡ counts_in ts)
CountedIs ts (Err r) = (within_in ts ≡ false) × (r ≡ OverLimits)
