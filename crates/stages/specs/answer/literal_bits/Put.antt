-- Bits written into a list of bytes. Bit i is bit i % 8 of byte i / 8; a byte that is missing counts as 0.
use Rattle.std.specs.Prelude.{◌+◌, ◌*◌, ◌-◌, ◌/◌, ◌%◌, ◌^◌, ◌&&◌, if◌then◌else◌}
use Rattle.definition.specs.Prelude.{ℕ, List, length, get_or, leb, ltb}
use Rattle.definition.specs.Basics.{sum, tab}

abbrev pub bit_of : List ℕ → ℕ → ℕ
bit_of s i = get_or s (i / 8) 0 / 2 ^ (i % 8) % 2

-- n bits from a place, lowest first
abbrev pub bits_from : List ℕ → ℕ → ℕ → List ℕ
bits_from s from n = tab (bit_of s) from n

-- bit i once bits from .. from + n of src are bits at .. at + n of dst
abbrev pub bit_after : List ℕ → ℕ → List ℕ → ℕ → ℕ → ℕ → ℕ
bit_after dst at src from n i = if leb at i && ltb i (at + n) then bit_of src (from + (i - at)) else bit_of dst i

-- all bytes then: a bit that has no place in dst is not written
unfoldable pub with_bits : List ℕ → ℕ → List ℕ → ℕ → ℕ → List ℕ
with_bits dst at src from n = tab (λ q. sum (tab (λ j. bit_after dst at src from n (8 * q + j) * 2 ^ j) 0 8)) 0 (length dst)

-- places are numbers of 64 bits: where one would pass them, nothing is written
abbrev pub put_bits : List ℕ → ℕ → List ℕ → ℕ → ℕ → List ℕ
put_bits dst at src from n = if ltb (at + n) (2 ^ 64) && ltb (from + n) (2 ^ 64) then with_bits dst at src from n else dst
