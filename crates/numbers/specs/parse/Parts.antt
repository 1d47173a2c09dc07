-- What the parts of reading a number give.
use Rattle.std.specs.Prelude.{◌*◌, ◌^◌, if◌then◌else◌}
use Rattle.definition.specs.Prelude.{ℕ, Option, none, some, ltb, ℤ, pos, neg_ℤ}

-- 2^128, kept shut in proofs
unfoldable pub full128 : ℕ
full128 = 2 ^ 64 * 2 ^ 64

-- no number past 128 bits
abbrev pub capped : ℕ → Option ℕ
capped n = if ltb n full128 then some n else none

abbrev pub capped_option : Option ℕ → Option ℕ
capped_option none = none
capped_option (some n) = capped n

abbrev pub negated : ℕ → ℤ
negated n = neg_ℤ (pos n)
