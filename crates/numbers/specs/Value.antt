-- A number of 128 bits is two halves in two's complement; its value is an integer.
use Rattle.definition.specs.Prelude.{ℕ, Option, none, some, [], map, ltb, ℤ, pos, negsuc}
use Rattle.std.specs.Prelude as Std
use Rattle.std.specs.Prelude.{Some, None, ◌≡◌, refl, ◌+◌, ◌*◌, ◌-◌, ◌^◌, ◌∷◌, if◌then◌else◌}
use Rattle.numbers.specs.declared.I128.{I128}

abbrev pub two : ℕ → ℕ → I128
two h l = record { high = h; low = l }

-- all bits as one number without a sign
abbrev pub bits : I128 → ℕ
bits w = w.high * 2 ^ 64 + w.low

-- two's complement: the highest bit is the sign
unfoldable pub value_of : I128 → ℤ
value_of w = if ltb w.high (2 ^ 63) then pos (bits w) else negsuc ((2 ^ 64 - 1 - w.high) * 2 ^ 64 + (2 ^ 64 - 1 - w.low))

-- the ends of the range, -1 and 0
ends : map value_of (two (2 ^ 63) 0 ∷ two (2 ^ 63 - 1) (2 ^ 64 - 1) ∷ two (2 ^ 64 - 1) (2 ^ 64 - 1) ∷ two 0 0 ∷ []) ≡ negsuc (2 ^ 127 - 1) ∷ pos (2 ^ 127 - 1) ∷ negsuc 0 ∷ pos 0 ∷ []
unfolding value_of
ends = refl

-- Option<i128>
abbrev pub option_of : Std.Option I128 → Option ℤ
option_of (Some w) = some (value_of w)
option_of None = none

-- Option<usize>, and Option<u64>
abbrev pub option_usize : Std.Option ℕ → Option ℕ
option_usize (Some n) = some n
option_usize None = none
