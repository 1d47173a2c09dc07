-- The answer in an entry of data/numbers: 1 and 16 bytes of an i128, the lowest first, or 0 and zeros. What agrees with it is equal to it.
use Rattle.std.specs.Prelude as Std
use Rattle.std.specs.Prelude.{Some, None, ◌+◌, ◌*◌, ◌^◌, ◌&&◌, if◌then◌else◌}
use Rattle.definition.specs.Prelude.{ℕ, Bool, List, Option, none, some, ℤ, get_or, eqb}
use Rattle.std.specs.Ordering.{int_eq}
use Rattle.definition.specs.Image.{u32_at}
use Rattle.numbers.specs.Value.{value_of}
use Rattle.numbers.specs.declared.I128.{I128}

abbrev pub u64_at : List ℕ → ℕ → ℕ
u64_at s at = u32_at s at + 2 ^ 32 * u32_at s (at + 4)

abbrev pub told_by : ℕ → ℕ → ℕ → Option ℤ
told_by found high low = if eqb found 1 then some (value_of (record { high = high; low = low })) else none

abbrev pub told : List ℕ → Option ℤ
told answer = told_by (get_or answer 0 0) (u64_at answer 9) (u64_at answer 1)

-- the test of the program
abbrev pub agrees : Std.Option I128 → ℕ → I128 → Bool
agrees (Some w) found told = eqb found 1 && int_eq (value_of w) (value_of told)
agrees None found told = eqb found 0 && int_eq (value_of told) (value_of (record { high = 0; low = 0 }))
