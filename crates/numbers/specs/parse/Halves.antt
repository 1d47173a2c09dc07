-- The digits' value in two halves.
use Rattle.std.specs.Prelude as Std
use Rattle.std.specs.Prelude.{Some, None, ◌+◌, ◌*◌, ◌^◌}
use Rattle.definition.specs.Prelude.{ℕ, Option, none, some}
use Rattle.numbers.specs.declared.parse.halves.U128.{U128}

abbrev pub number : U128 → ℕ
number w = w.high * 2 ^ 64 + w.low

abbrev pub number_of : Std.Option U128 → Option ℕ
number_of (Some w) = some (number w)
number_of None = none
