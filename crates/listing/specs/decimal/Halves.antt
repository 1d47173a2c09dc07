-- The number in two halves.
use Rattle.std.specs.Prelude.{◌+◌, ◌*◌, ◌^◌}
use Rattle.definition.specs.Prelude.{ℕ}
use Rattle.listing.specs.declared.decimal.Halves.{Halves}

abbrev pub whole : Halves → ℕ
whole n = n.high * 2 ^ 64 + n.low
