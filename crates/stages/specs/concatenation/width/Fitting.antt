-- A number that fits 64 bits.
use Rattle.std.specs.Prelude.{◌^◌, if◌then◌else◌}
use Rattle.definition.specs.Prelude.{ℕ, Option, none, some, ltb}

abbrev pub fitting : ℕ → Option ℕ
fitting n = if ltb n (2 ^ 64) then some n else none
