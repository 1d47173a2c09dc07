-- `magnitude_by` meets its contract. The invariant: v fits 128 bits, and the bytes that are left give with it what the whole gives.
use Rattle.std.proofs.Common.{◌≡◌, drop}
use mathlib.Core.Option.{some}
use Rattle.definition.specs.Numbers.{digits_from}
use Rattle.numbers.specs.parse.Halves.{number}
use Rattle.numbers.specs.parse.Parts.{capped}
use Rattle.numbers.proofs.parse.magnitude_by.Given as goal

abbrev pub invariant-loop-b : goal.invariant-loop-b
invariant-loop-b l =
    (capped (number l.v) ≡ some (number l.v)) × (digits_from l.radix (number l.v) (drop l.b-index l.text) ≡ digits_from l.radix 0 l.text)
