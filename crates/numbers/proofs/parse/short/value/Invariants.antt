-- `value` meets its contract. The invariant: n is below a power of ten, and the bytes that are left give with it what the whole gives.
use Rattle.std.proofs.Common.{◌≡◌, ◌^◌, ◌<◌, drop}
use Rattle.definition.specs.Numbers.{digits_from}
use Rattle.numbers.proofs.parse.short.value.Given as goal

abbrev pub invariant-loop-b : goal.invariant-loop-b
invariant-loop-b l = (l.n < 10 ^ l.b-index) × (digits_from 10 l.n (drop l.b-index l.s) ≡ digits_from 10 0 l.s)
