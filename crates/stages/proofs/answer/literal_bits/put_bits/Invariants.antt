-- The loop's invariant: the first i of the bits are written.
use Rattle.std.proofs.Common.{◌≡◌, ◌-◌, ◌≤◌}
use Rattle.stages.specs.answer.literal_bits.Put.{with_bits}
use Rattle.stages.proofs.answer.literal_bits.put_bits.Given as goal

abbrev pub invariant-loop-i : goal.invariant-loop-i
invariant-loop-i l = (l.i ≤ l.n) × (l.dst ≡ with_bits l.initial.dst l.at l.src l.from l.i)

abbrev pub decreases-loop-i : goal.decreases-loop-i
decreases-loop-i l = l.n - l.i
