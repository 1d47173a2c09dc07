-- The loop's invariant: the first i bytes are written.
use Rattle.std.proofs.Common.{◌≡◌, ◌*◌}
use Rattle.stages.specs.answer.literal_bits.Put.{with_bits}
use Rattle.stages.proofs.answer.literal_bits.put_whole.Given as goal

abbrev pub invariant-loop-i : goal.invariant-loop-i
invariant-loop-i l = l.dst ≡ with_bits l.initial.dst (8 * l.q) l.src l.from (8 * l.i)
