-- Before turn i the first i bytes are copied.
use Rattle.std.proofs.Common.{◌≡◌, length, take, drop}
use lib.Seq.{sets}
use Rattle.stages.proofs.answer.area.copy_bytes.Given as goal

abbrev pub invariant-loop-i : goal.invariant-loop-i
invariant-loop-i l = (l.area ≡ sets l.initial.area l.at (take l.i (drop l.from l.s))) × (length l.area ≡ length l.initial.area)
