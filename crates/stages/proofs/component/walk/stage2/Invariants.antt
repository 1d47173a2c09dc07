-- The loop stands where Whole says.
use Rattle.stages.specs.component.Start.{after_of}
use Rattle.stages.proofs.component.walk.Whole.{Stands}
use Rattle.stages.proofs.component.walk.stage2.Given as goal

abbrev pub invariant-loop-i : goal.invariant-loop-i
invariant-loop-i l = Stands l.image l.t (after_of l.start) l.i l.w l.kept
