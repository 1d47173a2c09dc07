use Rattle.std.proofs.Common.{refl, arith, length-set}
use Rattle.stages.proofs.answer.merging.Whole.{copy_next}
use Rattle.stages.proofs.answer.area.copy_bytes.Goals as goal

pub loop-i-init : goal.loop-i-init
loop-i-init c = (refl, refl)

pub loop-i-preserved : goal.loop-i-preserved
loop-i-preserved c =
    let a = c.args in
    let v = c.loop-i in
    let (p, q) = c.requires in
    (copy_next a.area.now a.at a.s.now a.from v.i v.area (omega arith) v.invariant.0, simp length-set v.invariant.1)
