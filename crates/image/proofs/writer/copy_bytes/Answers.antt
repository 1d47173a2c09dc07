use Rattle.std.proofs.Common.{refl}
use lib.ListN.{length-set}
use Rattle.definition.specs.Image.{padded}
use Rattle.laws.specs.Writing.{copy_next}
use Rattle.image.proofs.writer.copy_bytes.Goals as goal

pub loop-i-init : goal.loop-i-init
unfolding padded
loop-i-init c = (refl, refl)

pub loop-i-preserved : goal.loop-i-preserved
loop-i-preserved c =
    let a = c.args in
    let v = c.loop-i in
    (copy_next a.area.now a.at a.s.now a.from v.i v.invariant.0, simp length-set v.invariant.1)
