use Rattle.std.proofs.Common.{refl, ap, ◌∙◌, ◌+◌, [], ◌∷◌, set, arith}
use Rattle.definition.specs.Image.{padded}
use Rattle.laws.specs.Writing.{copy_next}
use Rattle.image.proofs.writer.Runs.{run_far}
use Rattle.image.proofs.writer.put_each.Goals as goal

pub loop-i-init : goal.loop-i-init
unfolding padded
loop-i-init c = refl

pub loop-i-preserved : goal.loop-i-preserved
loop-i-preserved c =
    let a = c.args in
    let v = c.loop-i in
    c.put_byte.ensures
    ∙ run_far v.area (a.at + v.i) _ _ (c.byte_on.result ∷ []) c.saturating_add.ensures (omega arith)
    ∙ ap (set v.area (a.at + v.i)) c.byte_on.ensures
    ∙ copy_next a.area.now a.at a.s.now a.from v.i v.invariant
