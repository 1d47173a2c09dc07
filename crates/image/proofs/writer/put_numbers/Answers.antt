use Rattle.std.proofs.Common.{refl, ◌∙◌, ◌+◌, ◌*◌, get_or, arith}
use Rattle.definition.specs.Basics.{joined}
use Rattle.definition.specs.Tree.{u32}
use Rattle.image.proofs.writer.Runs.{run_far, numbers_next}
use Rattle.image.proofs.writer.put_numbers.Goals as goal

pub loop-i-init : goal.loop-i-init
unfolding joined
loop-i-init c = refl

pub loop-i-preserved : goal.loop-i-preserved
loop-i-preserved c =
    let a = c.args in
    let v = c.loop-i in
    numbers_next a.area.now a.at a.numbers.now v.i c.loop-i-test.true v.invariant
    (c.put_u32.ensures ∙ run_far v.area (a.at + 4 * v.i) _ _ (u32 (get_or a.numbers.now v.i 0)) c.saturating_add.ensures (omega arith))
