use Rattle.stages.proofs.in_force.Heads.{told_image, told_default}
use Rattle.stages.proofs.in_force.told_in.Goals as goal

pub returns-then-own : goal.returns-then-own
returns-then-own c =
    let a = c.args in
    told_image a.image.now a.answer.now _ c.u32_at-flags.ensures _ _ _ c.text_place.ensures.0
    c.u32_at-start.ensures c.u32_at-length.ensures c.if-own.true

pub returns : goal.returns
returns c =
    let a = c.args in
    told_default a.image.now a.answer.now _ c.u32_at-flags.ensures c.if-own.false
