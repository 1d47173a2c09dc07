use Rattle.std.proofs.Common.{refl}
use Rattle.stages.proofs.ranges.sides.Ways.{right_number, right_text}
use Rattle.stages.proofs.ranges.sides.number_right.Goals as goal

pub returns-in-Some : goal.returns-in-Some
returns-in-Some c image t base between e =
    let j = c.joined in
    let n = c.no_text in
    let a = c.args in
    right_number image t base c.with_x.result n.result a.s.0 a.p.0 a.l j.result a.negative a.r between e
    (c.with_x.ensures image t base) c.in-Some.x c.in-Some.is n.ensures j.ensures

pub returns-in-None : goal.returns-in-None
returns-in-None c image t base between e =
    let j = c.joined-in-None in
    let p = c.part_of in
    let a = c.args in
    right_text image t base c.with_x-in-None.result p.result a.s.0 a.p.0 a.l j.result a.negative a.r between e
    (c.with_x-in-None.ensures image t base) _ c.in-None.is p.ensures refl j.ensures
