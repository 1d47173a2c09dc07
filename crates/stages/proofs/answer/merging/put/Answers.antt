use Rattle.std.proofs.Common.{false}
use Rattle.stages.proofs.answer.merging.Stored.{bits_are, static_is}
use Rattle.stages.proofs.answer.merging.Steps.{to_close, closed_rests, static_step, other_step}
use Rattle.stages.proofs.answer.merging.put.Goals as goal

pub returns-in-Some : goal.returns-in-Some
returns-in-Some c t d is fixed =
    let a = c.args in
    let (lit, static) = c.in-Some.ensures in
    static_step d a.area.now a.s a.image.now c.in-Some.b c.lengthen.result _
    (static_is a.image.now t a.c d is _ (static a.image.now t d.base)) (bits_are a.image.now t a.c d is c.in-Some.b lit) c.lengthen.ensures

pub close-w-requires : goal.close-w-requires
close-w-requires c =
    let a = c.args in
    let (t, d, cs, is, fixed, room) = c.requires in
    let other = static_is a.image.now t a.c d is false (c.in_default.ensures a.image.now t d.base) in
    (_, to_close a.area.now a.s d cs other room)

pub put_other-requires : goal.put_other-requires
put_other-requires c =
    let a = c.args in
    let (t, d, cs, is, fixed, room) = c.requires in
    let other = static_is a.image.now t a.c d is false (c.in_default.ensures a.image.now t d.base) in
    (t, d, _, is, fixed, closed_rests a.s c.close-w.result a.area.now _ _ c.close-w.ensures (to_close a.area.now a.s d cs other room), other)

pub returns : goal.returns
returns c t d is fixed =
    let a = c.args in
    let other = static_is a.image.now t a.c d is false (c.in_default.ensures a.image.now t d.base) in
    other_step d a.area.now a.s c.close-w.result c.put_other.result _ _ other c.close-w.ensures (c.put_other.ensures t d is fixed other)
