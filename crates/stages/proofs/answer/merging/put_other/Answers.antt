use Rattle.std.proofs.Common.{arith}
use Rattle.stages.proofs.answer.merging.Steps.{rest_room, plain_other, open_other}
use Rattle.stages.proofs.answer.merging.put_other.Goals as goal

pub put_plain-requires : goal.put_plain-requires
put_plain-requires c = let (t, d, ms, is, fixed, room, other) = c.requires in rest_room d ms c.args.w c.args.area.now room

pub returns-in_default : goal.returns-in_default
returns-in_default c t d is fixed other =
    let a = c.args in
    plain_other d a.image.now t a.c is a.w c.behind.result a.area.now _ c.well_formed.0.0 c.in_default.not-Literal c.put_plain.ensures c.behind.ensures

pub put_open-requires : goal.put_open-requires
put_open-requires c =
    let (t, d, ms, is, fixed, room, other) = c.requires in
    let r = rest_room d ms c.args.w c.args.area.now room in
    let long = c.lengthen-o.auto.area in
    omega arith

pub returns : goal.returns
returns c t d is fixed other =
    let a = c.args in
    open_other d a.image.now t a.c is c.in-Literal.b c.in-Literal.is a.w c.behind-2.result c.lengthen-o.result c.unwrap_or-bits.result a.area.now _ _
    c.well_formed.0.0 c.lengthen-o.ensures c.unwrap_or-bits.ensures c.put_open.ensures c.behind-2.ensures
