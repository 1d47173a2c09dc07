use Rattle.std.proofs.Common.{arith}
use Rattle.stages.proofs.component.parse.Types.{typed_none, typed_literal, typed_variable}
use Rattle.stages.proofs.component.parse.typed.Goals as goal

pub returns-then-not-begins_number : goal.returns-then-not-begins_number
returns-then-not-begins_number c base r stop mid whole some h fits =
    let a = c.args in
    let p = c.requires in
    let n = c.begins_number in
    typed_variable a.image.now a.tree a.s.0 a.t.0 _ a.literal a.range n.result c.byte_at.ensures n.ensures base r stop mid whole some h fits
    _ _ c.if-not-begins_number.true (let o = p.0 in omega (arith, o)) p.1 c.part_of.ensures c.component_of.ensures

pub returns-then-literal-eq0 : goal.returns-then-literal-eq0
returns-then-literal-eq0 c base r stop mid whole some h fits =
    let a = c.args in
    let n = c.begins_number in
    typed_none a.image.now a.tree a.s.0 a.t.0 _ a.literal a.range n.result c.byte_at.ensures n.ensures base r stop mid whole some h fits
    c.if-not-begins_number.false c.if-literal-eq0.true

pub returns : goal.returns
returns c base r stop mid whole some h fits =
    let a = c.args in
    let n = c.begins_number in
    typed_literal a.image.now a.tree a.s.0 a.t.0 _ a.literal a.range n.result c.byte_at.ensures n.ensures base r stop mid whole some h fits
    _ c.if-not-begins_number.false c.if-literal-eq0.false c.component_of-2.ensures
