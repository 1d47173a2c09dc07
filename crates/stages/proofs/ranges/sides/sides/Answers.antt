use Rattle.std.specs.Prelude.{Ok}
use Rattle.std.proofs.Common.{arith}
use Rattle.stages.proofs.ranges.sides.Ways.{sides_number, sides_text}
use Rattle.stages.proofs.ranges.sides.sides.Goals as goal

pub returns-in-Some : goal.returns-in-Some
returns-in-Some c base above =
    let right = c.side in
    let b = c.byte_at-negative in
    let a = c.args in
    let pre = c.requires in
    sides_number a.image.now a.tree base c.number_right.result a.s.0 a.p.0 a.t.0 b.result right.result b.ensures
    (right.ensures base) c.in-Some.r c.in-Some.is
    (c.number_right.ensures a.image.now a.tree base record { above = above; order = pre.0; room = omega (arith, pre.1, pre.2) }
    (c.side-l.ensures base))

pub returns-in-None : goal.returns-in-None
returns-in-None c base above =
    let right = c.side in
    let b = c.byte_at-negative in
    let a = c.args in
    let pre = c.requires in
    sides_text a.image.now a.tree base (Ok c.text_right.result) a.s.0 a.p.0 a.t.0 b.result right.result b.ensures
    (right.ensures base) c.in-None.is
    (c.text_right.ensures a.image.now a.tree base record { above = above; order = omega (arith, pre.0, pre.1); room = pre.2 }
    (c.side-l.ensures base))
