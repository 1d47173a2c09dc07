use Rattle.std.proofs.Common.{◌≤◌, length, subst, arith}
use Rattle.stages.specs.ranges.Values.{UsbReads}
use Rattle.stages.proofs.ranges.Bounds.{simplify_empty, simplify_none, simplify_some}
use Rattle.stages.proofs.ranges.types.Usb.simplify.Goals as goal

pub returns-then-len-eq0 : goal.returns-then-len-eq0
returns-then-len-eq0 c base f =
    let a = c.args in
    simplify_empty a.image.now a.tree base a.self c.if-len-eq0.true f

pub returns-in-Some : goal.returns-in-Some
returns-in-Some c base f =
    let a = c.args in
    let room : a.tree.text ≤ length a.image.now = omega (arith, f.part.room) in
    subst (UsbReads a.image.now a.tree base c.moved.result)
    (simplify_some a.image.now a.tree base a.self c.if-len-eq0.false c.number_in.result c.number_in.ensures c.in-Some.v c.in-Some.is)
    (c.moved.ensures a.image.now a.tree base room)

pub returns-in-None : goal.returns-in-None
returns-in-None c base f =
    let a = c.args in
    simplify_none a.image.now a.tree base a.self c.if-len-eq0.false c.number_in.result c.number_in.ensures
    c.in-None.is f
