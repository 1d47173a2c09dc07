use Rattle.std.proofs.Common.{subst}
use Rattle.stages.specs.ranges.Values.{EndFits}
use Rattle.stages.proofs.ranges.usbr.Joins.{end_simple}
use Rattle.stages.proofs.ranges.usbr.simplified_end.Goals as goal

pub returns-in_ok-simplify-in-Some : goal.returns-in_ok-simplify-in-Some
returns-in_ok-simplify-in-Some c base f =
    let a = c.args in
    end_simple a.image.now a.tree base a.«end» c.in-Some.u c.in-Some.is c.in_ok-simplify-in-Some.field-0
    (c.in_ok-simplify-in-Some.ensures base (subst (EndFits a.image.now a.tree base) c.in-Some.is f))
