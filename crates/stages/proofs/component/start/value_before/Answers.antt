use Rattle.std.proofs.Common.{sym, ◌∙◌, eqb-true}
use borrow.Author.Tests.{eqb-false}
use Rattle.stages.proofs.component.start.Prefixes.{value_refused, value_some}
use Rattle.stages.proofs.component.start.value_before.Goals as goal

pub returns-then-eq : goal.returns-then-eq
returns-then-eq c base s tail mid h e =
    let a = c.args in
    value_refused a.image.now a.tree base a.run.stop.0 tail a.run.r.0 s mid h a.k.0 c.in-Some.colon.0 (sym c.in-Some.is ∙ e)
    (eqb-true _ _ (sym c.if-eq.ensures)) _ c.at.ensures

pub returns : goal.returns
returns c base s tail mid h e =
    let a = c.args in
    value_some a.image.now a.tree base a.run.stop.0 tail a.run.r.0 s mid h a.k.0 c.in-Some.colon.0 (sym c.in-Some.is ∙ e) (rw c.in-Some.is at c.requires)
    (eqb-false _ _ (sym c.if-eq.ensures))
    _ _ _ c.start_of.ensures c.start_of-2.ensures c.part_of-s.ensures
