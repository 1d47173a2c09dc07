use Rattle.std.proofs.Common.{◌∙◌, inl, inr, arith, ne_eqb}
use Rattle.stages.proofs.component.tests.Tested.{ends_yes, ends_no}
use Rattle.stages.proofs.component.tests.ends_at.Goals.{then-u-eq0, else-u-eq0}
use Rattle.stages.proofs.component.tests.ends_at.Goals as goal

pub returns-then-u-eq0-2 : goal.returns-then-u-eq0-2
returns-then-u-eq0-2 c image t base g =
    let a = c.args in
    ends_yes image t base a.«end» a.w c.in-Some.u c.in-Some.is _
    (elim c.if-u-eq0.branch [
      | then-u-eq0 w ↦ inl (w.if-u-eq0.true, w.t-6-is)
      | else-u-eq0 w ↦ inr (w.if-u-eq0.false, w.t-6-is ∙ ne_eqb c.in-Some.u.s.len 0 w.if-u-eq0.false)
    ]) c.if-u-eq0-2.true-raw

pub returns-else-u-eq0-2 : goal.returns-else-u-eq0-2
returns-else-u-eq0-2 c image t base g =
    let a = c.args in
    ends_no image t base a.«end» a.w c.in-Some.u c.in-Some.is _
    (elim c.if-u-eq0.branch [
      | then-u-eq0 w ↦ inl (w.if-u-eq0.true, w.t-6-is)
      | else-u-eq0 w ↦ inr (w.if-u-eq0.false, w.t-6-is ∙ ne_eqb c.in-Some.u.s.len 0 w.if-u-eq0.false)
    ]) c.if-u-eq0-2.false-raw
    (omega (arith, c.ranges.w)) g
