use Rattle.std.proofs.Common.{sym, subst, eqb-true}
use Rattle.std.proofs.lemmas.Bool.{eqb-false}
use Rattle.stages.specs.token_tree.Laid.{Laid}
use Rattle.stages.proofs.ranges.range.Bounds.{start_none, start_some, runs_to}
use Rattle.stages.proofs.token_tree.Walks.{runs_some}
use Rattle.stages.proofs.ranges.range.parse_start.Goals as goal

pub returns-then-eq : goal.returns-then-eq
returns-then-eq c base s is h =
    let a = c.args in
    start_none a.image.now a.tree base a.stop.0 _ a.r.0 s is c.zero.result (eqb-true a.r.0 a.stop.0 (sym c.if-eq.ensures)) c.zero.ensures
    c.requires.1.1.text_fits h

pub parse_usb-requires : goal.parse_usb-requires
parse_usb-requires c =
    let a = c.args in
    let p = c.requires.1 in (
      runs_some a.image.now a.tree a.stop.0 _ a.r.0 p.0 (eqb-false a.r.0 a.stop.0 (sym c.if-eq.ensures)) p.1,
      (p.0, runs_to a.image.now a.tree a.stop.0 _ c.start_of-end.result.0 a.r.0 p.0 c.start_of-end.ensures p.1),
    )

pub returns : goal.returns
returns c base s is h =
    let a = c.args in
    let p = c.requires.1 in
    start_some a.image.now a.tree base a.stop.0 _ a.r.0 s is c.parse_usb.result
    (runs_some a.image.now a.tree a.stop.0 _ a.r.0 p.0 (eqb-false a.r.0 a.stop.0 (sym c.if-eq.ensures)) p.1) h
    (c.parse_usb.ensures base s is
    (subst (λ x. Laid a.image.now a.tree base a.stop.0 x a.r.0 s is) (sym c.start_of-end.ensures) h))
