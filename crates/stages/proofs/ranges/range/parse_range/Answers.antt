use Rattle.std.specs.Prelude as Std
use Rattle.std.specs.Prelude.{Err}
use Rattle.std.proofs.Common.{◌≡◌, sym, ap, ◌∙◌, arith, eqb-true}
use Rattle.std.proofs.lemmas.Bool.{eqb-false}
use Rattle.definition.specs.Basics.{ok}
use Rattle.stages.specs.declared.ranges.scan.Cut.{Cut}
use Rattle.stages.proofs.ranges.range.Cuts.{range_empty, range_refused, range_none, range_ranged, range_found}
use Rattle.stages.proofs.ranges.range.parse_range.Goals as goal

pub returns-then-eq : goal.returns-then-eq
returns-then-eq c base s is h =
    let a = c.args in
    range_empty a.image.now a.tree base a.run.stop.0 a.run.end.0 a.run.r.0 s is h (eqb-true a.run.r.0 a.run.stop.0 (sym c.if-eq.ensures))

pub returns-in_err-d : goal.returns-in_err-d
returns-in_err-d c base s is h =
    let a = c.args in
    let apart = eqb-false a.run.r.0 a.run.stop.0 (sym c.if-eq.ensures) in
    let same : c.from_residual.result ≡ Err c.in_err-d.field-0.0 = grind arith in
    rw same (range_refused a.image.now a.tree base a.run.stop.0 a.run.end.0 a.run.r.0 s is h apart c.in_err-d.field-0.0
    (c.in_err-d.ensures base s is h))

pub ranged-requires : goal.ranged-requires
ranged-requires c =
    let a = c.args in
    let r = c.requires.1 in
    let apart = eqb-false a.run.r.0 a.run.stop.0 (sym c.if-eq.ensures) in
    range_found a.image.now a.tree a.run c.in-Some.d apart c.requires.0 r
    (ap (λ (o : Std.Option Cut). ok o) (sym c.in-Some.is) ∙ c.in_ok-d.ensures r.base c.requires.0 r.items r.laid)

pub returns-in-Some : goal.returns-in-Some
returns-in-Some c base s is h =
    let a = c.args in
    let apart = eqb-false a.run.r.0 a.run.stop.0 (sym c.if-eq.ensures) in
    range_ranged a.image.now a.tree a.run c.in-Some.d apart base s is c.ranged.result h
    (ap (λ (o : Std.Option Cut). ok o) (sym c.in-Some.is) ∙ c.in_ok-d.ensures base s is h) c.ranged.ensures

pub returns-in-None : goal.returns-in-None
returns-in-None c base s is h =
    let a = c.args in
    let apart = eqb-false a.run.r.0 a.run.stop.0 (sym c.if-eq.ensures) in
    range_none a.image.now a.tree base a.run.stop.0 a.run.end.0 a.run.r.0 s is h apart
    (ap (λ (o : Std.Option Cut). ok o) (sym c.in-None.is) ∙ c.in_ok-d.ensures base s is h)
