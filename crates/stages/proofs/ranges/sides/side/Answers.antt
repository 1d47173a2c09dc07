use Rattle.std.proofs.Common.{sym, ap, ◌∙◌, arith, eqb-true}
use Rattle.std.proofs.lemmas.Bool.{eqb-false}
use Rattle.definition.specs.Prelude.{some}
use Rattle.stages.proofs.ranges.sides.Texts.{number_empty, number_text}
use Rattle.stages.proofs.ranges.Bounds.{zero_value}
use Rattle.stages.proofs.ranges.sides.side.Goals as goal

pub returns-then-eq : goal.returns-then-eq
returns-then-eq c base =
    let a = c.args in
    ap some zero_value ∙ number_empty a.image.now a.tree base a.s.0 a.t.0 (eqb-true a.s.0 a.t.0 (sym c.if-eq.ensures))

pub returns : goal.returns
returns c base =
    let a = c.args in
    let apart = eqb-false a.s.0 a.t.0 (sym c.if-eq.ensures) in
    c.number_in.ensures ∙ number_text a.image.now a.tree base a.s.0 a.t.0 (omega (arith, c.requires.0, apart))
