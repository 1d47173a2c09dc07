use Rattle.stages.proofs.component.tests.Tested.{full_not, full_literal, full_variable, full_filler}
use Rattle.stages.proofs.component.types.Component.has_full_range.Goals as goal

pub returns-then-not-is_guaranteed_zero : goal.returns-then-not-is_guaranteed_zero
returns-then-not-is_guaranteed_zero c image t base g =
    let z = c.is_guaranteed_zero in
    full_not image t base c.args.self z.result (z.ensures image t base) (c.if-not-is_guaranteed_zero.true)

pub returns-in-Literal : goal.returns-in-Literal
returns-in-Literal c image t base g =
    let z = c.is_guaranteed_zero in
    full_literal image t base c.args.self z.result (z.ensures image t base) c.in-Literal.b c.ends_at.result
    (c.if-not-is_guaranteed_zero.false) c.in-Literal.is (c.ends_at.ensures image t base g)

pub returns-in-Variable : goal.returns-in-Variable
returns-in-Variable c image t base g =
    let z = c.is_guaranteed_zero in
    full_variable image t base c.args.self z.result (z.ensures image t base) c.in-Variable.field-0 c.is_none.result
    (c.if-not-is_guaranteed_zero.false) c.in-Variable.is c.is_none.ensures

pub returns-in-Filler : goal.returns-in-Filler
returns-in-Filler c image t base g =
    let z = c.is_guaranteed_zero in
    full_filler image t base c.args.self z.result (z.ensures image t base) c.is_some.result
    (c.if-not-is_guaranteed_zero.false) c.in-Filler.is c.is_some.ensures
