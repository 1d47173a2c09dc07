use Rattle.errors.specs.Reasoned.{reasoned}
use Rattle.image.proofs.check.Whole.{start_refused, components_said}
use Rattle.image.proofs.check.records.records_check.Goals as goal

pub returns-then-four_at-ne0 : goal.returns-then-four_at-ne0
returns-then-four_at-ne0 c =
    let a = c.args in
    start_refused a.image.now a.h a.at c.requires.0 c.four_at.result c.four_at.ensures c.if-four_at-ne0.true

pub returns : goal.returns
returns c =
    let a = c.args in
    components_said a.image.now a.h a.at c.requires.0 c.four_at.result c.four_at.ensures (reasoned c.components_check.result)
    c.if-four_at-ne0.false c.components_check.ensures
