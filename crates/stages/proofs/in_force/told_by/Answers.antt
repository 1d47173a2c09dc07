use Rattle.std.proofs.Common.{sym, ap, ◌∙◌}
use Rattle.errors.specs.Refused.{result_of}
use Rattle.stages.specs.in_force.InForce.{told_by}
use Rattle.stages.proofs.in_force.told_by.Goals as goal

pub returns-in-Ok : goal.returns-in-Ok
returns-in-Ok c =
    let a = c.args in
    c.told_in.ensures ∙ sym (ap (λ o. told_by a.image.now a.answer.now (result_of o)) c.in-Ok.is)
