use Rattle.std.proofs.Common.{sym, ap, ◌∙◌}
use Rattle.stages.specs.in_force.InForce.{part_in}
use Rattle.stages.proofs.in_force.value.Goals as goal

pub returns-in-Image : goal.returns-in-Image
returns-in-Image c =
    let a = c.args in
    c.image_part.ensures ∙ sym (ap (part_in a.image.now a.default.now) c.in-Image.is)
