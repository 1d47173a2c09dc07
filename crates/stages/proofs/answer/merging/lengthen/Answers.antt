use Rattle.std.proofs.Common.{refl}
use Rattle.stages.proofs.answer.merging.Closing.{lengthened}
use Rattle.stages.proofs.answer.merging.lengthen.Goals as goal

pub returns : goal.returns
returns c =
    let a = c.args in
    lengthened a.image.now a.area.now _ a.b a.s c.unwrap_or-had.result _ _ c.well_formed.0.0 c.requires c.unwrap_or-had.ensures refl
    c.append_bits.ensures refl
