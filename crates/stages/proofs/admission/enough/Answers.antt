use Rattle.stages.proofs.admission.Ways.{enough_is}
use Rattle.stages.proofs.admission.enough.Goals as goal

pub returns : goal.returns
returns c =
    let a = c.args in
    enough_is a.image.now a.area _ _ _ c.u32_at-c.ensures c.u32_at-n.ensures c.u32_at-b.ensures
