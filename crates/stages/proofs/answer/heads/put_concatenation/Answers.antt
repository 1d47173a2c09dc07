use Rattle.stages.proofs.answer.heads.Headed.{concatenation_put}
use Rattle.stages.proofs.answer.heads.put_concatenation.Goals as goal

pub returns : goal.returns
returns c image kept d is =
    let a = c.args in
    concatenation_put image kept a.area.now a.at a.x d c.align_number.result c.flag.result c.flag-2.result c.width_number.result
    c.align_number.ensures c.flag.ensures.0 c.flag-2.ensures.0 c.width_number.ensures c.put_u32.ensures c.put_u32-2.ensures c.put_u32-3.ensures
    c.put_u64.ensures is
