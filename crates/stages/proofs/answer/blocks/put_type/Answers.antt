use Rattle.stages.proofs.answer.blocks.Joins.{type_put}
use Rattle.stages.proofs.answer.blocks.put_type.Goals as goal

pub returns : goal.returns
returns c =
    let a = c.args in
    type_put a.area.now a.at a.kind a.s a.present c.put_u32.ensures c.put_text.ensures c.put_u64.ensures c.put_u32-2.ensures
