use Rattle.stages.proofs.answer.blocks.Joins.{literal_put}
use Rattle.stages.proofs.answer.blocks.put_literal.Goals as goal

pub returns : goal.returns
returns c =
    let a = c.args in
    literal_put a.area.now a.at a.bits a.offset a.present c.put_u32.ensures c.put_u64.ensures c.put_u32-2.ensures
    c.put_u32-3.ensures c.put_u32-4.ensures
