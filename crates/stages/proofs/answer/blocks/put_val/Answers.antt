use Rattle.stages.proofs.answer.blocks.Joins.{three_words}
use Rattle.stages.proofs.answer.blocks.put_val.Goals as goal

pub returns : goal.returns
returns c =
    let a = c.args in
    three_words a.area.now a.at 0 a.low 0 c.put_u64.ensures c.put_u64-2.ensures c.put_u64-3.ensures
