use Rattle.stages.proofs.answer.blocks.Joins.{fixed_put}
use Rattle.stages.proofs.answer.blocks.put_fixed.Goals as goal

pub returns : goal.returns
returns c =
    let a = c.args in
    fixed_put a.area.now a.at a.bits a.offset c.put_literal.ensures c.put_val.ensures c.put_val-2.ensures
