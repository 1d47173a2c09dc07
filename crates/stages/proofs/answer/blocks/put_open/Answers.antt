use Rattle.stages.proofs.answer.blocks.Joins.{open_put}
use Rattle.stages.proofs.answer.blocks.put_open.Goals as goal

pub returns : goal.returns
returns c =
    let a = c.args in
    open_put a.area.now a.at a.r a.bits a.offset c.is_some.result c.put_literal.ensures c.is_some.ensures c.put_range.ensures
