use Rattle.std.proofs.Common.{refl}
use Rattle.definition.specs.Tree.{u32}
use Rattle.laws.specs.Writing.{and_then}
use Rattle.stages.proofs.answer.blocks.put_text.Goals as goal

pub returns : goal.returns
returns c =
    let a = c.args in
    and_then a.area.now a.at 4 (u32 a.s.at.0) (u32 a.s.len) c.put_u32.ensures refl c.put_u32-2.ensures
