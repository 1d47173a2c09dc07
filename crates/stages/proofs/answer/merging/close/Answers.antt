use Rattle.stages.proofs.answer.merging.Closing.{close_room, close_some}
use Rattle.stages.proofs.answer.merging.close.Goals as goal

pub put_fixed-requires : goal.put_fixed-requires
put_fixed-requires c =
    let a = c.args in
    let (ms, h) = c.requires in
    close_room a.s a.area.now ms c.in-Some.bits c.in-Some.is h

pub returns : goal.returns
returns c =
    let a = c.args in
    close_some a.s a.area.now _ c.behind.result c.in-Some.bits c.well_formed.0.0 c.in-Some.is c.put_fixed.ensures c.behind.ensures
