use Rattle.stages.proofs.answer.blocks.Joins.{usb_put}
use Rattle.stages.proofs.answer.blocks.put_usb.Goals as goal

pub returns : goal.returns
returns c =
    let a = c.args in
    usb_put a.area.now a.at a.u c.put_text.ensures c.put_u64.ensures c.put_u64-2.ensures
