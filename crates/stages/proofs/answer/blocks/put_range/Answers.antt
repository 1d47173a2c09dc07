use Rattle.std.proofs.Common.{refl, ◌+◌, ◌∙◌, ap}
use Rattle.std.proofs.lemmas.List.Edits.{sets}
use Rattle.laws.specs.Writing.{and_then}
use Rattle.stages.specs.component.Values.{end_or}
use Rattle.stages.specs.answer.Blocks.{usb_block}
use Rattle.stages.proofs.answer.blocks.Joins.{end_is}
use Rattle.stages.proofs.answer.blocks.put_range.Goals as goal

pub returns : goal.returns
returns c =
    let a = c.args in
    let e = end_is a.r.«end» c.zero.result c.unwrap_or.result c.zero.ensures c.unwrap_or.ensures in
    and_then a.area.now a.at 24 (usb_block a.r.start) (usb_block (end_or a.r.«end»)) c.put_usb.ensures refl
    (c.put_usb-2.ensures ∙ ap (λ u. sets c.put_usb.new.area (a.at + 24) (usb_block u)) e)
