use Rattle.stages.specs.ranges.Values.{usbr_of}
use Rattle.stages.proofs.ranges.usbr.Joins.{both_read}
use Rattle.stages.proofs.ranges.types.Usbr.numbers.Goals as goal

pub returns : goal.returns
returns c base f =
    let a = c.args in
    both_read a.image.now a.tree base (usbr_of a.image.now a.tree base a.self) c.in_ok-start.start c.in_ok-end.end
    (c.in_ok-start.ensures base f.start) (c.in_ok-end.ensures base f.«end»)
