use Rattle.stages.proofs.ranges.Bounds.{static_is}
use Rattle.stages.proofs.ranges.types.Usb.static_val.Goals as goal

pub returns : goal.returns
returns c image t base = rw c.then_some.ensures (static_is image t base c.args.self)
