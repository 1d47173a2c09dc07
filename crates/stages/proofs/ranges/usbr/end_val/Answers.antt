use Rattle.stages.proofs.ranges.Bounds.{end_some}
use Rattle.stages.proofs.ranges.usbr.end_val.Goals as goal

pub returns : goal.returns
returns c image t base =
    end_some image t base c.args.«end» c.in_ok-end.field-0 c.in_ok-end.was (c.static_val.ensures image t base)
