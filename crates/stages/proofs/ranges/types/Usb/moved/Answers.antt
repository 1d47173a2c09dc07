use Rattle.std.proofs.Common.{arith}
use Rattle.numbers.specs.Value.{value_of}
use Rattle.stages.proofs.ranges.Bounds.{moved_ok}
use Rattle.stages.proofs.ranges.types.Usb.moved.Goals as goal

pub returns : goal.returns
returns c image t base h =
    moved_ok image t base c.checked_add.result (value_of c.args.self.x) (value_of c.args.v) c.checked_add.ensures
    c.in_ok-x.x c.val.result c.in_ok-x.ensures.ok_part c.val.ensures h (omega arith) (omega arith)
