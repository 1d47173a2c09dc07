use Rattle.stages.proofs.ranges.literal.Limits.{zero_by}
use Rattle.stages.proofs.ranges.literal.end_zero.Goals as goal

pub returns : goal.returns
returns c image t base = zero_by image t base c.args.«end» c.is_some_and.result c.is_some_and.ensures
