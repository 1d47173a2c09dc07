-- `concatenation::width::magnitude` meets its contract: by the high half: 0, all ones, or between.
-- Assumes nothing.
use Rattle.std.proofs.Common.{◌+◌, ◌-◌, ◌^◌, arith}
use Rattle.stages.proofs.concatenation.width.Widths.{fits, exceeds, low_only, high_part, negative}
use Rattle.stages.proofs.concatenation.width.magnitude.Goals as goal

pub returns-then-x-eq0 : goal.returns-then-x-eq0
returns-then-x-eq0 c = rw (low_only c.args.x c.if-x-eq0.true) (fits c.args.x.low (omega arith))

pub returns-then-x-lt18446744073709551615 : goal.returns-then-x-lt18446744073709551615
returns-then-x-lt18446744073709551615 c = exceeds _ (high_part c.args.x (omega arith) (omega arith))

pub returns-then-x-eq0-2 : goal.returns-then-x-eq0-2
returns-then-x-eq0-2 c =
    let p = c.args in
    rw (negative p.x (omega arith)) (exceeds (2 ^ 64 - 1 - p.x.low + 1) (omega arith))

pub returns : goal.returns
returns c =
    let p = c.args in
    rw (negative p.x (omega arith)) (fits (2 ^ 64 - 1 - p.x.low + 1) (omega arith))
