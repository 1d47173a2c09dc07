-- `numbers::is_zero` meets its contract: by the high half, and where that is 0 by the low one.
-- Assumes nothing.
use Rattle.numbers.proofs.Small.{small_zero, large_zero}
use Rattle.numbers.proofs.I128.is_zero.Goals as goal

pub returns-then-self-eq0 : goal.returns-then-self-eq0
returns-then-self-eq0 c = small_zero c.args.self c.if-self-eq0.true

pub returns-else-self-eq0 : goal.returns-else-self-eq0
returns-else-self-eq0 c = large_zero c.args.self c.if-self-eq0.false
