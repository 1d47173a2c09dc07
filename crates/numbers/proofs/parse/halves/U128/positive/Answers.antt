-- `U128::positive` meets its contract: a law for each way through it.
use Rattle.std.proofs.Common.{arith}
use Rattle.numbers.proofs.parse.Signs.{positive_fits, positive_past}
use Rattle.numbers.proofs.parse.halves.U128.positive.Goals as goal

pub returns-then-high-lt9223372036854775808 : goal.returns-then-high-lt9223372036854775808
returns-then-high-lt9223372036854775808 c = positive_fits _ _ c.if-high-lt9223372036854775808.true (omega arith)

pub returns-else-high-lt9223372036854775808 : goal.returns-else-high-lt9223372036854775808
returns-else-high-lt9223372036854775808 c = positive_past _ _ c.if-high-lt9223372036854775808.false
