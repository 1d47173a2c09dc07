-- `U128::negative` meets its contract: a law for each way through it.
use Rattle.std.proofs.Common.{arith}
use Rattle.numbers.proofs.parse.Signs.{negative_least, negative_past}
use Rattle.numbers.proofs.parse.halves.U128.negative.Goals as goal

pub returns-then-self-eq0 : goal.returns-then-self-eq0
returns-then-self-eq0 c = negative_least _ _ c.if-self-eq9223372036854775808.true c.if-self-eq0.true

pub returns-in_err-positive : goal.returns-in_err-positive
returns-in_err-positive c =
    rw c.from_residual.ensures (negative_past _ _ (omega arith) c.in_err-positive.ensures c.else-self-eq9223372036854775808.either)
