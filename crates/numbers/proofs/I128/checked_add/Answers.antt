-- `I128::checked_add` meets its contract: three signs tell whether the sum of all bits is the true sum.
-- Assumes nothing.
use Rattle.std.proofs.Common.{arith}
use Rattle.numbers.proofs.Words.{word}
use Rattle.numbers.proofs.sums.Sums.{sum_past, sum_fits}
use Rattle.numbers.proofs.I128.checked_add.Goals as goal

pub returns-then-overflows : goal.returns-then-overflows
returns-then-overflows c =
    sum_past _ _ _ _ _ _ (word c.args.self (omega arith) (omega arith)) (word c.args.other (omega arith) (omega arith)) (word c.add_bits-sum.result (omega arith) (omega arith))
    c.add_bits-sum.ensures c.if-overflows.ensures

pub returns-else-overflows : goal.returns-else-overflows
returns-else-overflows c =
    sum_fits _ _ _ _ _ _ (word c.args.self (omega arith) (omega arith)) (word c.args.other (omega arith) (omega arith)) (word c.add_bits-sum.result (omega arith) (omega arith))
    c.add_bits-sum.ensures c.if-overflows.ensures
