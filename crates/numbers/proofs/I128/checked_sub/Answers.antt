-- `I128::checked_sub` meets its contract: self is the difference plus other, so three signs tell whether the difference is the true one.
-- Assumes nothing.
use Rattle.std.proofs.Common.{arith}
use Rattle.numbers.proofs.Words.{word}
use Rattle.numbers.proofs.sums.Sums.{difference_past, difference_fits}
use Rattle.numbers.proofs.I128.checked_sub.Goals as goal

pub returns-then-overflows : goal.returns-then-overflows
returns-then-overflows c =
    difference_past _ _ _ _ _ _ (word c.sub_bits-difference.result (omega arith) (omega arith)) (word c.args.other (omega arith) (omega arith)) (word c.args.self (omega arith) (omega arith))
    c.sub_bits-difference.ensures c.if-overflows.ensures

pub returns-else-overflows : goal.returns-else-overflows
returns-else-overflows c =
    difference_fits _ _ _ _ _ _ (word c.sub_bits-difference.result (omega arith) (omega arith)) (word c.args.other (omega arith) (omega arith)) (word c.args.self (omega arith) (omega arith))
    c.sub_bits-difference.ensures c.if-overflows.ensures
