-- `value` meets its contract: each digit goes on with what was read, and 18 of them fit.
use Rattle.std.proofs.Common.{arith}
use Rattle.numbers.proofs.parse.ShortDecimal.{room, one_more, all_read}
use Rattle.numbers.proofs.parse.short.value.Goals as goal

pub overflow_mul-n : goal.overflow_mul-n
overflow_mul-n c = omega (arith, room _ _ 17 c.loop-b.invariant.0 (omega arith))

pub overflow_add-n : goal.overflow_add-n
overflow_add-n c = omega (arith, room _ _ 17 c.loop-b.invariant.0 (omega arith))

pub loop-b-preserved : goal.loop-b-preserved
loop-b-preserved c =
    let told = c.in_ok-n.ensures in
    one_more _ _ _ c.loop-b.invariant.1 c.in_ok-n.field-0 c.loop-b-test.true c.loop-b.invariant.0 (omega (arith, told.value.0, told.value.1)) told.cases

pub returns : goal.returns
returns c = (omega (arith, room _ _ 18 c.loop-b.invariant.0 (omega arith)), all_read _ _ _ c.loop-b.invariant.1 c.loop-b-test.false)
