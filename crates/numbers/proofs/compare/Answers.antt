-- `compare` meets its contract: of one sign by the bits, else by the signs.
-- Assumes nothing.
use Rattle.std.proofs.Common.{arith}
use Rattle.numbers.proofs.Order.{order}
use Rattle.numbers.proofs.compare.Goals as goal

pub returns : goal.returns
returns c =
    rw (c.then-2.ensures, c.then.ensures, c.by_sign.ensures, c.cmp.ensures, c.cmp-2.ensures)
    (order c.args.a c.args.b (omega arith) (omega arith) (omega arith) (omega arith))
