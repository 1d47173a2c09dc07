-- `numbers::sub_bits` meets its contract: the borrow law of each half, joined.
-- Assumes nothing.
use Rattle.std.proofs.Common.{◌^◌}
use Rattle.numbers.proofs.Halves.{difference_whole}
use Rattle.numbers.proofs.Words.{wraps}
use Rattle.numbers.proofs.sums.sub_bits.Goals as goal

pub returns : goal.returns
returns c =
    let a = c.args.a in
    let b = c.args.b in
    let low = c.sub_half-low in
    let high = c.sub_borrow-high in
    wraps
    (difference_whole (2 ^ 64) a.high a.low b.high b.low low.result.value low.result.carry high.result.value high.result.carry low.ensures.0 high.ensures.0
    high.ensures.1)
