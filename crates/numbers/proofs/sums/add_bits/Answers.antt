-- `numbers::add_bits` meets its contract: the carry law of each half, joined.
-- Assumes nothing.
use Rattle.std.proofs.Common.{◌^◌}
use Rattle.numbers.proofs.Halves.{sum_whole}
use Rattle.numbers.proofs.Words.{wraps}
use Rattle.numbers.proofs.sums.add_bits.Goals as goal

pub returns : goal.returns
returns c =
    let a = c.args.a in
    let b = c.args.b in
    let low = c.add_half-low in
    let high = c.add_carry-high in
    wraps
    (sum_whole (2 ^ 64) a.high a.low b.high b.low low.result.value low.result.carry high.result.value high.result.carry low.ensures.0 high.ensures.0
    high.ensures.1)
