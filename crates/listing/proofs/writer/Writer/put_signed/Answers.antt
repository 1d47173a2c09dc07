-- `Writer::put_signed` meets its contract.
use Rattle.std.proofs.Common.{arith}
use Rattle.listing.specs.writer.Writes.{◌⨾◌, read_as}
use Rattle.listing.proofs.decimal.Signs.{plus_of, minus_of}
use Rattle.listing.proofs.writer.Writer.put_signed.Goals as goal

pub returns-then-n-lt9223372036854775808 : goal.returns-then-n-lt9223372036854775808
returns-then-n-lt9223372036854775808 c =
    read_as (plus_of _ _ c.if-n-lt9223372036854775808.true (omega arith)) (c.put_byte.ensures ⨾ c.put_decimal.ensures)

pub returns : goal.returns
returns c =
    read_as (minus_of c.args.n.high c.args.n.low _ c.if-n-lt9223372036854775808.false (omega arith) (omega arith) c.negated.ensures)
    (c.put_byte-2.ensures ⨾ c.put_decimal-2.ensures)
