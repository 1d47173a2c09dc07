-- `Writer::put_count` meets its contract.
use Rattle.listing.specs.writer.Writes.{◌⨾◌}
use Rattle.listing.proofs.writer.Writer.put_count.Goals as goal

pub returns : goal.returns
returns c = c.put_byte.ensures ⨾ (rw c.into.ensures at c.put_decimal.ensures)
