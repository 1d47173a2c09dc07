-- `Writer::put_bounds` meets its contract.
use Rattle.listing.specs.words.Spaced.{two_spaced}
use Rattle.listing.specs.writer.Writes.{◌⨾◌, read_as}
use Rattle.listing.proofs.writer.Writer.put_bounds.Goals as goal

pub returns : goal.returns
returns c = read_as (two_spaced _ _) (c.put_byte.ensures ⨾ c.put_bound.ensures ⨾ c.put_byte-2.ensures ⨾ c.put_end.ensures)
