-- `Writer::put_summary` meets its contract.
use Rattle.std.proofs.Common.{append-nil}
use Rattle.definition.specs.Basics.{ascii}
use Rattle.listing.specs.words.Spaced.{spaced}
use Rattle.listing.specs.writer.Writes.{◌⨾◌, read_as}
use Rattle.listing.proofs.writer.Writer.put_summary.Goals as goal

pub returns : goal.returns
unfolding spaced ascii
returns c =
    read_as (rw append-nil)
    (c.put_width.ensures ⨾ c.put_align.ensures ⨾ (rw c.is_set.ensures at c.put_flag.ensures) ⨾ (rw c.is_set-2.ensures at c.put_flag-2.ensures))
