-- `Writer::put_refusal` meets its contract.
use Rattle.definition.specs.Basics.{ascii}
use Rattle.definition.specs.Listing.{listing}
use Rattle.listing.specs.writer.Writes.{◌⨾◌, read_as}
use Rattle.listing.proofs.Lines.{refused_line}
use Rattle.listing.proofs.writer.Writer.put_refusal.Goals as goal

pub returns : goal.returns
unfolding ascii listing
returns c =
    read_as (refused_line c.args.r)
    (c.put_bytes.ensures ⨾ c.put_count.ensures ⨾ c.put_count-2.ensures ⨾ c.put_count-3.ensures ⨾ c.put_byte.ensures)
