-- `Writer::put_bound` meets its contract.
use Rattle.listing.specs.writer.Writes.{◌⨾◌}
use Rattle.listing.proofs.Components.{four}
use Rattle.listing.proofs.writer.Writer.put_bound.Goals as goal

pub returns : goal.returns
returns c =
    c.put_text_at.ensures ⨾ (rw (c.width_at.ensures, c.width_at-2.ensures, four c.args.a.now.bytes.now c.args.place) at c.put_signed.ensures)
