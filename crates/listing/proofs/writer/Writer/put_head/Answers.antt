-- `Writer::put_head` meets its contract.
use Rattle.std.proofs.Common.{◌∙◌}
use Rattle.definition.specs.Basics.{ascii}
use Rattle.listing.specs.writer.Writes.{◌⨾◌, read_as}
use Rattle.listing.proofs.Lines.{headed}
use Rattle.listing.proofs.writer.Writer.put_head.Goals as goal

pub returns : goal.returns
unfolding ascii
returns c =
    read_as
    (headed (ascii "layout") _ _ _ _
    ∙ rw (c.u32_at-groups.ensures, c.u32_at-fields.ensures, c.width_at-width.ensures, c.u32_at-flags.ensures, c.u32_at-align.ensures))
    (c.put_bytes.ensures ⨾ c.put_count.ensures ⨾ c.put_count-2.ensures ⨾ c.put_summary.ensures ⨾ c.put_init.ensures ⨾ c.put_byte.ensures)
