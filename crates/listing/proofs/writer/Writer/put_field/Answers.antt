-- `Writer::put_field` meets its contract.
use Rattle.std.proofs.Common.{sym}
use Rattle.definition.specs.Answer.{field_at}
use Rattle.listing.specs.Parts.{field_parts}
use Rattle.listing.specs.writer.Writes.{◌⨾◌, read_as}
use Rattle.listing.proofs.writer.Writer.put_field.Goals as goal

pub returns : goal.returns
returns c =
    read_as (sym (field_parts (field_at c.args.a.now.image.now c.args.a.now.bytes.now c.args.k)))
    ((rw (c.u32_at-3.ensures, c.u32_at.ensures) at c.put_kind.ensures)
    ⨾ (rw c.u32_at.ensures at c.put_bounds.ensures)
    ⨾ (rw (c.u32_at.ensures, c.u32_at-2.ensures) at c.put_content.ensures)
    ⨾ c.put_byte.ensures)
