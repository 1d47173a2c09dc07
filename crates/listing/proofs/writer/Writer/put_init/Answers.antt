-- `Writer::put_init` meets its contract.
use Rattle.definition.specs.Basics.{ascii}
use Rattle.listing.specs.writer.Writes.{◌⨾◌}
use Rattle.listing.proofs.writer.Writer.put_init.Goals as goal

pub returns-then-is_set : goal.returns-then-is_set
returns-then-is_set c =
    rw (← c.u32_at.ensures, ← c.is_set.ensures, c.if-is_set.true) (c.put_byte.ensures ⨾ c.put_byte-then-is_set.ensures ⨾ c.put_text_at.ensures)

pub returns : goal.returns
unfolding ascii
returns c = rw (← c.u32_at.ensures, ← c.is_set.ensures, c.if-is_set.false) (c.put_byte.ensures ⨾ c.put_byte-2.ensures)
