-- `Writer::put_flag` meets its contract.
use Rattle.definition.specs.Basics.{ascii}
use Rattle.listing.specs.writer.Writes.{◌⨾◌}
use Rattle.listing.proofs.writer.Writer.put_flag.Goals as goal
use Rattle.listing.proofs.writer.Writer.put_flag.Goals.{then-set, else-set}

pub returns : goal.returns
unfolding ascii
returns c =
    elim c.if-set.branch [
      | then-set w ↦ rw w.if-set.true (c.put_byte.ensures ⨾ (rw w.put_byte-is at c.put_byte-2.ensures))
      | else-set w ↦ rw w.if-set.false (c.put_byte.ensures ⨾ (rw w.put_byte-is at c.put_byte-2.ensures))
    ]
