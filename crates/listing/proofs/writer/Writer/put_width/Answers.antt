-- `Writer::put_width` meets its contract.
use Rattle.definition.specs.Basics.{ascii}
use Rattle.listing.proofs.writer.Writer.put_width.Goals as goal

pub returns-in-0 : goal.returns-in-0
unfolding ascii
returns-in-0 c = rw c.in-0.is c.put_bytes.ensures
