-- `Writer::put_bytes` meets its contract.
use Rattle.listing.specs.writer.Writes.{writes_next}
use Rattle.listing.proofs.writer.Writer.put_bytes.Goals as goal

pub loop-b-preserved : goal.loop-b-preserved
loop-b-preserved c = writes_next _ _ c.loop-b-test.true c.loop-b.invariant c.put_byte.ensures
