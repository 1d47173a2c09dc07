-- `Writer::put_listing` meets its contract.
use Rattle.std.proofs.lemmas.List.{take_min}
use Rattle.definition.specs.Listing.{listing}
use Rattle.listing.proofs.writer.Writer.put_listing.Goals as goal

pub returns-in-Ok : goal.returns-in-Ok
unfolding listing
returns-in-Ok c = rw (c.in-Ok.is, ← take_min c.in-Ok.n c.args.area.now, ← c.min.ensures) c.put_answer.ensures

pub returns-in-Err : goal.returns-in-Err
unfolding listing
returns-in-Err c = rw c.in-Err.is c.put_refusal.ensures
