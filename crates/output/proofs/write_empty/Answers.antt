-- `output::write_empty` meets its contract: the listing of number 2.
use Rattle.definition.specs.Listing.{output}
use Rattle.output.proofs.write_empty.Goals as goal

pub returns : goal.returns
unfolding output
returns c = rw c.into.ensures at c.write_listing.ensures
