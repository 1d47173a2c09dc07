-- `write_listing` meets its contract, whether all fits or not.
use Rattle.std.proofs.Common.{rules, arith}
use Rattle.listing.proofs.Whole.{wrote_whole, wrote_cut}
use Rattle.listing.proofs.write_listing.Goals as goal

pub returns-then-w : goal.returns-then-w
returns-then-w c = wrote_whole c.put_listing.ensures.put (search rules) (omega arith) (omega arith)

pub returns-else-w : goal.returns-else-w
returns-else-w c = wrote_cut c.put_listing.ensures.put (search rules) (omega arith)
