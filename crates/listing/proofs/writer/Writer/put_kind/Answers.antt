-- `Writer::put_kind` meets its contract.
use Rattle.std.proofs.Common.{arith, ne_eqb}
use Rattle.definition.specs.Basics.{ascii}
use Rattle.listing.proofs.writer.Writer.put_kind.Goals as goal

pub returns-in-1 : goal.returns-in-1
unfolding ascii
returns-in-1 c = rw c.in-1.is c.put_bytes.ensures

pub returns-in-2 : goal.returns-in-2
unfolding ascii
returns-in-2 c = rw c.in-2.is c.put_bytes-in-2.ensures

pub returns-in_default : goal.returns-in_default
unfolding ascii
returns-in_default c = rw (ne_eqb c.args.kind 1 (λ e. omega arith), ne_eqb c.args.kind 2 (λ e. omega arith)) c.put_bytes-in_default.ensures
