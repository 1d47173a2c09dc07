-- `Writer::put_align` meets its contract.
use Rattle.std.proofs.Common.{arith, ne_eqb}
use Rattle.definition.specs.Basics.{ascii}
use Rattle.listing.proofs.writer.Writer.put_align.Goals as goal

pub returns-in-0 : goal.returns-in-0
unfolding ascii
returns-in-0 c = rw c.in-0.is c.put_bytes.ensures

pub returns-in-1 : goal.returns-in-1
unfolding ascii
returns-in-1 c = rw c.in-1.is c.put_bytes-in-1.ensures

pub returns-in-2 : goal.returns-in-2
unfolding ascii
returns-in-2 c = rw c.in-2.is c.put_bytes-in-2.ensures

pub returns-in-3 : goal.returns-in-3
unfolding ascii
returns-in-3 c = rw c.in-3.is c.put_bytes-in-3.ensures

pub returns-in-4 : goal.returns-in-4
unfolding ascii
returns-in-4 c = rw c.in-4.is c.put_bytes-in-4.ensures

pub returns-in_default : goal.returns-in_default
unfolding ascii
returns-in_default c =
    let a = c.args.align in
    rw (ne_eqb a 0 (λ e. omega arith), ne_eqb a 1 (λ e. omega arith), ne_eqb a 2 (λ e. omega arith), ne_eqb a 3 (λ e. omega arith), ne_eqb a 4 (λ e. omega arith)) c.put_bytes-in_default.ensures
