-- `magnitude_by` meets its contract: a law for each way through it.
use Rattle.std.proofs.Common.{refl, sym, rules}
use borrow.Author.Tests.{eqb-false}
use Rattle.numbers.proofs.parse.Digits.{finished, ended, passed, again}
use Rattle.numbers.proofs.parse.Product.{halves_fit}
use Rattle.numbers.proofs.parse.magnitude_by.Goals as goal

pub loop-b-init : goal.loop-b-init
loop-b-init c = (halves_fit 0 0 (search rules) (search rules), refl)

pub returns-in_err-d : goal.returns-in_err-d
returns-in_err-d c =
    rw c.from_residual.ensures (ended _ _ _ _ c.loop-b.invariant.1 c.loop-b-test.true (eqb-false _ _ (sym c.if-is_empty.ensures)) c.in_err-d.ensures)

pub returns-in_err-v : goal.returns-in_err-v
returns-in_err-v c =
    rw c.from_residual-in_err-v.ensures
    (passed _ _ _ _ c.loop-b.invariant.1 c.loop-b-test.true _ c.in_ok-d.ensures (eqb-false _ _ (sym c.if-is_empty.ensures)) c.requires.0 c.in_err-v.ensures)

pub loop-b-preserved : goal.loop-b-preserved
loop-b-preserved c = again _ _ _ _ c.loop-b.invariant.1 c.loop-b-test.true _ c.in_ok-d.ensures _ c.in_ok-v.ensures

pub returns : goal.returns
returns c = finished _ _ _ _ c.loop-b.invariant.1 (eqb-false _ _ (sym c.if-is_empty.ensures)) c.loop-b-test.false c.loop-b.invariant.0
