use Rattle.std.specs.Prelude.{Err}
use Rattle.std.proofs.Common.{◌≡◌, arith}
use Rattle.stages.specs.ranges.Values.{usbr_of}
use Rattle.stages.proofs.ranges.usbr.Joins.{simplify_ok, simplify_refused}
use Rattle.stages.proofs.ranges.types.Usbr.simplify.Goals as goal

pub returns-in_err-numbers : goal.returns-in_err-numbers
returns-in_err-numbers c base f =
    let a = c.args in
    let same : c.from_residual.result ≡ Err c.in_err-numbers.field-0.0 = grind arith in
    rw same (simplify_refused a.image.now a.tree base (usbr_of a.image.now a.tree base a.self) c.in_err-numbers.field-0.0 (c.in_err-numbers.ensures base f))

pub checked-requires : goal.checked-requires
checked-requires c = (c.requires.0, (c.in_ok-numbers.ensures c.requires.0 c.requires.1).held)

pub returns : goal.returns
returns c base f =
    let a = c.args in
    let h = c.in_ok-numbers.ensures base f in
    simplify_ok a.image.now a.tree base (usbr_of a.image.now a.tree base a.self) c.in_ok-numbers.field-0 c.checked.result
    h (c.checked.ensures base h.held)
