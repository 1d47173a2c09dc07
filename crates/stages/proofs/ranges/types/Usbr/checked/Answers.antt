use Rattle.std.specs.Prelude.{Err}
use Rattle.std.proofs.Common.{◌≡◌, arith}
use Rattle.stages.proofs.ranges.usbr.Gates.{negative, width_refused, range_passed}
use Rattle.stages.proofs.ranges.types.Usbr.checked.Goals as goal

pub returns-then-below_zero : goal.returns-then-below_zero
returns-then-below_zero c base f =
    let a = c.args in
    negative a.image.now a.tree base a.self c.static_val.result (c.static_val.ensures a.image.now a.tree base)
    c.below_zero.result c.below_zero.ensures c.end_val.result (c.end_val.ensures a.image.now a.tree base)
    c.below_zero-2.result c.below_zero-2.ensures c.if-below_zero.true

pub returns-in_err-width_checked : goal.returns-in_err-width_checked
returns-in_err-width_checked c base f =
    let a = c.args in
    let same : c.from_residual.result ≡ Err c.in_err-width_checked.field-0.0 = grind arith in
    rw same (width_refused a.image.now a.tree base a.self c.static_val.result (c.static_val.ensures a.image.now a.tree base)
    c.below_zero.result c.below_zero.ensures c.end_val.result (c.end_val.ensures a.image.now a.tree base)
    c.below_zero-2.result c.below_zero-2.ensures c.if-below_zero.false
    c.static_width-width.result (c.static_width-width.ensures base) c.in_err-width_checked.field-0.0 c.in_err-width_checked.ensures)

pub returns : goal.returns
returns c base f =
    let a = c.args in
    range_passed a.image.now a.tree base a.self c.static_val.result (c.static_val.ensures a.image.now a.tree base)
    c.below_zero.result c.below_zero.ensures c.end_val.result (c.end_val.ensures a.image.now a.tree base)
    c.below_zero-2.result c.below_zero-2.ensures c.if-below_zero.false
    c.static_width-width.result (c.static_width-width.ensures base) c.in_ok-width_checked.ensures f
