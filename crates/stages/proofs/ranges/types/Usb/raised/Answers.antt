use Rattle.std.specs.Prelude.{None, Err}
use Rattle.std.proofs.Common.{◌≡◌, arith}
use Rattle.errors.specs.declared.reasons.Reason.TheVariants as Reasons
use Rattle.stages.proofs.ranges.Bounds.{raised_ok, raised_over}
use Rattle.stages.proofs.ranges.types.Usb.raised.Goals as goal

pub returns-in_err-x : goal.returns-in_err-x
returns-in_err-x c image t base f =
    let none : c.checked_add.result ≡ None = c.in_err-x.ensures.ok_part in
    let same : c.from_residual.result ≡ Err Reasons.BoundOverflow = grind arith in
    rw same (raised_over image t base c.args.self c.checked_add.result c.checked_add.ensures none)

pub returns : goal.returns
returns c image t base f =
    raised_ok image t base c.args.self c.checked_add.result c.checked_add.ensures c.in_ok-x.x c.in_ok-x.ensures.ok_part f
    (omega arith) (omega arith)
