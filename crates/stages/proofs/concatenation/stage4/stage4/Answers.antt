use Rattle.std.proofs.Common.{arith, ◌≡◌, ◌∙◌, Err}
use Rattle.stages.specs.concatenation.Overall.{overall_of}
use Rattle.stages.proofs.concatenation.stage4.Ends.{ends, refuses}
use Rattle.stages.proofs.concatenation.stage4.stage4.Goals as goal

pub returns-in_err-o : goal.returns-in_err-o
returns-in_err-o c image ds h =
    let same : c.from_residual.result ≡ Err c.in_err-o.field-0.0 = grind arith in
    rw same (refuses c.args.mode c.args.given ds _ (c.in_err-o.ensures image ds h))

pub returns : goal.returns
returns c image ds h = c.checks.ensures image ds h ∙ ends c.args.mode c.args.given ds (overall_of c.in_ok-o.o) (c.in_ok-o.ensures image ds h)
