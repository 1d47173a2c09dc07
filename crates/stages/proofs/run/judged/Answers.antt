-- `stages::run::judged` meets its contract: stages 4 and 5. Assumes nothing.
use Rattle.std.specs.Prelude.{Err}
use Rattle.std.proofs.Common.{◌≡◌, rules}
use Rattle.stages.specs.component.Start.{scanned_base}
use Rattle.stages.proofs.run.Outcomes.{given, judged_heads, judged_off, answers, judged_on}
use Rattle.stages.proofs.run.judged.Goals as goal

pub stage4-requires : goal.stage4-requires
stage4-requires c = judged_heads c.args.area.now c.requires.0 c.requires.1

pub stage5-requires : goal.stage5-requires
stage5-requires c =
    let f = c.requires.1 in (
      scanned_base c.args.image.now,
      f.ds,
      answers c.args.area.now c.requires.0 f c.args.how _ (given c.args.s c.args.how.held c.is_some.result c.is_some.ensures) c.stage4.result c.stage4.ensures c.in_ok-o.was,
    )

pub returns : goal.returns
returns c =
    judged_on c.args.area.now c.requires.0 c.requires.1 c.args.how _ (given c.args.s c.args.how.held c.is_some.result c.is_some.ensures) c.stage4.result c.stage4.ensures
    c.in_ok-o.was c.stage5.result c.stage5.new.area c.stage5.ensures

pub returns-in_err-o : goal.returns-in_err-o
returns-in_err-o c how st cc ds r t =
    let same : c.from_residual.result ≡ Err c.in_err-o.field-0.0 = search rules in
    rw same
    (judged_off c.args.area.now c.requires.0 c.requires.1 c.args.how _ (given c.args.s c.args.how.held c.is_some.result c.is_some.ensures) c.stage4.result
    c.stage4.ensures c.in_err-o.was how st cc ds r t)
