use Rattle.std.specs.Prelude.{Err}
use Rattle.std.proofs.Common.{◌≡◌, arith}
use Rattle.stages.proofs.ranges.range.Cuts.{start_refused, end_refused, ranged_ok}
use Rattle.stages.proofs.ranges.range.ranged.Goals as goal

pub returns-in_err-start : goal.returns-in_err-start
returns-in_err-start c base s lo hi is h el eh order most below =
    let a = c.args in
    let same : c.from_residual.result ≡ Err c.in_err-start.field-0.0 = grind arith in
    rw same (start_refused a.image.now a.tree base a.run.stop.0 a.run.end.0 a.run.r.0 s is h lo hi a.d.lo.0 a.d.hi.0 a.d.inclusive el eh most below
    c.in_err-start.field-0.0 c.in_err-start.ensures)

pub returns-in_err-end : goal.returns-in_err-end
returns-in_err-end c base s lo hi is h el eh order most below =
    let a = c.args in
    let same : c.from_residual-in_err-end.result ≡ Err c.in_err-end.field-0.0 = grind arith in
    rw same (end_refused a.image.now a.tree base a.run.stop.0 a.run.end.0 a.run.r.0 s is h lo hi a.d.lo.0 a.d.hi.0 a.d.inclusive el eh most below
    c.in_ok-start.start c.in_ok-start.ensures c.in_err-end.field-0.0 c.in_err-end.ensures)

pub returns : goal.returns
returns c base s lo hi is h el eh order most below =
    let a = c.args in
    ranged_ok a.image.now a.tree base a.run.stop.0 a.run.end.0 a.run.r.0 s is h lo hi a.d.lo.0 a.d.hi.0 a.d.inclusive el eh most below
    c.in_ok-start.start c.in_ok-start.ensures c.in_ok-end.«end» c.in_ok-end.ensures
