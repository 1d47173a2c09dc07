-- `stages::run::later` meets its contract: stage 3, and what comes behind it. Assumes nothing.
use Rattle.std.specs.Prelude.{Err}
use Rattle.std.proofs.Common.{◌≡◌, rules, arith}
use Rattle.stages.proofs.run.Outcomes.{read_counts, few_heads, judged_fits, later_on, later_off}
use Rattle.stages.proofs.run.later.Goals as goal

pub stage3-requires : goal.stage3-requires
stage3-requires c = let (fits, f) = c.requires in (f.cc, read_counts fits f 16 (few_heads fits f))

pub slice_bounds-heads-end : goal.slice_bounds-heads-end
slice_bounds-heads-end c =
    let (fits, f) = c.requires in
    let few = few_heads fits f in
    omega (arith, few, c.stage3.auto.heads)

pub judged-requires : goal.judged-requires
judged-requires c =
    let (fits, f) = c.requires in (fits, judged_fits fits f c.stage3.new.heads c.stage3.result c.stage3.ensures c.in_ok-stage3.was)

pub returns : goal.returns
returns c =
    let (fits, f) = c.requires in
    later_on fits f c.stage3.new.heads c.stage3.result c.stage3.ensures c.args.how c.args.area.now c.in_ok-stage3.was c.judged.result c.judged.new.area c.judged.ensures

pub returns-in_err-stage3 : goal.returns-in_err-stage3
returns-in_err-stage3 c how st cc r =
    let (fits, f) = c.requires in
    let same : c.from_residual.result ≡ Err c.in_err-stage3.field-0.0 = search rules in
    rw same (later_off fits f c.stage3.new.heads c.stage3.result c.stage3.ensures how c.args.area.now c.in_err-stage3.was cc r)
