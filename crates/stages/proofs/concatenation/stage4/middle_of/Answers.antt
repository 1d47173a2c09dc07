use Rattle.std.proofs.Common.{arith, ◌≡◌, length, sym, ◌∙◌, Err}
use Rattle.stages.proofs.Lists.{end_at}
use Rattle.stages.proofs.concatenation.Kept.{ith, heads_length}
use Rattle.stages.proofs.concatenation.stage4.Loops.{middle_on, middle_off, middle_end}
use Rattle.stages.proofs.concatenation.stage4.middle_of.Goals as goal

pub middle_at-requires : goal.middle_at-requires
middle_at-requires c =
    let f = c.requires in
    let t = ith f.image c.args.kept.now c.args.heads.now f.ds c.loop-i.i f.are c.loop-i-test.true in
    (f.image, t.one, t.is _)

pub returns-in_err-middle_at : goal.returns-in_err-middle_at
returns-in_err-middle_at c image ds h =
    let v = c.loop-i in
    let t = ith image c.args.kept.now c.args.heads.now ds v.i h c.loop-i-test.true in
    let same : c.from_residual.result ≡ Err c.in_err-middle_at.field-0.0 = grind arith in
    rw same (middle_off v.i ds t.one t.rest _ (c.in_err-middle_at.ensures image t.one (t.is _)) ∙ v.invariant image ds h)

pub loop-i-preserved : goal.loop-i-preserved
loop-i-preserved c image ds h =
    let v = c.loop-i in
    let t = ith image c.args.kept.now c.args.heads.now ds v.i h c.loop-i-test.true in
    middle_on v.i ds t.one t.rest (c.in_ok-middle_at.ensures image t.one (t.is _)) ∙ v.invariant image ds h

pub returns : goal.returns
returns c image ds h =
    let v = c.loop-i in
    middle_end v.i ds (end_at ds v.i (length c.args.heads.now) (sym (heads_length image c.args.kept.now c.args.heads.now ds h)) c.loop-i-test.false)
    ∙ v.invariant image ds h
