use Rattle.std.proofs.Common.{arith, ◌≡◌, length, sym, ◌∙◌, Err}
use Rattle.stages.proofs.Lists.{end_at}
use Rattle.stages.proofs.concatenation.Kept.{ith, heads_length}
use Rattle.stages.proofs.concatenation.stage4.Loops.{opposite_on, opposite_off, opposite_end}
use Rattle.stages.proofs.concatenation.stage4.opposite_of.Goals as goal

pub returns-in_err-opposite_at : goal.returns-in_err-opposite_at
returns-in_err-opposite_at c image kept ds h =
    let v = c.loop-i in
    let t = ith image kept c.args.heads.now ds v.i h c.loop-i-test.true in
    let same : c.from_residual.result ≡ Err c.in_err-opposite_at.field-0.0 = grind arith in
    rw same (opposite_off v.i ds t.one t.rest _ (c.in_err-opposite_at.ensures image kept ds t.one h t.rest) ∙ v.invariant image kept ds h)

pub loop-i-preserved : goal.loop-i-preserved
loop-i-preserved c image kept ds h =
    let v = c.loop-i in
    let t = ith image kept c.args.heads.now ds v.i h c.loop-i-test.true in
    opposite_on v.i ds t.one t.rest (c.in_ok-opposite_at.ensures image kept ds t.one h t.rest) ∙ v.invariant image kept ds h

pub returns : goal.returns
returns c image kept ds h =
    let v = c.loop-i in
    opposite_end v.i ds (end_at ds v.i (length c.args.heads.now) (sym (heads_length image kept c.args.heads.now ds h)) c.loop-i-test.false)
    ∙ v.invariant image kept ds h
