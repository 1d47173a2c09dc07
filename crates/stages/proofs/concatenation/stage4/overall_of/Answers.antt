use Rattle.std.proofs.Common.{◌≡◌, length, sym, ap, ◌∙◌, Err, arith}
use Rattle.definition.specs.Overall.{overall_from}
use Rattle.stages.specs.concatenation.Overall.{overall_of}
use Rattle.stages.proofs.Lists.{end_at}
use Rattle.stages.proofs.concatenation.Kept.{ith, heads_length}
use Rattle.stages.proofs.concatenation.stage4.Loops.{over_on, over_off, over_source, over_end, start_of}
use Rattle.stages.proofs.concatenation.stage4.overall_of.Goals as goal

pub loop-i-init : goal.loop-i-init
loop-i-init c image ds h =
    let some = c.requires.some in
    let t = ith image c.args.kept.now c.args.heads.now ds 0 h (omega arith) in
    ap (overall_from c.args.bare 0 ds) (start_of ds t.one t.rest (overall_of c.start-o.result) (λ l. c.start-o.ensures t.one l (t.is _).summary))

pub check_source-requires : goal.check_source-requires
check_source-requires c =
    let f = c.requires in
    let t = ith f.image c.args.kept.now c.args.heads.now f.ds c.loop-i.i f.are c.loop-i-test.true in
    (f.image, t.one, t.is _)

pub returns-in_err-o : goal.returns-in_err-o
returns-in_err-o c image ds h =
    let s = c.args in
    let v = c.loop-i in
    let t = ith image s.kept.now s.heads.now ds v.i h c.loop-i-test.true in
    let same : c.from_residual.result ≡ Err c.in_err-o.field-0.0 = grind arith in
    rw same (over_off v.i ds t.one t.rest s.bare (overall_of v.o) _ (c.in_err-o.ensures t.one (t.is _).summary) ∙ v.invariant image ds h)

pub returns-in_err-check_source : goal.returns-in_err-check_source
returns-in_err-check_source c image ds h =
    let s = c.args in
    let v = c.loop-i in
    let t = ith image s.kept.now s.heads.now ds v.i h c.loop-i-test.true in
    let same : c.from_residual-in_err-check_source.result ≡ Err c.in_err-check_source.field-0.0 = grind arith in
    rw same
    (over_source v.i ds t.one t.rest s.bare (overall_of v.o) (overall_of c.in_ok-o.o) _ (c.in_ok-o.ensures t.one (t.is _).summary)
    (c.in_err-check_source.ensures image t.one (t.is _))
    ∙ v.invariant image ds h)

pub loop-i-preserved : goal.loop-i-preserved
loop-i-preserved c image ds h =
    let s = c.args in
    let v = c.loop-i in
    let t = ith image s.kept.now s.heads.now ds v.i h c.loop-i-test.true in
    over_on v.i ds t.one t.rest s.bare (overall_of v.o) (overall_of c.in_ok-o.o) (c.in_ok-o.ensures t.one (t.is _).summary)
    (c.in_ok-check_source.ensures image t.one (t.is _))
    ∙ v.invariant image ds h

pub returns : goal.returns
returns c image ds h =
    let s = c.args in
    let v = c.loop-i in
    over_end v.i ds (end_at ds v.i (length s.heads.now) (sym (heads_length image s.kept.now s.heads.now ds h)) c.loop-i-test.false) s.bare (overall_of v.o)
    ∙ v.invariant image ds h
