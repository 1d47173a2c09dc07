use Rattle.std.proofs.Common.{length, sym, ◌∙◌, arith, Err, ◌≡◌}
use Rattle.definition.specs.Basics.{refusal_of}
use Rattle.stages.specs.concatenation.running_check.Running.{running_of}
use Rattle.stages.proofs.concatenation.Kept.{are_length, kth}
use Rattle.stages.proofs.concatenation.check.Turns.{ordered, check_on, check_off, checked_off, checked_end}
use Rattle.stages.proofs.concatenation.check.check.Goals as goal

pub advance-requires : goal.advance-requires
advance-requires c =
    let (image, t, cs, a, few) = c.requires in
    let h = kth image t c.args.comps.now cs c.loop-k.k a c.loop-k-test.true in
    ordered image t h.one.base _ (h.is _).staged.c_type

pub loop-k-preserved : goal.loop-k-preserved
loop-k-preserved c image t cs a =
    let s = c.args in
    let v = c.loop-k in
    let h = kth image t s.comps.now cs v.k a c.loop-k-test.true in
    check_on s.i v.k (length s.comps.now) cs h.one h.rest (sym (are_length image t s.comps.now cs a)) c.loop-k-test.true
    (running_of v.r) (running_of c.advance.new.self) (c.in_ok-advance.ensures image t h.one (h.is _))
    ∙ v.invariant image t cs a

pub returns-in_err-advance : goal.returns-in_err-advance
returns-in_err-advance c image t cs a =
    let s = c.args in
    let v = c.loop-k in
    let h = kth image t s.comps.now cs v.k a c.loop-k-test.true in
    let e = c.in_err-advance.field-0.0 in
    let same : c.from_residual.result ≡ Err e = grind arith in
    rw same
    (checked_off s.i cs _
    (sym (v.invariant image t cs a)
    ∙ check_off s.i v.k (length s.comps.now) cs h.one h.rest (sym (are_length image t s.comps.now cs a)) c.loop-k-test.true
    (running_of v.r) (running_of c.advance.new.self) (refusal_of e.number e.concatenation e.component) (c.in_err-advance.ensures image t h.one (h.is _))))

pub returns-in_err-finish : goal.returns-in_err-finish
returns-in_err-finish c image t cs a =
    let s = c.args in
    let v = c.loop-k in
    let same : c.from_residual-in_err-finish.result ≡ Err c.in_err-finish.field-0.0 = grind arith in
    rw same
    (checked_end s.i cs v.k (length s.comps.now) (running_of v.r) (sym (are_length image t s.comps.now cs a)) c.loop-k-test.false (v.invariant image t cs a)
    _ c.in_err-finish.ensures)

pub returns : goal.returns
returns c image t cs a =
    let s = c.args in
    let v = c.loop-k in
    checked_end s.i cs v.k (length s.comps.now) (running_of v.r) (sym (are_length image t s.comps.now cs a)) c.loop-k-test.false (v.invariant image t cs a)
    _ c.in_ok-finish.ensures
