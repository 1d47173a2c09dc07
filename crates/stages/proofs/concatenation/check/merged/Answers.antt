use Rattle.std.proofs.Common.{◌+◌, length, sym, ap, ◌∙◌, arith, ◌≡◌}
use Rattle.definition.specs.Concatenation.{is_static_literal}
use Rattle.stages.proofs.concatenation.Kept.{are_length, kth}
use Rattle.stages.proofs.concatenation.check.Counts.{one_more_if}
use Rattle.stages.proofs.concatenation.check.Turns.{count_start, count_on, count_end, added, same}
use Rattle.stages.proofs.concatenation.check.merged.Goals as goal
use Rattle.stages.proofs.concatenation.check.merged.Goals.{then-not-was-now, else-not-was-now}

pub loop-c-init : goal.loop-c-init
loop-c-init c = record { few = omega arith; counts = λ image t cs a. count_start cs }

pub loop-c-preserved : goal.loop-c-preserved
loop-c-preserved c =
    let v = c.loop-c in
    let now = c.is_static_literal-now in
    let w : now.result ≡ c.if-not-was-now.was = elim c.if-not-was-now.branch [ then-not-was-now w ↦ sym w.was-is | else-not-was-now w ↦ sym w.was-is ] in
    let one : c.if-not-was-now.m ≡ v.m + one_more_if v.was now.result =
    elim c.if-not-was-now.branch [
      | then-not-was-now w ↦ w.m-is ∙ added v.was now.result v.m w.if-not-was-now.true
      | else-not-was-now w ↦ w.m-is ∙ same v.was now.result v.m w.if-not-was-now.false
    ] in
    record {
      few = elim c.if-not-was-now.branch [ then-not-was-now w ↦ omega arith | else-not-was-now w ↦ omega arith ];
      counts = λ image t cs a.
          let h = kth image t c.args.comps.now cs v.c-index a c.loop-c-test.true in
          rw (← w)
          (count_on v.c-index cs h.one h.rest v.m c.if-not-was-now.m v.was now.result
          (now.ensures image t h.one.base ∙ ap is_static_literal (h.is _).value) one (v.invariant.counts image t cs a));
    }

pub returns : goal.returns
returns c = (
  omega arith,
  λ image t cs a. count_end cs c.loop-c.c-index (length c.args.comps.now) c.loop-c.m c.loop-c.was (sym (are_length image t c.args.comps.now cs a))
      c.loop-c-test.false (c.loop-c.invariant.counts image t cs a),
)
