-- The record checker: each way through the loop, by the laws of proofs/check/Groups.
use Rattle.std.proofs.Common.{◌≡◌, Err, ℕ, ◌+◌, Bool, List, get_or, sym, ap, ◌∙◌, arith}
use Rattle.definition.specs.Check.{close_right}
use Rattle.image.specs.declared.record_rules.Numbers.{Numbers}
use Rattle.image.specs.check.Parts.{entry_from}
use Rattle.errors.specs.Reasoned.{reasoned}
use Rattle.image.specs.record_rules.Rules.{entry_with, opener_right}
use Rattle.image.proofs.check.Groups.{skip_told, word_refused, word_goes, skip_refused, opener_refused, deep_refused, inside_refused, close_refused, group_goes, says_end}
use Rattle.image.proofs.check.records.+check_in.Goals as goal

module _ (image : List ℕ) (text t : ℕ) (e c : Numbers) (byte : ℕ) (r : Bool) where
  -- a group's text and its closer's kind were looked at
  opener_read : byte ≡ get_or image (text + e.start) 0 → r ≡ opener_right t (entry_with e byte) (entry_with c 0)
      → opener_right t (entry_from image text e) (entry_from image text c) ≡ r
  opener_read p q = ap (λ x. opener_right t (entry_with e x) (entry_with c 0)) (sym p) ∙ sym q

  -- the closer's text and skip were looked at
  closer_read : byte ≡ get_or image (text + c.start) 0 → r ≡ close_right t (entry_with e 0) (entry_with c byte)
      → close_right t (entry_from image text e) (entry_from image text c) ≡ r
  closer_read p q = ap (λ x. close_right t (entry_with e 0) (entry_with c x)) (sym p) ∙ sym q

pub returns-then-not-word_right : goal.returns-then-not-word_right
returns-then-not-word_right t c =
    c.loop-left.invariant.2 _
    (word_refused _ _ _ _ _ c.loop-left-test.true _ (c.numbers_at-e.ensures c.args.p.text)
    (omega (arith, c.if-e-eq0.true)) (sym c.word_right.ensures ∙ c.if-not-word_right.true))

pub loop-left-preserved-then-e-eq0 : goal.loop-left-preserved-then-e-eq0
loop-left-preserved-then-e-eq0 t c =
    let v = c.loop-left in (
      omega (arith, v.invariant.0),
      omega (arith, v.invariant.1),
      λ x says. v.invariant.2 x
          (word_goes _ _ _ _ _ c.loop-left-test.true _ (c.numbers_at-e.ensures c.args.p.text)
          (omega (arith, c.if-e-eq0.true)) (sym c.word_right.ensures ∙ c.if-not-word_right.false) x says),
    )

-- ---- a group
pub returns-then-not-skip_right : goal.returns-then-not-skip_right
returns-then-not-skip_right t c =
    c.loop-left.invariant.2 _
    (skip_refused _ _ _ _ _ c.loop-left-test.true _ (c.numbers_at-e.ensures c.args.p.text)
    (λ z. absurd (omega (arith, z, c.if-e-eq0.false))) (sym c.skip_right.ensures.answer ∙ c.if-not-skip_right.true))

pub returns-then-not-opener_right : goal.returns-then-not-opener_right
returns-then-not-opener_right t c =
    let fits = skip_told (entry_from c.args.image.now c.args.p.text c.numbers_at-e.result) _ (sym c.skip_right.ensures.answer ∙ c.if-not-skip_right.false) in
    let read = opener_read _ _ _ c.numbers_at-e.result c.numbers_at-closer.result _ _ c.byte_of.ensures c.opener_right.ensures in
    c.loop-left.invariant.2 _
    (opener_refused _ _ _ _ _ c.loop-left-test.true _ (c.numbers_at-e.ensures c.args.p.text) fits _ (c.numbers_at-closer.ensures c.args.p.text)
    (read ∙ c.if-not-opener_right.true))

pub returns-then-deep : goal.returns-then-deep
returns-then-deep t c =
    let fits = skip_told (entry_from c.args.image.now c.args.p.text c.numbers_at-e.result) _ (sym c.skip_right.ensures.answer ∙ c.if-not-skip_right.false) in
    let read = opener_read _ _ _ c.numbers_at-e.result c.numbers_at-closer.result _ _ c.byte_of.ensures c.opener_right.ensures in
    c.loop-left.invariant.2 _
    (deep_refused _ _ _ _ _ c.loop-left-test.true _ (c.numbers_at-e.ensures c.args.p.text) fits _ (c.numbers_at-closer.ensures c.args.p.text)
    (read ∙ c.if-not-opener_right.false) (omega (arith, c.if-deep.true)))

pub returns-in_err-check_in : goal.returns-in_err-check_in
returns-in_err-check_in t c =
    let fits = skip_told (entry_from c.args.image.now c.args.p.text c.numbers_at-e.result) _ (sym c.skip_right.ensures.answer ∙ c.if-not-skip_right.false) in
    let read = opener_read _ _ _ c.numbers_at-e.result c.numbers_at-closer.result _ _ c.byte_of.ensures c.opener_right.ensures in
    let same : c.from_residual.result ≡ Err c.in_err-check_in.field-0.0 = grind arith in
    rw same
    (c.loop-left.invariant.2 _
    (inside_refused _ _ _ _ _ c.loop-left-test.true _ (c.numbers_at-e.ensures c.args.p.text) fits _ (c.numbers_at-closer.ensures c.args.p.text)
    (read ∙ c.if-not-opener_right.false) (omega (arith, c.if-deep.false)) (reasoned c.check_in.result) c.check_in.ensures
    _ (ap reasoned c.in_err-check_in.was)))

pub returns-then-not-close_right : goal.returns-then-not-close_right
returns-then-not-close_right t c =
    let fits = skip_told (entry_from c.args.image.now c.args.p.text c.numbers_at-e.result) _ (sym c.skip_right.ensures.answer ∙ c.if-not-skip_right.false) in
    let read = opener_read _ _ _ c.numbers_at-e.result c.numbers_at-closer.result _ _ c.byte_of.ensures c.opener_right.ensures in
    let shut = closer_read _ _ _ c.numbers_at-e.result c.numbers_at-closer.result _ _ c.byte_of-else-e-eq0.ensures c.close_right.ensures in
    c.loop-left.invariant.2 _
    (close_refused _ _ _ _ _ c.loop-left-test.true _ (c.numbers_at-e.ensures c.args.p.text) fits _ (c.numbers_at-closer.ensures c.args.p.text)
    (read ∙ c.if-not-opener_right.false) (omega (arith, c.if-deep.false)) (reasoned c.check_in.result) c.check_in.ensures
    (ap reasoned c.in_ok-check_in.was) (shut ∙ c.if-not-close_right.true))

pub loop-left-preserved : goal.loop-left-preserved
loop-left-preserved t c =
    let fits = skip_told (entry_from c.args.image.now c.args.p.text c.numbers_at-e.result) _ (sym c.skip_right.ensures.answer ∙ c.if-not-skip_right.false) in
    let read = opener_read _ _ _ c.numbers_at-e.result c.numbers_at-closer.result _ _ c.byte_of.ensures c.opener_right.ensures in
    let shut = closer_read _ _ _ c.numbers_at-e.result c.numbers_at-closer.result _ _ c.byte_of-else-e-eq0.ensures c.close_right.ensures in
    let v = c.loop-left in (
      omega (arith, v.invariant.0),
      omega (arith, v.invariant.1),
      λ x says. v.invariant.2 x
          (group_goes _ _ _ _ _ c.loop-left-test.true _ (c.numbers_at-e.ensures c.args.p.text) fits _ (c.numbers_at-closer.ensures c.args.p.text)
          (read ∙ c.if-not-opener_right.false) (omega (arith, c.if-deep.false)) (reasoned c.check_in.result) c.check_in.ensures
          (ap reasoned c.in_ok-check_in.was) (shut ∙ c.if-not-close_right.false) x says),
    )

pub returns : goal.returns
returns t c =
    let v = c.loop-left in
    v.invariant.2 _ (says_end _ _ _ _ v.left c.loop-left-test.false)
