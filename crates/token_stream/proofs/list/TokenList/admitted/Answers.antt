-- Test after test, each way out by its law.
use Rattle.std.proofs.Common.{◌≡◌, Err, sym, ◌∙◌, arith}
use Rattle.errors.specs.declared.reasons.TokenReason.TheVariants.{OverLimits}
use Rattle.token_stream.proofs.Refusing.{is_bad, is_empty, is_over, is_short, is_admitted}
use Rattle.token_stream.proofs.list.TokenList.admitted.Goals as goal

pub returns-then-not-tokens_right : goal.returns-then-not-tokens_right
returns-then-not-tokens_right c =
    let a = c.args in
    is_bad a.self.now.list.now a.self.now.text.now a.area (sym c.tokens_right.ensures ∙ c.if-not-tokens_right.true)

pub returns-then-not-none_empty : goal.returns-then-not-none_empty
returns-then-not-none_empty c =
    let a = c.args in
    is_empty a.self.now.list.now a.self.now.text.now a.area (sym c.tokens_right.ensures ∙ c.if-not-tokens_right.false)
    (sym c.none_empty.ensures ∙ c.if-not-none_empty.true)

pub returns-in_err-h : goal.returns-in_err-h
returns-in_err-h c =
    let a = c.args in
    let (over, is) = c.in_err-h.ensures in
    let same : c.from_residual.result ≡ Err OverLimits = grind arith in
    rw same
    (is_over a.self.now.list.now a.self.now.text.now a.area (sym c.tokens_right.ensures ∙ c.if-not-tokens_right.false)
    (sym c.none_empty.ensures ∙ c.if-not-none_empty.false) over)

pub returns-then-area-size_of : goal.returns-then-area-size_of
returns-then-area-size_of c =
    let a = c.args in
    is_short a.self.now.list.now a.self.now.text.now a.area (sym c.tokens_right.ensures ∙ c.if-not-tokens_right.false)
    (sym c.none_empty.ensures ∙ c.if-not-none_empty.false) c.in_ok-h.h c.in_ok-h.ensures c.size_of.ensures c.if-area-size_of.true

pub returns : goal.returns
returns c =
    let a = c.args in
    is_admitted a.self.now.list.now a.self.now.text.now a.area (sym c.tokens_right.ensures ∙ c.if-not-tokens_right.false)
    (sym c.none_empty.ensures ∙ c.if-not-none_empty.false) c.in_ok-h.h c.in_ok-h.ensures c.size_of.ensures c.if-area-size_of.false
