use Rattle.std.proofs.Common.{rules, arith, ◌≡◌, true, false, ap, ◌∙◌, Err}
use Rattle.definition.specs.Concatenation.{is_align, align_multiple}
use Rattle.stages.specs.concatenation.alignment.Align.{align_of}
use Rattle.stages.specs.concatenation.Overall.{overall_of, only_of}
use Rattle.stages.proofs.concatenation.Kept.{heads_length}
use Rattle.stages.proofs.concatenation.stage4.Ends.{only_off, settled, middle_off, one_sided, opposite_off, passed}
use Rattle.stages.proofs.concatenation.stage4.checks.Goals as goal

pub returns-in_err-check_only : goal.returns-in_err-check_only
returns-in_err-check_only c image ds h =
    let s = c.args in
    let n = ap (λ n. only_of n s.o.deterministic) (heads_length image s.kept.now s.heads.now ds h) in
    let same : c.from_residual-in_err-check_only.result ≡ Err c.in_err-check_only.field-0.0 = grind arith in
    rw same (only_off s.mode ds (overall_of s.o) c.in_ok-check_common.ensures _ (c.in_err-check_only.ensures ∙ n))

pub returns-then-o : goal.returns-then-o
returns-then-o c image ds h =
    let s = c.args in
    let n = ap (λ n. only_of n s.o.deterministic) (heads_length image s.kept.now s.heads.now ds h) in
    settled s.mode ds (overall_of s.o) c.in_ok-check_common.ensures (c.in_ok-check_only.ensures ∙ n) c.if-o.true

pub returns-in_err-middle_of : goal.returns-in_err-middle_of
returns-in_err-middle_of c image ds h =
    let s = c.args in
    let n = ap (λ n. only_of n s.o.deterministic) (heads_length image s.kept.now s.heads.now ds h) in
    let same : c.from_residual-in_err-middle_of.result ≡ Err c.in_err-middle_of.field-0.0 = grind arith in
    rw same
    (middle_off s.mode ds (overall_of s.o) c.in_ok-check_common.ensures (c.in_ok-check_only.ensures ∙ n) c.if-o.false _
    (c.in_err-middle_of.ensures image ds h))

pub returns-in_err-opposite_of : goal.returns-in_err-opposite_of
returns-in_err-opposite_of c image ds h =
    let s = c.args in
    let n = ap (λ n. only_of n s.o.deterministic) (heads_length image s.kept.now s.heads.now ds h) in
    let multiple : is_align (align_of s.o.align) align_multiple ≡ true = search rules in
    let same : c.from_residual-in_err-opposite_of.result ≡ Err c.in_err-opposite_of.field-0.0 = grind arith in
    rw same
    (opposite_off s.mode ds (overall_of s.o) c.in_ok-check_common.ensures (c.in_ok-check_only.ensures ∙ n) c.if-o.false
    (c.in_ok-middle_of.ensures image ds h) multiple _ (c.in_err-opposite_of.ensures image s.kept.now ds h))

pub returns-in_ok-opposite_of : goal.returns-in_ok-opposite_of
returns-in_ok-opposite_of c image ds h =
    let s = c.args in
    let n = ap (λ n. only_of n s.o.deterministic) (heads_length image s.kept.now s.heads.now ds h) in
    let multiple : is_align (align_of s.o.align) align_multiple ≡ true = search rules in
    passed s.mode ds (overall_of s.o) c.in_ok-check_common.ensures (c.in_ok-check_only.ensures ∙ n) c.if-o.false
    (c.in_ok-middle_of.ensures image ds h) multiple (c.in_ok-opposite_of.ensures image s.kept.now ds h)

pub returns-else-eq : goal.returns-else-eq
returns-else-eq c image ds h =
    let s = c.args in
    let n = ap (λ n. only_of n s.o.deterministic) (heads_length image s.kept.now s.heads.now ds h) in
    let other : is_align (align_of s.o.align) align_multiple ≡ false = search rules in
    one_sided s.mode ds (overall_of s.o) c.in_ok-check_common.ensures (c.in_ok-check_only.ensures ∙ n) c.if-o.false
    (c.in_ok-middle_of.ensures image ds h) other
