-- Numbers whose high half is 0, and the others.
-- Assumes nothing.
use Rattle.std.proofs.Common.{◌≡◌, ◌^◌, eqb, ltb, pos, nat_abs, sym, ap, ◌∙◌, arith, ne_eqb}
use lib.Dec.{eqb-suc-zero}
use Rattle.numbers.specs.declared.I128.{I128}
use Rattle.numbers.specs.Value.{bits, value_of}
use Rattle.numbers.proofs.Halves.{by_test}

pub small : (w : I128) → w.high ≡ 0 → value_of w ≡ pos w.low
unfolding value_of
small w h = rw h (ap pos (omega arith))

pub small_zero : (w : I128) → w.high ≡ 0 → eqb w.low 0 ≡ eqb (nat_abs (value_of w)) 0
small_zero w h = rw (small w h)

pub large_zero : (w : I128) → (w.high ≡ 0 → ⊥) → eqb w.high 0 ≡ eqb (nat_abs (value_of w)) 0
unfolding value_of
large_zero w h =
    ne_eqb w.high 0 h
    ∙ sym (by_test (ltb w.high (2 ^ 63)) (λ e. rw (e, ne_eqb (bits w) 0 (omega arith))) (λ e. rw (e, eqb-suc-zero)))
