-- A sum cut to 128 bits: the three signs tell whether it is the true sum. A difference is told by the sum that it was taken from.
-- Assumes nothing.
use Rattle.std.proofs.Common.{◌≡◌, ℕ, ◌+◌, Bool, true, false, ◌⊎◌, ℤ, ◌+ℤ◌, ◌-ℤ◌, neg_ℤ, sym, inl, inr, ⊎_elim, arith}
use mathlib.Core.Option.{none, some}
use Rattle.definition.specs.Numbers.{half128, narrow}
use Rattle.numbers.specs.Steps.{Wraps, negative, overflow}
use Rattle.numbers.proofs.Difference.{Is, Beyond, add_is, neg_is, same_is, beyond_fits, narrow_some, narrow_none}
use Rattle.numbers.proofs.Words.{Word, Signed, word_fits}

-- x + y cut to t, with n, m and k taken off for the signs: without an overflow t is the sum; with one, neither the sum
-- x + y nor the difference t - y is within the limits
abbrev Outcome : Bool → (H x y t n m k : ℕ) → Type 0
Outcome false H x y t n m k = x + y + k ≡ t + (n + m)
Outcome true H x y t n m k = Beyond H (x + y) (n + m) × Beyond H (t + m) (k + y)

outcome : (a b s : Bool) (H x y t n m k : ℕ) → Signed H a x n → Signed H b y m → Signed H s t k →
    (t ≡ x + y) ⊎ (t + (H + H) ≡ x + y) → Outcome (overflow a b s) H x y t n m k
outcome false false false H x y t n m k p q r u = ⊎_elim (omega arith) (omega arith) u
outcome false false true H x y t n m k p q r u = (inl (⊎_elim (omega arith) (omega arith) u), inr (⊎_elim (omega arith) (omega arith) u))
outcome false true false H x y t n m k p q r u = ⊎_elim (omega arith) (omega arith) u
outcome false true true H x y t n m k p q r u = ⊎_elim (omega arith) (omega arith) u
outcome true false false H x y t n m k p q r u = ⊎_elim (omega arith) (omega arith) u
outcome true false true H x y t n m k p q r u = ⊎_elim (omega arith) (omega arith) u
outcome true true false H x y t n m k p q r u = (inr (⊎_elim (omega arith) (omega arith) u), inl (⊎_elim (omega arith) (omega arith) u))
outcome true true true H x y t n m k p q r u = ⊎_elim (omega arith) (omega arith) u

module _ (z v w : ℤ) (x y t : ℕ) (hz : Word z x) (hv : Word v y) (hw : Word w t) where
  sum_is : Is (z +ℤ v) (x + y) (hz.off + hv.off)
  sum_is = add_is z v x hz.off y hv.off hz.is hv.is

  difference_is : Is (w -ℤ v) (t + hv.off) (hw.off + y)
  difference_is = add_is w (neg_ℤ v) t hw.off hv.off y hw.is (neg_is v y hv.off hv.is)

  module _ (cut : Wraps t (x + y)) where
    told : (o : Bool) → o ≡ overflow (negative z) (negative v) (negative w) → Outcome o half128 x y t hz.off hv.off hw.off
    told o e =
        rw e
        (outcome (negative z) (negative v) (negative w) half128 x y t hz.off hv.off hw.off hz.sign hv.sign hw.sign cut)

    pub sum_past : true ≡ overflow (negative z) (negative v) (negative w) → none ≡ narrow (z +ℤ v)
    sum_past e = sym (narrow_none (z +ℤ v) (beyond_fits (z +ℤ v) (x + y) (hz.off + hv.off) sum_is (told true e).0))

    pub sum_fits : false ≡ overflow (negative z) (negative v) (negative w) → some w ≡ narrow (z +ℤ v)
    sum_fits e =
        sym (narrow_some (z +ℤ v) w (same_is (z +ℤ v) w (x + y) (hz.off + hv.off) t hw.off sum_is hw.is (told false e)) (word_fits w t hw))

    -- w - v, where z is it cut
    pub difference_past : true ≡ overflow (negative z) (negative v) (negative w) → none ≡ narrow (w -ℤ v)
    difference_past e =
        sym (narrow_none (w -ℤ v) (beyond_fits (w -ℤ v) (t + hv.off) (hw.off + y) difference_is (told true e).1))

    pub difference_fits : false ≡ overflow (negative z) (negative v) (negative w) → some z ≡ narrow (w -ℤ v)
    difference_fits e =
        let u = told false e in
        sym
        (narrow_some (w -ℤ v) z (same_is (w -ℤ v) z (t + hv.off) (hw.off + y) x hz.off difference_is hz.is (omega arith))
        (word_fits z x hz))
