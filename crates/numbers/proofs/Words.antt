-- What two halves mean: their bits as a number, less 2^128 where the highest bit is set.
-- Assumes nothing.
use Rattle.std.proofs.Common.{◌≡◌, ℕ, suc, ◌+◌, ◌-◌, ◌*◌, ◌^◌, ◌<◌, ◌≤◌, Bool, true, false, ltb, leb, ◌⊎◌, ℤ, pos, negsuc, sym, refl, ap, ◌∙◌, subst, mul-le-mul_right, add-mul, arith, ltb-false, ltb-true, le-leb}
use borrow.Author.Tests.{lt-leb}
use Rattle.definition.specs.Numbers.{half128, fits128}
use Rattle.numbers.specs.declared.I128.{I128}
use Rattle.numbers.specs.Steps.{Wraps, negative}
use Rattle.numbers.specs.Value.{bits, value_of}
use Rattle.numbers.proofs.Halves.{by_test, above}
use Rattle.numbers.proofs.Difference.{Is, within_fits}

-- the sign of a number below 2H, and what is taken off for it
abbrev pub Signed : ℕ → Bool → ℕ → ℕ → Type 0
Signed H false x n = (x < H) × (n ≡ 0)
Signed H true x n = (H ≤ x) × (x < H + H) × (n ≡ H + H)

-- z is what the bits x mean
pub record Word (z : ℤ) (x : ℕ) : Type 0 where
  pub off : ℕ
  pub sign : Signed half128 (negative z) x off
  pub is : Is z x off

-- the halves' places in a base: below S, from S on, and both turned over
low_part : (B S h l : ℕ) → h < S → l < B → h * B + l < S * B
low_part B S h l p q = omega (arith, above B h S p)

high_part : (B S h l : ℕ) → S ≤ h → S * B ≤ h * B + l
high_part B S h l p = omega (arith, mul-le-mul_right B p)

turned : (B k h m l : ℕ) → k + h + 1 ≡ B → m + l + 1 ≡ B → suc (k * B + m + (h * B + l)) ≡ B * B
turned B k h m l p q =
    let e : k * B + h * B + 1 * B ≡ B * B = simp add-mul at (ap (λ (n : ℕ). n * B) p) in
    omega arith

half_is : half128 ≡ 2 ^ 63 * 2 ^ 64
unfolding half128
half_is = refl

whole_is : half128 + half128 ≡ 2 ^ 64 * 2 ^ 64
unfolding half128
whole_is = refl

module _ (w : I128) (h : w.high < 2 ^ 64) (l : w.low < 2 ^ 64) where
  word_pos : w.high < 2 ^ 63 → Word (pos (bits w)) (bits w)
  word_pos p = record {
    off = 0;
    sign = (subst (λ (H : ℕ). bits w < H) (sym half_is) (low_part (2 ^ 64) (2 ^ 63) w.high w.low p l), refl);
    is = omega arith;
  }

  word_neg : 2 ^ 63 ≤ w.high → Word (negsuc ((2 ^ 64 - 1 - w.high) * 2 ^ 64 + (2 ^ 64 - 1 - w.low))) (bits w)
  word_neg p = record {
    off = half128 + half128;
    sign = (subst (λ (H : ℕ). H ≤ bits w) (sym half_is) (high_part (2 ^ 64) (2 ^ 63) w.high w.low p), subst (λ (M : ℕ). bits w < M) (sym whole_is) (low_part (2 ^ 64) (2 ^ 64) w.high w.low h l), refl);
    is = turned (2 ^ 64) (2 ^ 64 - 1 - w.high) w.high (2 ^ 64 - 1 - w.low) w.low (omega arith) (omega arith) ∙ sym whole_is;
  }

  pub word : Word (value_of w) (bits w)
  unfolding value_of
  word =
      by_test (ltb w.high (2 ^ 63)) (λ e. rw e (word_pos (ltb-true w.high (2 ^ 63) e))) (λ e. rw e (word_neg (ltb-false w.high (2 ^ 63) e)))

-- the sign is the highest bit
pub negative_bit : (w : I128) → leb (2 ^ 63) w.high ≡ negative (value_of w)
unfolding value_of
negative_bit w =
    by_test (ltb w.high (2 ^ 63)) (λ e. rw e (lt-leb (2 ^ 63) w.high (ltb-true w.high (2 ^ 63) e)))
    (λ e. rw e (le-leb (2 ^ 63) w.high (ltb-false w.high (2 ^ 63) e)))

-- every word fits
pub word_fits : (z : ℤ) (x : ℕ) → Word z x → fits128 z ≡ true
word_fits (pos a) x w = within_fits (pos a) x w.off w.is (omega arith) (omega arith)
word_fits (negsuc a) x w = within_fits (negsuc a) x w.off w.is (omega arith) (omega arith)

-- a sum cut by 2^64 squared is cut to 128 bits
pub wraps : {t s : ℕ} → (t ≡ s) ⊎ (t + 2 ^ 64 * 2 ^ 64 ≡ s) → Wraps t s
wraps {t} {s} u = subst (λ (M : ℕ). (t ≡ s) ⊎ (t + M ≡ s)) (sym whole_is) u
