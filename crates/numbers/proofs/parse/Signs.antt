-- A number without a sign, in two halves, as a number with one: what each way through the code gives.
use Rattle.std.specs.Prelude.{if◌then◌else◌}
use Rattle.std.proofs.Common.{◌≡◌, ℕ, zero, suc, ◌+◌, ◌*◌, ◌^◌, ◌<◌, ◌≤◌, Bool, true, false, ltb, ℤ, pos, refl, ◌⊎◌, inl, inr, mul-le-mul_right, arith, lit<, ltb-false, le-ltb, lt-ltb}
use mathlib.Core.Option.{Option, none, some}
use Rattle.definition.specs.Numbers.{half128, narrow, signed_as}
use Rattle.numbers.specs.Value.{value_of}
use Rattle.numbers.specs.parse.Parts.{capped_option, negated, full128}
use Rattle.numbers.proofs.parse.Product.{within}

-- past 2^127 there is no number, with either sign
pos_past : (n : ℕ) → half128 ≤ n → none ≡ narrow (pos n)
pos_past n h = rw (le-ltb n half128 h)

neg_past : (n : ℕ) → half128 < n → none ≡ narrow (negated n)
neg_past zero h = absurd (omega arith)
neg_past (suc k) h = let past : half128 ≤ k = omega arith in rw (le-ltb k half128 past)

-- a number that does not fit
from_half : (n : ℕ) → none ≡ narrow (pos n) → half128 ≤ n
from_half n = go (ltb n half128) refl
  where
    go : (t : Bool) → ltb n half128 ≡ t → none ≡ (if t then some (pos n) else none) → half128 ≤ n
    go true e h = let z : ◌≡◌ {A = ℕ} 0 1 = cc in absurd (omega arith)
    go false e h = ltb-false n half128 e

half_below_full : half128 < full128
unfolding half128 full128
half_below_full = lit< tt

-- so what passes 128 bits may be left out
signed_capped : (f : ℕ → ℤ) → ((n : ℕ) → half128 < n → none ≡ narrow (f n)) → (o : Option ℕ) → signed_as f (capped_option o) ≡ signed_as f o
signed_capped f p none = refl
signed_capped f p (some n) = go (ltb n full128) refl
  where
    go : (t : Bool) → ltb n full128 ≡ t → signed_as f (if t then some n else none) ≡ narrow (f n)
    go true e = refl
    go false e = (p n (omega (arith, half_below_full, ltb-false n full128 e)))

module _ (H B h l : ℕ) where
  half_past : H ≤ h → H * B ≤ h * B + l
  half_past p = omega (arith, mul-le-mul_right B p)

module _ (h l : ℕ) where
  value_below : h < 2 ^ 63 → value_of (record { high = h; low = l }) ≡ pos (h * 2 ^ 64 + l)
  unfolding value_of
  value_below p = rw (lt-ltb h (2 ^ 63) p)

  pub positive_fits : h < 2 ^ 63 → l < 2 ^ 64 → some (value_of (record { high = h; low = l })) ≡ narrow (pos (h * 2 ^ 64 + l))
  unfolding half128
  positive_fits p q = rw (value_below p, lt-ltb (h * 2 ^ 64 + l) (2 ^ 127) (within (2 ^ 63) (2 ^ 64) h l p q))

  pub positive_past : 2 ^ 63 ≤ h → none ≡ narrow (pos (h * 2 ^ 64 + l))
  unfolding half128
  positive_past p = pos_past (h * 2 ^ 64 + l) (half_past (2 ^ 63) (2 ^ 64) h l p)

  -- with a minus, 2^127 fits too
  pub negative_least : h ≡ 2 ^ 63 → l ≡ 0 → some (value_of (record { high = 2 ^ 63; low = 0 })) ≡ narrow (negated (h * 2 ^ 64 + l))
  unfolding half128 value_of
  negative_least p q = rw (p, q)

  -- past that there is none
  pub negative_past : l < 2 ^ 64 → none ≡ narrow (pos (h * 2 ^ 64 + l)) → ((h ≡ 2 ^ 63) × (l ≡ 0 → ⊥)) ⊎ (h ≡ 2 ^ 63 → ⊥) → none ≡ narrow (negated (h * 2 ^ 64 + l))
  unfolding half128
  negative_past small past apart = neg_past (h * 2 ^ 64 + l) (above apart (from_half (h * 2 ^ 64 + l) past))
    where
      above : ((h ≡ 2 ^ 63) × (l ≡ 0 → ⊥)) ⊎ (h ≡ 2 ^ 63 → ⊥) → 2 ^ 127 ≤ h * 2 ^ 64 + l → 2 ^ 127 < h * 2 ^ 64 + l
      above (inl (a, b)) p = omega arith
      above (inr f) p = omega arith

pub positive_capped : (o : Option ℕ) → signed_as pos (capped_option o) ≡ signed_as pos o
positive_capped = signed_capped (λ n. pos n) (λ n h. pos_past n (omega arith))

pub negative_capped : (o : Option ℕ) → signed_as negated (capped_option o) ≡ signed_as negated o
negative_capped = signed_capped negated neg_past
