-- Two halves in a base B: what the carries or borrows of the halves say of the whole.
-- Assumes nothing.
use Rattle.std.proofs.Common.{◌≡◌, ℕ, zero, suc, ◌+◌, ◌*◌, ◌<◌, ◌≤◌, Bool, true, false, ◌⊎◌, refl, ap, inl, inr, mul-le-mul_right, mul_assoc, suc-mul, add-mul, arith}

pub by_test : {G : Type 0} (t : Bool) → (t ≡ true → G) → (t ≡ false → G) → G
by_test true f g = f refl
by_test false f g = g refl

-- what the carry of the high half says of the whole
whole : (M t s d : ℕ) → t + d * M ≡ s → d ≤ 1 → (t ≡ s) ⊎ (t + M ≡ s)
whole M t s zero e h = inl (omega arith)
whole M t s (suc zero) e h = inr (omega arith)
whole M t s (suc (suc d)) e h = absurd (go h)
  where
    go : suc (suc d) ≤ 1 → ⊥
    go k = omega arith

module _ (B ah al bh bl l c h d : ℕ) where
  pub sum_whole : l + c * B ≡ al + bl → h + d * B ≡ ah + bh + c → d ≤ 1 → (h * B + l ≡ ah * B + al + (bh * B + bl)) ⊎ (h * B + l + B * B ≡ ah * B + al + (bh * B + bl))
  sum_whole p q k =
      let r : h * B + d * (B * B) ≡ ah * B + bh * B + c * B = simp (add-mul, mul_assoc) at (ap (λ (n : ℕ). n * B) q) in
      whole (B * B) (h * B + l) (ah * B + al + (bh * B + bl)) d (omega arith) k

  pub difference_whole : l + bl ≡ al + c * B → h + (bh + c) ≡ ah + d * B → d ≤ 1 → (ah * B + al ≡ h * B + l + (bh * B + bl)) ⊎ (ah * B + al + B * B ≡ h * B + l + (bh * B + bl))
  difference_whole p q k =
      let r : h * B + (bh * B + c * B) ≡ ah * B + d * (B * B) = simp (add-mul, mul_assoc) at (ap (λ (n : ℕ). n * B) q) in
      whole (B * B) (ah * B + al) (h * B + l + (bh * B + bl)) d (omega arith) k

-- a half that is less leaves room for a whole base
pub above : (B a b : ℕ) → a < b → a * B + B ≤ b * B
above B a b h =
    let k : suc a * B ≤ b * B = mul-le-mul_right B h in
    let e : suc a * B ≡ a * B + B = suc-mul a B in
    omega arith
