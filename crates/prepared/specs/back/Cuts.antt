-- Parts of a byte string that stand back to back, and tables of equal parts.
use Rattle.std.specs.Prelude.{◌≡◌, ◌≤◌, ◌<◌, ◌+◌, ◌*◌, ◌++◌}
use Rattle.std.proofs.Common.{ap, ◌∙◌, length-take, length-drop, take-add, drop-drop}
use Rattle.std.proofs.Math.Nat.{mul-zero}
use native.Mathlib.Omega.{arith}
use Rattle.definition.specs.Prelude.{ℕ, zero, suc, List, length, take, drop}
use Rattle.definition.specs.Basics.{joined, tab}

module _ {A : Type 0} where
  -- n elements from a place
  abbrev pub cut : List A → ℕ → ℕ → List A
  cut s at n = take n (drop at s)

  pub cut_add : (s : List A) (at n m : ℕ) → cut s at (n + m) ≡ cut s at n ++ cut s (at + n) m
  cut_add s at n m = take-add n m (drop at s) ∙ ap (λ r. cut s at n ++ take m r) (drop-drop n at s)

  pub length_cut : (s : List A) (at n : ℕ) → at + n ≤ length s → length (cut s at n) ≡ n
  length_cut s at n h = simp (length-take, length-drop) (omega arith)

  -- a table of parts of w elements each
  pub table_cut : (s : List A) (g : ℕ → List A) (base w from n : ℕ) → ((i : ℕ) → i < from + n → g i ≡ cut s (base + w * i) w)
      → joined (tab g from n) ≡ cut s (base + w * from) (w * n)
  unfolding joined tab
  table_cut s g base w from zero h = rw mul-zero
  table_cut s g base w from (suc n) h =
      let more : w * suc n ≡ w + w * n = omega arith in
      let next : base + w * suc from ≡ base + w * from + w = omega arith in
      rw (h from (omega arith), more, cut_add, ← next)
      (ap (λ r. cut s (base + w * from) w ++ r) (table_cut s g base w (suc from) n λ i l. h i (omega arith)))
