-- Laws of lists: tests of tables, and of several tests at once.
use Rattle.std.specs.Prelude.{◌≡◌, ◌<◌, ◌+◌, ◌∷◌}
use Rattle.std.proofs.Math.Path.{refl}
use Rattle.definition.specs.Prelude.{ℕ, Bool, true, List, []}
use Rattle.definition.specs.Basics.{all, tab}
use Rattle.laws.specs.Tests.{and_iff}
use Rattle.laws.specs.Lists.{length_tab, get_or_tab, all_get_d, all_by}

module _ {A : Type 0} where
  -- ---- tables

  pub all_tab_at : (p : A → Bool) (f : ℕ → A) (from n : ℕ) → all p (tab f from n) ≡ true → (k : ℕ) → k < n → p (f (from + k)) ≡ true
  all_tab_at p f from n h k l = rw (get_or_tab f from n k (f 0) l) at (all_get_d p (tab f from n) k (f 0) h (rw length_tab l))

  pub all_tab_by : (p : A → Bool) (f : ℕ → A) (from n : ℕ) → ((k : ℕ) → k < n → p (f (from + k)) ≡ true) → all p (tab f from n) ≡ true
  all_tab_by p f from n g =
      all_by p (tab f from n) (f 0) λ k l. let l' : k < n = rw length_tab at l in rw (get_or_tab f from n k (f 0) l') (g k l')

  -- ---- two tests

  pub all_both : (p q r : A → Bool) (l : List A) → ((a : A) → p a ≡ true → q a ≡ true → r a ≡ true) → all p l ≡ true → all q l ≡ true
      → all r l ≡ true
  unfolding all
  all_both p q r [] f h g = refl
  all_both p q r (a ∷ l) f h g =
      let (h₀, h₁) = (and_iff (p a) (all p l)).0 h in
      let (g₀, g₁) = (and_iff (q a) (all q l)).0 g in
      (and_iff (r a) (all r l)).1 (f a h₀ g₀, all_both p q r l f h₁ g₁)
