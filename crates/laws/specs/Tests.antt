-- Tests that came out true, as facts: conjunctions, and comparisons of numbers.
use Rattle.std.specs.Prelude.{◌≡◌, refl, ◌↔◌, ◌≢◌, ℕ, ◌≤◌, T, ◌&&◌}
use Rattle.std.proofs.Common.{sym, ◌∙◌, true≢false, leb→le, le→leb, eqb→eq}
use Rattle.std.proofs.Math.Dec.{eqb_refl}
use Rattle.definition.specs.Prelude.{Bool, true, false, leb, eqb}

pub by_test : {G : Type 0} (t : Bool) → (t ≡ true → G) → (t ≡ false → G) → G
by_test true f g = f refl
by_test false f g = g refl

pub T_of : (t : Bool) → t ≡ true → T t
T_of t h = rw h tt

pub of_T : (t : Bool) → T t → t ≡ true
of_T true h = refl
of_T false h = absurd h

pub and_iff : (a b : Bool) → ((a && b) ≡ true) ↔ ((a ≡ true) × (b ≡ true))
and_iff true b = (λ h. (refl, h), λ h. h.1)
and_iff false b = (λ h. (h, cc), λ h. h.0)

pub leb_iff : (m n : ℕ) → (leb m n ≡ true) ↔ (m ≤ n)
leb_iff m n = (λ h. leb→le m n (T_of (leb m n) h), λ h. of_T (leb m n) (le→leb m n h))

pub eqb_iff : (m n : ℕ) → (eqb m n ≡ true) ↔ (m ≡ n)
eqb_iff m n = (λ h. eqb→eq m n (T_of (eqb m n) h), λ h. of_T (eqb m n) (rw h (eqb_refl n)))

pub eqb_false : (m n : ℕ) → m ≢ n → eqb m n ≡ false
eqb_false m n h = by_test (eqb m n) (λ t. absurd (h ((eqb_iff m n).0 t))) (λ t. t)

pub eqb_apart : (m n : ℕ) → eqb m n ≡ false → m ≢ n
eqb_apart m n h e = true≢false (sym ((eqb_iff m n).1 e) ∙ h)

-- a conjunction of comparisons, as the product of what it says
pub ruleset tested = (and_iff, leb_iff, eqb_iff)
