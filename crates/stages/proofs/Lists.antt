-- Laws of lists: an i-th, none, and the last.
use Rattle.std.specs.Prelude.{◌+◌, ◌∷◌, ◌++◌}
use Rattle.std.proofs.Common.{◌≡◌, ◌<◌, ◌≤◌, refl, ap, ◌∙◌, le_of_suc-le-suc, add-one, arith, drop_of_length-le}
use Rattle.definition.specs.Prelude.{ℕ, zero, suc, List, [], length, drop}

-- a list with an i-th, and without
pub turn_at : {A : Type 0} (l : List A) (i n : ℕ) → length l ≡ n → i < n → (a : A) × (drop i l ≡ a ∷ drop (i + 1) l)
turn_at {A} l i n e h = go l i (rw e h)
  where
    go : (l : List A) (i : ℕ) → i < length l → (a : A) × (drop i l ≡ a ∷ drop (i + 1) l)
    go [] i h = absurd (omega arith)
    go (a ∷ l) zero h = (a, refl)
    go (a ∷ l) (suc i) h =
        let t = go l i (le_of_suc-le-suc h) in
        let n : drop (i + 1) l ≡ drop (suc i + 1) (a ∷ l) = rw (add-one i, add-one (suc i)) in
        (t.0, t.1 ∙ ap (λ r. t.0 ∷ r) n)

pub end_at : {A : Type 0} (l : List A) (i n : ℕ) → length l ≡ n → n ≤ i → drop i l ≡ []
end_at l i n e h = drop_of_length-le l {i = i} (rw e h)

pub none_in : {A : Type 0} (l : List A) → length l ≡ 0 → l ≡ []
none_in [] e = refl
none_in (a ∷ l) e = absurd (omega (arith, e))

-- a list that is not empty, by its last
pub record Ends {A : Type 0} (i : A) (is : List A) : Type 0 where
  pub mid : List A
  pub item : A
  pub parts : i ∷ is ≡ mid ++ (item ∷ [])
  pub long : length is ≡ length mid

pub ends : {A : Type 0} (i : A) (is : List A) → Ends i is
ends i [] = record { mid = []; item = i; parts = refl; long = refl }
ends i (j ∷ is) = let e = ends j is in record { mid = i ∷ e.mid; item = e.item; parts = ap (λ l. i ∷ l) e.parts; long = ap suc e.long }
