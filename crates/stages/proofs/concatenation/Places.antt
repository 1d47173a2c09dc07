-- The first of a list that passes a test: one turn, and the end.
use Rattle.std.specs.Prelude.{◌+◌}
use Rattle.std.proofs.Common.{◌≡◌, ◌<◌, ◌≤◌, add-one, arith, drop-cons, drop_of_length-le}
use Rattle.definition.specs.Prelude.{ℕ, suc, Bool, true, false, none, some, List, length, get_or, drop}
use Rattle.definition.specs.Overall.{place_from}

module _ {A : Type 0} (p : A → Bool) (n i : ℕ) (l : List A) where
  pub place_here : (x : A) → i < length l → x ≡ get_or l i x → p x ≡ true → some (n + i) ≡ place_from p (n + i) (drop i l)
  unfolding place_from
  place_here x h e t = rw (drop-cons l i x, ← e, t)

  pub place_next : (x : A) → i < length l → x ≡ get_or l i x → p x ≡ false
      → place_from p (n + (i + 1)) (drop (i + 1) l) ≡ place_from p (n + i) (drop i l)
  unfolding place_from
  place_next x h e t = let z : n + suc i ≡ suc (n + i) = omega arith in rw (drop-cons l i x, ← e, t, add-one i, z)

  pub place_end : length l ≤ i → none ≡ place_from p (n + i) (drop i l)
  unfolding place_from
  place_end h = rw (drop_of_length-le l {i = i} h)
