-- Sums, lengths and tests of lists that are turned round, joined, and counted.
use Rattle.std.specs.Prelude.{◌≡◌, ◌+◌, ◌&&◌, ◌∷◌, ◌++◌}
use Rattle.std.proofs.Math.Path.{refl}
use Rattle.std.proofs.Common.{◌∙◌, length-append}
use mathlib.Core.List.{reverse_aux, map-append}
use Rattle.std.proofs.Math.Nat.{zero-add, add-zero}
use native.Mathlib.Omega.{arith}
use Rattle.definition.specs.Prelude.{ℕ, Bool, true, false, List, [], map, reverse, length}
use Rattle.definition.specs.Basics.{sum, all, joined}
use Rattle.definition.specs.Tree.{Node, recs_of, text_of, all_recs}
use Rattle.prepared.specs.Groups.{text_of_append}
use Rattle.laws.specs.Lists.{sum_append}

-- ---- turned round

and_swap : (x y z : Bool) → (y && (x && z)) ≡ ((x && y) && z)
and_swap true y z = refl
and_swap false true z = refl
and_swap false false z = refl

pub and_assoc : (x y z : Bool) → (x && (y && z)) ≡ ((x && y) && z)
and_assoc true y z = refl
and_assoc false y z = refl

pub and_true : (x : Bool) → (x && true) ≡ x
and_true true = refl
and_true false = refl

module _ {A : Type 0} where
  sum_onto : (g : A → ℕ) (l r : List A) → sum (map g (reverse_aux l r)) ≡ sum (map g l) + sum (map g r)
  unfolding sum
  sum_onto g [] r = rw zero-add
  sum_onto g (a ∷ l) r = sum_onto g l (a ∷ r) ∙ omega arith

  pub sum_reverse : (g : A → ℕ) (l : List A) → sum (map g (reverse l)) ≡ sum (map g l)
  unfolding sum
  sum_reverse g l = sum_onto g l [] ∙ add-zero (sum (map g l))

  all_onto : (p : A → Bool) (l r : List A) → all p (reverse_aux l r) ≡ (all p l && all p r)
  unfolding all
  all_onto p [] r = refl
  all_onto p (a ∷ l) r = all_onto p l (a ∷ r) ∙ and_swap (p a) (all p l) (all p r)

  pub all_reverse : (p : A → Bool) (l : List A) → all p (reverse l) ≡ all p l
  unfolding all
  all_reverse p l = all_onto p l [] ∙ and_true (all p l)

  -- ---- sums

  pub sum_map_append : (g : A → ℕ) (k l : List A) → sum (map g (k ++ l)) ≡ sum (map g k) + sum (map g l)
  sum_map_append g k l = rw (map-append g k l) (sum_append (map g k) (map g l))

  -- by elements that count alike
  pub sum_same : (f g : A → ℕ) (l : List A) → ((a : A) → f a ≡ g a) → sum (map f l) ≡ sum (map g l)
  unfolding sum
  sum_same f g [] h = refl
  sum_same f g (a ∷ l) h = rw (h a, sum_same f g l h)

  pub sum_none : (l : List A) → sum (map (λ _. 0) l) ≡ 0
  unfolding sum
  sum_none [] = refl
  sum_none (a ∷ l) = rw (sum_none l)

  pub sum_ones : (l : List A) → sum (map (λ _. 1) l) ≡ length l
  unfolding sum
  sum_ones [] = refl
  sum_ones (a ∷ l) = rw (sum_ones l) (omega arith)

-- ---- records and texts of nodes

pub length_recs : (ns : List Node) → length (all_recs ns) ≡ sum (map (λ n. length (recs_of n)) ns)
unfolding joined sum
length_recs [] = refl
length_recs (n ∷ ns) = rw (length-append, length_recs ns)

pub length_texts : (ns : List Node) → length (text_of (all_recs ns)) ≡ sum (map (λ n. length (text_of (recs_of n))) ns)
unfolding joined sum text_of
length_texts [] = refl
length_texts (n ∷ ns) = rw (text_of_append, length-append, length_texts ns)
