-- Stages 1 and 2 over a tree within the limits: their refusals have places of the tree, and what they leave is as large as the tree.
use Rattle.std.specs.Prelude.{◌≡◌, ◌∷◌, ◌&&◌}
use Rattle.std.proofs.Math.Path.{refl, ap}
use Prim.Native.Nat.{ℕ, zero, suc, ◌+◌, ◌≤◌, ◌<◌}
use native.Mathlib.Omega.{arith}
use Rattle.std.proofs.Math.ListN.{length-take, length-drop}
use Rattle.definition.specs.Prelude.{Bool, not, none, List, [], length, drop, eqb}
use Rattle.definition.specs.Basics.{Result, is_empty, tab}
use Rattle.definition.specs.Limits.{limits}
use Rattle.definition.specs.Refusals.{empty_after_colon}
use Rattle.definition.specs.Image.{Placed, Unparsed, counts, component_count, components_from, parts, tree_of}
use Rattle.definition.specs.Component.{Parsed, prefix_of, each_in, each, keep_base, stage1_component, simplify, starting_value, source, stage1, stage2}
use Rattle.laws.specs.Lists.{length_tab}
use Rattle.refusal_places.specs.Ends.{Ends, answers, Fine, fine, need_ends, placed_ends, bind_ends, next_ends, option_ends}
use Rattle.refusal_places.specs.Component.{stage1_fine, simplify_fine}

-- lists that are each no longer than the greatest number of components
unfoldable pub Short : {A : Type 0} → List (List A) → Type 0
Short [] = Unit
Short (l ∷ t) = (length l ≤ limits.components) × Short t

-- a tree whose first concatenation has index i
pub record Within {A : Type 0} (i : ℕ) (t : List (List A)) : Type 0 where
  pub few : i + length t ≤ limits.concatenations
  pub short : Short t

-- ---- the tree of an image

length_components : (image : List ℕ) (k r l n : ℕ) → length (components_from image k r l n) ≡ n
unfolding components_from
length_components image k r l zero = refl
length_components image k r l (suc n) = ap suc (length_components image (suc k) _ _ n)

module _ {A : Type 0} where
  parts_short : (ns : List ℕ) (l : List A) → length l ≤ limits.components → Short (parts ns l)
  unfolding parts Short
  parts_short [] l h = tt
  parts_short (n ∷ ns) l h =
      let a = length-take n l in
      let b = length-drop n l in
      (omega arith, parts_short ns (drop n l) (omega arith))

  length_parts : (ns : List ℕ) (l : List A) → length (parts ns l) ≡ length ns
  unfolding parts
  length_parts [] l = refl
  length_parts (n ∷ ns) l = ap suc (length_parts ns (drop n l))

pub tree_within : (image : List ℕ) → (counts image).c ≤ limits.concatenations → (counts image).n ≤ limits.components → Within 0 (tree_of image)
unfolding tree_of
tree_within image p q =
    let a = length_parts (tab (component_count image) 0 (counts image).c) (components_from image 0 0 0 (counts image).n) in
    let b = length_tab (component_count image) 0 (counts image).c in
    let d = length_components image 0 0 0 (counts image).n in
    record { few = omega arith; short = parts_short _ _ (omega arith) }

-- ---- every component of a tree

module _ {A B : Type 0} (f : Bool → A → Result B) (fine_f : (s : Bool) (a : A) → Fine (f s a)) where
  each_in_ends : (i k : ℕ) (l : List A) → i < limits.concatenations → k + length l ≤ limits.components
      → Ends (λ m. length m ≡ length l) (each_in f i k l)
  unfolding each_in
  each_in_ends i k [] p q = answers refl
  each_in_ends i k (a ∷ l) p q =
      next_ends (placed_ends i k p (omega arith) (fine_f (eqb i 0 && is_empty l) a)) λ b.
      bind_ends (each_in_ends i (suc k) l p (omega arith)) λ bs e. answers (ap suc e)

  pub each_ends : (i : ℕ) (t : List (List A)) → Within i t → Ends (Within i) (each f i t)
  unfolding each Short
  each_ends i [] w = answers (record { few = w.few; short = tt })
  each_ends i (l ∷ t) w =
      let few : i + suc (length t) ≤ limits.concatenations = w.few in
      let (a, b) = w.short in
      bind_ends (each_in_ends i 0 l (omega arith) (omega arith)) λ bs e.
      bind_ends (each_ends (suc i) t (record { few = omega arith; short = b })) λ bss h.
      let rest : suc i + length bss ≤ limits.concatenations = h.few in
      answers (record { few = omega arith; short = (omega arith, h.short) })

module _ {A B : Type 0} (f : Bool → A → Result B) (fine_f : (s : Bool) (a : A) → Fine (f s a)) where
  keep_fine : (s : Bool) (p : Placed A) → Fine (keep_base f s p)
  keep_fine s p = next_ends (fine_f s p.value) (λ b. fine _)

-- ---- stages 1 and 2

-- 10 has the places of the most significant component of concatenation 0
starting_fine : (k : ℕ) (l : List (Placed Unparsed)) → k + length l ≤ limits.components → Fine (starting_value k l)
unfolding starting_value
starting_fine k [] h = fine none
starting_fine k (u ∷ []) h =
    option_ends (prefix_of u.value) (fine none) λ p.
    next_ends (placed_ends 0 k (omega arith) (omega arith) (need_ends (not (is_empty p.after)) empty_after_colon)) λ _. fine _
starting_fine k (u ∷ v ∷ l) h = starting_fine (suc k) (v ∷ l) (omega arith)

source_short : {A : Type 0} (t : List (List A)) → Short t → length (source t) ≤ limits.components
unfolding Short
source_short [] h = omega arith
source_short (l ∷ t) h = h.0

pub stage1_ends : (t : List (List (Placed Unparsed))) → Within 0 t → Ends (λ p. Within 0 p.cc) (stage1 t)
unfolding stage1
stage1_ends t w =
    next_ends (starting_fine 0 (source t) (let h = source_short t w.short in omega arith)) λ init.
    bind_ends (each_ends (keep_base stage1_component) (keep_fine stage1_component stage1_fine) 0 t w) λ cc h. answers h

pub stage2_ends : (t : Parsed) → Within 0 t.cc → Ends (λ p. Within 0 p.cc) (stage2 t)
unfolding stage2
stage2_ends t w =
    bind_ends (each_ends (keep_base (λ s. simplify)) (keep_fine (λ s. simplify) (λ s. simplify_fine)) 0 t.cc w) λ cc h. answers h
