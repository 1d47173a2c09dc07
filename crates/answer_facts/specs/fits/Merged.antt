-- Merging makes nothing heavier, and so the answer of a tree weighs no more than the tree.
use Rattle.std.specs.Prelude.{◌≡◌, ◌≤◌, ◌+◌, ◌&&◌, ◌∷◌, ◌++◌, if◌then◌else◌}
use Rattle.std.proofs.Math.Path.{sym, ap}
use Rattle.std.proofs.Common.{◌∙◌, le_trans, length-append}
use Rattle.std.proofs.Math.Nat.{le_refl}
use native.Mathlib.Omega.{arith}
use Rattle.std.proofs.Math.ListN.{length-map}
use Rattle.definition.specs.Prelude.{ℕ, Bool, true, false, List, [], map, length}
use Rattle.definition.specs.Basics.{sum, joined}
use Rattle.definition.specs.Image.{Unparsed, Placed}
use Rattle.definition.specs.Component.{Component}
use Rattle.definition.specs.Concatenation.{Concatenation, is_static_literal, bits_of, whole_literal, merge_onto, merge, merged}
use Rattle.definition.specs.Overall.{stage4}
use Rattle.definition.specs.Answer.{components}
use Rattle.definition.specs.Run.{Choices, has_start, stages}
use Rattle.answer_facts.specs.read.Facts.{Yields, given, Every, after, bound}
use Rattle.answer_facts.specs.read.Trees.{total, total_append, stage3_comps, merged_comps}
use Rattle.answer_facts.specs.fits.Staged.{ShortBefore, NormalAt, weight_before, weight, Staged, stage1_all, stage2_all}

-- a weight that does not fall as bits grow more, and is no greater for two lists of bits in one
module _ (g : ℕ → ℕ) (grows : (m n : ℕ) → m ≤ n → g m ≤ g n) (joins : (m n : ℕ) → g (m + n) ≤ g m + g n) where
  onto_light : (c : Placed Component) (l : List (Placed Component)) → total (weight g) (merge_onto c l) ≤ weight g c + total (weight g) l
  unfolding sum
  onto_light c [] = le_refl (weight g c + 0)
  onto_light c (d ∷ l) = go (is_static_literal c.value && is_static_literal d.value)
    where
      both : Placed Component
      both = record { base = c.base; value = whole_literal (bits_of c.value ++ bits_of d.value) }

      go : (b : Bool) → total (weight g) (if b then both ∷ l else c ∷ d ∷ l) ≤ weight g c + total (weight g) (d ∷ l)
      go true =
          let e = ap g (length-append (bits_of c.value) (bits_of d.value)) in
          let j = joins (length (bits_of c.value)) (length (bits_of d.value)) in
          omega arith
      go false = le_refl (total (weight g) (c ∷ d ∷ l))

  merge_light : (cs : List (Placed Component)) → total (weight g) (merge cs) ≤ total (weight g) cs
  unfolding merge sum
  merge_light [] = le_refl 0
  merge_light (c ∷ cs) =
      let l = onto_light c (merge cs) in
      let r = merge_light cs in
      omega arith

  rows_light : (t : List (List (Placed Component))) → total (weight g) (joined (map merge t)) ≤ total (weight g) (joined t)
  unfolding joined
  rows_light [] = le_refl (total (weight g) (joined []))
  rows_light (c ∷ t) =
      let p = merge_light c in
      let q = rows_light t in
      let l = total_append (weight g) (merge c) (joined (map merge t)) in
      let r = total_append (weight g) c (joined t) in
      omega arith

  pub stages_light : (how : Choices) (t : List (List (Placed Unparsed))) → Every ShortBefore (joined t)
      → Yields (λ a. (length a.cc ≡ length t) × (total (weight g) (components a) ≤ total (weight_before g) (joined t))) (stages how t)
  unfolding stages
  stages_light how t h =
      bound (stage1_all g grows t h) λ t₁ s₁. bound (stage2_all g grows t t₁ s₁) λ t₂ s₂.
      bound (stage3_comps 0 t₂.cc) λ ds e. after (stage4 how.mode (has_start how t₂.init) ds) λ o.
      given (go t₂.cc ds e s₂)
    where
      go : (cc : List (List (Placed Component))) (ds : List Concatenation) → map (λ d. d.comps) ds ≡ cc → Staged g grows NormalAt t cc
          → (length (map merged ds) ≡ length t) × (total (weight g) (joined (map (λ d. d.comps) (map merged ds))) ≤ total (weight_before g) (joined t))
      go cc ds e s = (
        length-map ds merged ∙ sym (length-map ds (λ d. d.comps)) ∙ ap length e ∙ s.concats,
        rw (merged_comps ds, e) (le_trans (rows_light cc) s.light),
      )
