-- The text of items that stand in a table, and whether it begins a literal.
use Rattle.std.specs.Prelude.{◌+◌, ◌&&◌, ◌||◌, ◌∷◌}
use Rattle.std.proofs.Common.{◌≡◌, ◌≤◌, sym, refl, ap, ◌∙◌, add-zero, arith, get_or-drop}
use Rattle.definition.specs.Prelude.{ℕ, Bool, false, not, List, [], length, get_or, drop, eqb}
use Rattle.definition.specs.Basics.{within}
use Rattle.definition.specs.Image.{delimiter}
use Rattle.definition.specs.Text.{Item, is_group}
use Rattle.definition.specs.Component.{is_literal}
use Rattle.laws.specs.Tests.{by_test}
use Rattle.laws.specs.Padded.{get_or_padded}
use Rattle.stages.specs.token_tree.Laid.{Stands, Laid}
use Rattle.stages.specs.declared.token_tree.types.Tree.{Tree}

-- `-` or a digit
abbrev pub begins_by : ℕ → Bool
begins_by b = eqb b 45 || within 48 57 b

opening_no : (k : ℕ) → begins_by (delimiter k).opening ≡ false
opening_no k =
    by_test (eqb k 1) (λ a. rw a refl)
    (λ a. by_test (eqb k 2) (λ b. rw (a, b) refl) (λ b. by_test (eqb k 3) (λ d. rw (a, b, d) refl) (λ d. rw (a, b, d) refl)))

module _ (image : List ℕ) (t : Tree) (base : ℕ) where
  -- the first byte says whether it is a literal
  first_byte : (stop r s b : ℕ) (i : Item) → Stands image t base stop r s i → b ≡ get_or image (t.text + s) 0 → get_or i.part.bytes 0 0 ≡ b
  first_byte stop r s b i h e =
      ap (λ l. get_or l 0 0) (sym h.bytes)
      ∙ get_or_padded (length i.part.bytes) (drop (t.text + s) image) 0 h.some
      ∙ get_or-drop (t.text + s) image 0 0
      ∙ ap (λ n. get_or image n 0) (add-zero (t.text + s))
      ∙ sym e

  item_literal : (stop r s b : ℕ) (i : Item) → Stands image t base stop r s i → b ≡ get_or image (t.text + s) 0
      → (not (is_group i) && begins_by (get_or i.part.bytes 0 0)) ≡ begins_by b
  item_literal stop r s b i h e =
      let f = first_byte stop r s b i h e in
      by_test (is_group i)
      (λ g. rw g (sym (ap begins_by (sym f ∙ (h.group g).first) ∙ opening_no i.kind)))
      (λ g. rw g (ap begins_by f))

  pub laid_literal : (stop tail r s b : ℕ) (is : List Item) → 1 ≤ length is → Laid image t base stop tail r s is → b ≡ get_or image (t.text + s) 0
      → is_literal is ≡ begins_by b
  unfolding Laid
  laid_literal stop tail r s b [] l h e = absurd (omega (arith, l))
  laid_literal stop tail r s b (i ∷ is) l h e = item_literal stop r s b i h.0 e
