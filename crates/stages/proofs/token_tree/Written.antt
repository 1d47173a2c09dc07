-- The text of items that stand in a run is one part of the text.
use Rattle.std.specs.Prelude.{◌+◌, ◌-◌, ◌∷◌}
use Rattle.std.proofs.Common.{◌≡◌, ◌<◌, ◌≤◌, refl, ◌∙◌, add_assoc, arith, eq-eqb, ne_eqb}
use borrow.Author.Tests.{eqb-false}
use Rattle.definition.specs.Prelude.{ℕ, List, [], length, eqb}
use Rattle.definition.specs.Image.{padded, bytes_at}
use Rattle.definition.specs.Text as Text
use Rattle.definition.specs.Text.{Item, bytes_of}
use Rattle.laws.specs.Padded.{bytes_add}
use Rattle.laws.specs.Tests.{by_test}
use Rattle.stages.specs.token_tree.Laid.{Laid}
use Rattle.stages.specs.token_tree.Parts.{no_part, part_by, part_of, PartFits}
use Rattle.stages.specs.token_tree.Table.{skip_in}
use Rattle.stages.specs.declared.token_tree.types.Tree.{Tree}
use Rattle.stages.proofs.token_tree.Places.{laid_order}

part_made : {a b : ℕ} {l m : List ℕ} → a ≡ b → l ≡ m → ◌≡◌ {A = Text.Part} (record { at = a; bytes = l }) (record { at = b; bytes = m })
part_made p q = cc

module _ (image : List ℕ) (t : Tree) (base : ℕ) where
  -- ---- the text from s to e

  pub no_text_is : part_of image t base no_part ≡ Text.no_text
  unfolding padded
  no_text_is = let z : 0 - base ≡ 0 = omega arith in rw z

  pub text_none : (s e : ℕ) → s ≡ e → part_of image t base (part_by s e) ≡ Text.no_text
  text_none s e q = rw (eq-eqb s e q) no_text_is

  pub text_some : (s e : ℕ) → s < e → part_of image t base (part_by s e) ≡ record { at = s - base; bytes = bytes_at image (t.text + s) (e - s) }
  text_some s e l = rw (ne_eqb s e (λ q. let z : ◌≡◌ {A = ℕ} s e = q in omega (arith, z)))

  pub none_fits : t.text ≤ length image → PartFits image t base no_part
  none_fits h = record { room = omega arith; none = λ q. refl; some = λ q. absurd (omega arith) }

  pub part_fits : (s e : ℕ) → (s < e → base ≤ s) → s ≤ e → t.text + e ≤ length image → PartFits image t base (part_by s e)
  part_fits s e b o f =
      by_test (eqb s e) (λ q. rw q (none_fits (omega (arith, f))))
      (λ q. let n = eqb-false s e q in
      rw q (record { room = omega (arith, f, o); none = λ z. absurd (n (omega (arith, z, o))); some = λ z. b (omega (arith, z)) }))

  -- ---- the text of all of a run's items

  laid_bytes : (stop tail r s : ℕ) (is : List Item) → Laid image t base stop tail r s is → bytes_at image (t.text + s) (tail - s) ≡ bytes_of is
  unfolding Laid bytes_of padded
  laid_bytes stop tail r s [] h = let z : tail - s ≡ 0 = (let k = h.1 in omega (arith, k)) in rw z
  laid_bytes stop tail r s (i ∷ is) h =
      let n : ℕ = length i.part.bytes in
      let o = (laid_order image t base stop tail (r + skip_in image t r) (s + n) is h.1).1 in
      let z : tail - s ≡ n + (tail - (s + n)) = omega (arith, o) in
      rw (
        z,
        bytes_add image (t.text + s) n (tail - (s + n)),
        add_assoc t.text s n,
        h.0.bytes,
        laid_bytes stop tail (r + skip_in image t r) (s + n) is h.1,
      )

  pub laid_part : (stop tail r s : ℕ) (is : List Item) → Laid image t base stop tail r s is → part_of image t base (part_by s tail) ≡ Text.part_of is
  unfolding Laid
  laid_part stop tail r s [] h = text_none s tail h.1
  laid_part stop tail r s (i ∷ is) h =
      let o = (laid_order image t base stop tail (r + skip_in image t r) (s + length i.part.bytes) is h.1).1 in
      let k = h.0.some in
      let a = h.0.at in
      text_some s tail (omega (arith, o, k)) ∙ part_made (omega (arith, a)) (laid_bytes stop tail r s (i ∷ is) h)

  laid_base : (stop tail r s : ℕ) (is : List Item) → Laid image t base stop tail r s is → s < tail → base ≤ s
  unfolding Laid
  laid_base stop tail r s [] h l = absurd (omega (arith, h.1, l))
  laid_base stop tail r s (i ∷ is) h l = let e = h.0.at in omega (arith, e)

  pub laid_fits : (stop tail r s : ℕ) (is : List Item) → Laid image t base stop tail r s is → t.text + tail ≤ length image
      → PartFits image t base (part_by s tail)
  laid_fits stop tail r s is h f = part_fits s tail (laid_base stop tail r s is h) (laid_order image t base stop tail r s is h).1 f
