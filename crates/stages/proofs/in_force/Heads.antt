-- What the code reads in an answer's head is what the head says of the starting value.
use Rattle.std.specs.Prelude.{◌+◌, ◌/◌, ◌%◌}
use Rattle.std.proofs.Common.{◌≡◌, refl, eq-eqb, ne_eqb}
use Rattle.definition.specs.Prelude.{ℕ, List}
use Rattle.definition.specs.Image.{u32_at, tables}
use Rattle.stages.specs.in_force.InForce.{told_in}
use Rattle.stages.specs.declared.in_force.InForce.TheVariants.{Image, Default}

module _ (image s : List ℕ) (flags : ℕ) (e : flags ≡ u32_at s 16) where
  pub told_image : (text start n : ℕ) → text ≡ (tables image).text → start ≡ u32_at s 24 → n ≡ u32_at s 28 → flags / 4 % 2 ≡ 1
      → Image (text + start) n ≡ told_in image s
  told_image text start n p q r h = rw (eq-eqb (u32_at s 16 / 4 % 2) 1 (rw (← e) h), p, q, r) refl

  pub told_default : (flags / 4 % 2 ≡ 1 → ⊥) → Default ≡ told_in image s
  told_default h = rw (ne_eqb (u32_at s 16 / 4 % 2) 1 λ z. h (rw e z)) refl
