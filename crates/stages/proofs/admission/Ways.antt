-- What a run asks before the stages: each way out of the three tests.
use Rattle.std.specs.Prelude as Std
use Rattle.std.specs.Prelude.{Ok, Err, ◌+◌, ◌*◌}
use Rattle.std.proofs.Common.{◌≡◌, ◌<◌, ◌≤◌, sym, ◌∙◌, le-leb}
use borrow.Author.Tests.{lt-leb}
use Rattle.definition.specs.Prelude.{ℕ, Bool, true, false, List, leb}
use Rattle.definition.specs.Basics.{ok, refused, refusal_of}
use Rattle.definition.specs.Limits.{area_needed}
use Rattle.definition.specs.Refusals.{need, short_area}
use Rattle.definition.specs.Image.{counts}
use Rattle.definition.specs.Check.{check_image}
use Rattle.definition.specs.Run.{Choices}
use Rattle.errors.specs.Refused.{refused_as, result_of}
use Rattle.errors.specs.declared.Refusal.{Refusal}
use Rattle.stages.specs.admission.Asked.{admitted_of}

module _ (image : List ℕ) (area : ℕ) where
  abbrev pub roomy : Bool
  roomy = leb (area_needed (counts image).c (counts image).n (counts image).b) area

  pub enough_is : (c n b : ℕ) → c ≡ (counts image).c → n ≡ (counts image).n → b ≡ (counts image).b → leb (32 + 20 * c + 72 * n + b) area ≡ roomy
  enough_is c n b e f g = rw (e, f, g)

  module _ (how : Choices) where
    pub mode_above : (q : Refusal) → refused_as {A = Unit} q ≡ refused (refusal_of 1 0 0) → 2 < how.mode → refused_as q ≡ admitted_of image how area
    unfolding admitted_of
    mode_above q e h = rw (lt-leb how.mode 2 h) e

    module _ (few : how.mode ≤ 2) (s : Std.Result Unit Refusal) (said : result_of s ≡ check_image image) where
      pub image_refused : (q : Refusal) → s ≡ Err q → result_of s ≡ admitted_of image how area
      unfolding admitted_of
      image_refused q e = rw (le-leb how.mode 2 few, ← said, e)

      after_image : s ≡ Ok tt → admitted_of image how area ≡ need roomy short_area
      unfolding admitted_of
      after_image p = rw (le-leb how.mode 2 few, ← said, p)

      pub all_passed : s ≡ Ok tt → (b : Bool) → b ≡ roomy → b ≡ true → ok tt ≡ admitted_of image how area
      all_passed p b e t = sym (after_image p ∙ rw (← e, t))

      pub area_short : s ≡ Ok tt → (b : Bool) → b ≡ roomy → b ≡ false → (q : Refusal) → refused_as {A = Unit} q ≡ refused (refusal_of 8 0 0)
          → refused_as q ≡ admitted_of image how area
      area_short p b e t q r = r ∙ sym (after_image p ∙ rw (← e, t))
