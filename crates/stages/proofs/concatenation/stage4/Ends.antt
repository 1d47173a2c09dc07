-- The checks of stage 4 after its loop, and its end.
use Rattle.std.specs.Prelude.{◌&&◌}
use Rattle.std.proofs.Common.{◌≡◌}
use Rattle.definition.specs.Prelude.{ℕ, Bool, true, false, not, List, length, leb}
use Rattle.definition.specs.Basics.{ok, Refusal, refused}
use Rattle.definition.specs.Concatenation.{Concatenation, is_align, align_multiple}
use Rattle.definition.specs.Overall.{Overall, overall_from, overall_start, middle_from, opposite_from, stage4}
use Rattle.stages.specs.concatenation.Overall.{common_of, only_of, checks_of}

module _ (mode : ℕ) (l : List Concatenation) (o : Overall) (common : ok tt ≡ common_of mode o.width) where
  pub only_off : (q : Refusal) → refused q ≡ only_of (length l) o.deterministic → refused q ≡ checks_of mode l o
  only_off q e = rw (← common, ← e)

  module _ (only : ok tt ≡ only_of (length l) o.deterministic) where
    pub settled : o.deterministic ≡ true → ok o ≡ checks_of mode l o
    settled t = rw (← common, ← only, t)

    module _ (unsure : o.deterministic ≡ false) where
      pub middle_off : (q : Refusal) → refused q ≡ middle_from 0 l → refused q ≡ checks_of mode l o
      middle_off q e = rw (← common, ← only, unsure, ← e)

      module _ (middle : ok tt ≡ middle_from 0 l) where
        pub one_sided : is_align o.align align_multiple ≡ false → ok o ≡ checks_of mode l o
        one_sided t = rw (← common, ← only, unsure, ← middle, t)

        pub opposite_off : is_align o.align align_multiple ≡ true → (q : Refusal) → refused q ≡ opposite_from 0 l → refused q ≡ checks_of mode l o
        opposite_off t q e = rw (← common, ← only, unsure, ← middle, t, ← e)

        pub passed : is_align o.align align_multiple ≡ true → ok tt ≡ opposite_from 0 l → ok o ≡ checks_of mode l o
        passed t e = rw (← common, ← only, unsure, ← middle, t, ← e)

module _ (mode : ℕ) (given : Bool) (l : List Concatenation) where
  pub ends : (o : Overall) → ok o ≡ overall_from (leb 1 mode && not given) 0 l (overall_start l) → checks_of mode l o ≡ stage4 mode given l
  unfolding stage4
  ends o e = rw (← e)

  pub refuses : (q : Refusal) → refused q ≡ overall_from (leb 1 mode && not given) 0 l (overall_start l) → refused q ≡ stage4 mode given l
  unfolding stage4
  refuses q e = rw (← e)
