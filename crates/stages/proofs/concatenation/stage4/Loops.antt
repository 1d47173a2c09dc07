-- The loops of stage 4: one turn of each definition, and its end.
use Rattle.std.specs.Prelude.{◌+◌, ◌∷◌, if◌then◌else◌}
use Rattle.std.proofs.Common.{◌≡◌, sym, refl, ap, ◌∙◌, add-one}
use Rattle.definition.specs.Prelude.{ℕ, suc, Bool, true, false, Option, none, some, List, [], drop}
use Rattle.definition.specs.Refusals.{refuse, middle_filler, opposite_fillers}
use Rattle.definition.specs.Basics.{Result, ok, Refusal, refused, ◌>>=◌, with_places}
use Rattle.definition.specs.Overall.{Overall, place_from, join_width, check_source, overall_from, overall_start, middle_from, opposite_from}
use Rattle.definition.specs.Concatenation.{Concatenation, is_align, align_mid}
use Rattle.stages.specs.concatenation.Overall.{middle_at, unbounded_in, is_opposite, opposite_at, opposite_as}

-- the turn in front of the others

abbrev middle_by : ℕ → Bool → Option ℕ → Result Unit → Result Unit
middle_by i t p later = if t then elim p [ none ↦ later | some k ↦ with_places i k (refuse middle_filler) ] else later

middle_two : (i : ℕ) (t : Bool) (p : Option ℕ) (later : Result Unit) → middle_by i t p later ≡ (middle_by i t p (ok tt) >>= λ _. later)
middle_two i true none later = refl
middle_two i true (some k) later = refl
middle_two i false p later = refl

opposite_two : (i : ℕ) (p : Option ℕ) (later : Result Unit)
    → elim p [ none ↦ later | some j ↦ with_places i j (refuse opposite_fillers) ] ≡ (opposite_as i p >>= λ _. later)
opposite_two i none later = refl
opposite_two i (some j) later = refl

module _ (i : ℕ) (l : List Concatenation) (d : Concatenation) (here : drop i l ≡ d ∷ drop (i + 1) l) where
  module _ (bare : Bool) (o : Overall) where
    pub over_on : (p : Overall) → ok p ≡ join_width i d o → ok tt ≡ check_source bare i d
        → overall_from bare (i + 1) (drop (i + 1) l) p ≡ overall_from bare i (drop i l) o
    unfolding overall_from
    over_on p e f = rw (here, ← e, ← f, add-one i)

    pub over_off : (q : Refusal) → refused q ≡ join_width i d o → refused q ≡ overall_from bare i (drop i l) o
    unfolding overall_from
    over_off q e = rw (here, ← e)

    pub over_source : (p : Overall) (q : Refusal) → ok p ≡ join_width i d o → refused q ≡ check_source bare i d
        → refused q ≡ overall_from bare i (drop i l) o
    unfolding overall_from
    over_source p q e f = rw (here, ← e, ← f)

  middle_then : middle_from i (drop i l) ≡ (middle_at i d >>= λ _. middle_from (i + 1) (drop (i + 1) l))
  unfolding middle_from
  middle_then =
      ap (λ r. middle_from i r) here ∙ middle_two i (is_align d.align align_mid) (unbounded_in d) (middle_from (suc i) (drop (i + 1) l))
      ∙ ap (λ n. middle_at i d >>= λ _. middle_from n (drop (i + 1) l)) (sym (add-one i))

  pub middle_on : ok tt ≡ middle_at i d → middle_from (i + 1) (drop (i + 1) l) ≡ middle_from i (drop i l)
  middle_on e = sym (middle_then ∙ ap (λ m. m >>= λ _. middle_from (i + 1) (drop (i + 1) l)) (sym e))

  pub middle_off : (q : Refusal) → refused q ≡ middle_at i d → refused q ≡ middle_from i (drop i l)
  middle_off q e = sym (middle_then ∙ ap (λ m. m >>= λ _. middle_from (i + 1) (drop (i + 1) l)) (sym e))

  opposite_then : opposite_from i (drop i l) ≡ (opposite_at i d (drop (i + 1) l) >>= λ _. opposite_from (i + 1) (drop (i + 1) l))
  unfolding opposite_from
  opposite_then =
      ap (λ r. opposite_from i r) here
      ∙ rw (add-one i) (opposite_two i (place_from (is_opposite d) (suc i) (drop (suc i) l)) (opposite_from (suc i) (drop (suc i) l)))

  pub opposite_on : ok tt ≡ opposite_at i d (drop (i + 1) l) → opposite_from (i + 1) (drop (i + 1) l) ≡ opposite_from i (drop i l)
  opposite_on e = sym (opposite_then ∙ ap (λ m. m >>= λ _. opposite_from (i + 1) (drop (i + 1) l)) (sym e))

  pub opposite_off : (q : Refusal) → refused q ≡ opposite_at i d (drop (i + 1) l) → refused q ≡ opposite_from i (drop i l)
  opposite_off q e = sym (opposite_then ∙ ap (λ m. m >>= λ _. opposite_from (i + 1) (drop (i + 1) l)) (sym e))

-- and with none left
module _ (i : ℕ) (l : List Concatenation) (none_left : drop i l ≡ []) where
  pub over_end : (bare : Bool) (o : Overall) → ok o ≡ overall_from bare i (drop i l) o
  unfolding overall_from
  over_end bare o = rw none_left

  pub middle_end : ok tt ≡ middle_from i (drop i l)
  unfolding middle_from
  middle_end = rw none_left

  pub opposite_end : ok tt ≡ opposite_from i (drop i l)
  unfolding opposite_from
  opposite_end = rw none_left

-- what the loop starts with
pub start_of : (ds : List Concatenation) (d : Concatenation) → drop 0 ds ≡ d ∷ drop (0 + 1) ds → (o : Overall)
    → ((l : List Concatenation) → o ≡ overall_start (d ∷ l)) → o ≡ overall_start ds
start_of ds d e o h = h (drop (0 + 1) ds) ∙ ap overall_start (sym e)
