-- Every refusal of the whole run has a number of the table, and places within the limits of an image.
use Rattle.std.proofs.Common.{subst}
use Rattle.definition.specs.Prelude.{ℕ, List, leb}
use Rattle.definition.specs.Basics.{refused}
use Rattle.definition.specs.Limits.{area_needed}
use Rattle.definition.specs.Refusals.{mode_above_2, short_area}
use Rattle.definition.specs.Image.{Unparsed, Placed, counts, tree_of}
use Rattle.definition.specs.Run.{Choices, has_start, stages, run}
use Rattle.refusal_places.specs.Statement.{RefusalPlaces}
use Rattle.refusal_places.specs.Ends.{Told, refuses, Fine, fine, need_ends, bind_ends, next_ends}
use Rattle.refusal_places.specs.Check.{check_image_ends}
use Rattle.refusal_places.specs.Tree.{Within, tree_within, stage1_ends, stage2_ends}
use Rattle.refusal_places.specs.Concatenation.{stage3_ends}
use Rattle.refusal_places.specs.Overall.{stage4_fine}

stages_fine : (how : Choices) (t : List (List (Placed Unparsed))) → Within 0 t → Fine (stages how t)
unfolding stages
stages_fine how t w =
    bind_ends (stage1_ends t w) λ t₁ w₁.
    bind_ends (stage2_ends t₁ w₁) λ t₂ w₂.
    bind_ends (stage3_ends 0 t₂.cc w₂) λ cc w₃.
    next_ends (stage4_fine how.mode (has_start how t₂.init) cc w₃) λ o. fine _

run_fine : (image : List ℕ) (how : Choices) (area : ℕ) → Fine (run image how area)
unfolding run
run_fine image how area =
    next_ends (need_ends (leb how.mode 2) mode_above_2) λ _.
    bind_ends (check_image_ends image) λ _ h.
    next_ends (need_ends (leb (area_needed (counts image).c (counts image).n (counts image).b) area) short_area) λ _.
    next_ends (stages_fine how (tree_of image) (tree_within image h.0 h.1)) λ a. fine _

pub refusal_places : RefusalPlaces
refusal_places image how area q e = told (subst Fine e (run_fine image how area))
  where
    told : Fine {A = List ℕ} (refused q) → Told q
    told (refuses t) = t
