-- What a run asks before the stages.
use Rattle.definition.specs.Prelude.{ℕ, List, leb}
use Rattle.definition.specs.Basics.{Result, ◌>>=◌}
use Rattle.definition.specs.Limits.{area_needed}
use Rattle.definition.specs.Refusals.{need, mode_above_2, short_area}
use Rattle.definition.specs.Image.{counts}
use Rattle.definition.specs.Check.{check_image}
use Rattle.definition.specs.Run.{Choices}

-- "Whole run: 1 mode above 2; the image check; 8 area shorter than 32 + 20·C + 72·N + B"
unfoldable pub admitted_of : List ℕ → Choices → ℕ → Result Unit
admitted_of image how area =
    need (leb how.mode 2) mode_above_2 >>= λ _.
    check_image image >>= λ _.
    need (leb (area_needed (counts image).c (counts image).n (counts image).b) area) short_area
