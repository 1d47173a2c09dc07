-- Document 01's worked example meets the premises of `answer_fits` and `read_fixed`: its two literals merge, so it has fewer components
-- and literal bytes after merging than before.
use Rattle.std.specs.Prelude.{◌≡◌, refl, ◌∷◌}
use Rattle.definition.specs.Prelude.{List, [], length}
use Rattle.definition.specs.Basics.{ok, ◌>>=◌, joined}
use Rattle.definition.specs.Image.{Placed, tree_of}
use Rattle.definition.specs.Check.{check_image}
use Rattle.definition.specs.Component.{Component, keep_base, each, stage1_component, simplify}
use Rattle.definition.specs.Answer.{Answer, components, answer_bytes}
use Rattle.definition.specs.Run.{under, stages}
use Rattle.definition.specs.Compute.{computed}
use Rattle.definition.specs.Worked.{worked_image}
use Rattle.answer_facts.specs.fits.Fixed.{AllFixed}
use Rattle.answer_facts.specs.fits.Statement.{literals_of, Fits}
use Rattle.answer_facts.specs.fits.Proved.{answer_fits, read_fixed}

image_checked : check_image worked_image ≡ ok tt
unfolding computed worked_image
image_checked = refl

image_answered : (a : Answer) × (stages (under 0) (tree_of worked_image) ≡ ok a)
unfolding computed worked_image
image_answered = (_, refl)

image_fits : Fits worked_image image_answered.0
image_fits = answer_fits worked_image image_checked (under 0) image_answered.0 image_answered.1

-- 2 concatenations, 2 components of the image's 3, 1 literal byte of its 2: 32 + 20·2 + 72·2 + 1 bytes
image_sizes : let a = image_answered.0 in
    length a.cc ∷ length (components a) ∷ length (literals_of (components a)) ∷ length (answer_bytes a) ∷ [] ≡ 2 ∷ 2 ∷ 1 ∷ 217 ∷ []
unfolding computed worked_image image_answered
image_sizes = refl

image_read : (u : List (List (Placed Component))) × (each (keep_base (λ s x. stage1_component s x >>= simplify)) 0 (tree_of worked_image) ≡ ok u)
unfolding computed worked_image
image_read = (_, refl)

image_fixed : AllFixed (joined image_read.0)
image_fixed = read_fixed worked_image image_checked image_read.0 image_read.1
