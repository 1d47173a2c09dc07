-- A closed run that meets the premises of the theorems on the way: a starting value, and a bracket without dots, whose text is read twice.
use Rattle.std.specs.Prelude.{◌≡◌, refl, ◌<◌, ◌*◌, ◌^◌, ◌∷◌}
use Rattle.std.proofs.Common.{lit≤}
use Rattle.definition.specs.Prelude.{ℕ, List, [], length}
use Rattle.definition.specs.Basics.{ok, joined, ascii}
use Rattle.definition.specs.Image.{counts, kinds, tree_of}
use Rattle.definition.specs.Check.{check_image}
use Rattle.definition.specs.Tree.{Tree, end, word, group, image_of}
use Rattle.definition.specs.Answer.{Answer, components, answer_bytes, read_answer}
use Rattle.definition.specs.Listing.{output}
use Rattle.definition.specs.Run.{under, stages}
use Rattle.definition.specs.Compute.{computed}
use Rattle.answer_facts.specs.read.Trees.{total}
use Rattle.listing_length.specs.Lines.{texts, literals}
use Rattle.listing_length.specs.run.Stages.{twice}

-- "5", "6" and, with a starting value, "s:v[ab]"; then "w"
unfoldable example : Tree
example =
    (record { forest = word (53 ∷ []) end; bits = 1 ∷ 0 ∷ 1 ∷ [] }
    ∷ record { forest = word (54 ∷ []) end; bits = 0 ∷ 1 ∷ 1 ∷ [] }
    ∷ record { forest = word (115 ∷ []) (word (58 ∷ []) (word (118 ∷ []) (group kinds.bracket (word (97 ∷ 98 ∷ []) end) end))); bits = [] }
    ∷ [])
    ∷ (record { forest = word (119 ∷ []) end; bits = [] } ∷ [])
    ∷ []

unfoldable image : List ℕ
image = image_of example

checked : check_image image ≡ ok tt
unfolding computed example image
checked = refl

accepted : (a : Answer) × (stages (under 1) (tree_of image) ≡ ok a)
unfolding computed example image
accepted = (_, refl)

-- its counts are small, it has 7 bytes of text of at most 2 · 10, and 1 byte of literals
small : (length accepted.0.cc < 2 ^ 32) × (length (components accepted.0) < 2 ^ 32)
unfolding computed example image accepted
small = (lit≤ tt, lit≤ tt)

measured : (texts (read_answer image (answer_bytes accepted.0)) ≡ 7)
    × (total twice (joined (tree_of image)) ≡ 2 * (counts image).t)
    × ((counts image).t ≡ 10)
    × (literals (read_answer image (answer_bytes accepted.0)) ≡ 1)
unfolding computed example image accepted
measured = (refl, refl, refl, refl)

listed : output (1 ∷ image)
    ≡ ascii "layout 2 3 7 none D Z =s\nc 0 2 7 none D Z\nliteral +0 +6 35\nvariable ab+0 ab+1 v\nc 1 1 - none D Z\nvariable +0 - w\n"
unfolding computed example image
listed = refl
