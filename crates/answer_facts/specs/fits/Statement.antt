-- What an answer of a checked image holds: its counts, its length, and that it fits the area of number 8.
use Rattle.std.specs.Prelude.{◌≡◌, ◌≤◌, ◌+◌, ◌*◌}
use Rattle.definition.specs.Prelude.{ℕ, List, map, length}
use Rattle.definition.specs.Basics.{ok, ◌>>=◌, joined}
use Rattle.definition.specs.Limits.{sizes, area_needed}
use Rattle.definition.specs.Image.{Placed, counts, tree_of}
use Rattle.definition.specs.Check.{check_image}
use Rattle.definition.specs.Component.{Component, keep_base, each, stage1_component, simplify}
use Rattle.definition.specs.Answer.{Answer, components, literal_bytes, answer_bytes}
use Rattle.definition.specs.Run.{Choices, stages}
use Rattle.answer_facts.specs.fits.Fixed.{AllFixed}

-- the literal bytes of components, one after the other
abbrev pub literals_of : List (Placed Component) → List ℕ
literals_of cs = joined (map literal_bytes cs)

pub record Fits (image : List ℕ) (a : Answer) : Type 0 where
  pub concatenations : length a.cc ≡ (counts image).c
  pub merged : length (components a) ≤ (counts image).n
  pub literals : length (literals_of (components a)) ≤ (counts image).b
  pub size : length (answer_bytes a)
      ≡ sizes.head + sizes.concatenation * length a.cc + sizes.component * length (components a) + length (literals_of (components a))
  pub room : length (answer_bytes a) ≤ area_needed (counts image).c (counts image).n (counts image).b

abbrev pub AnswerFits : Type 0
AnswerFits = (image : List ℕ) → check_image image ≡ ok tt → (how : Choices) (a : Answer) → stages how (tree_of image) ≡ ok a → Fits image a

-- the components as stages 1 and 2 leave them
abbrev pub ReadFixed : Type 0
ReadFixed =
    (image : List ℕ) → check_image image ≡ ok tt → (u : List (List (Placed Component)))
    → each (keep_base (λ s x. stage1_component s x >>= simplify)) 0 (tree_of image) ≡ ok u → AllFixed (joined u)
