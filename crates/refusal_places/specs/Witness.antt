-- Closed refusals of the whole run: the premise is met, by each kind of place, the lowest and the greatest number and the last concatenation.
use Rattle.std.specs.Prelude.{◌≡◌, refl, replicate, ◌∷◌, ◌++◌}
use Rattle.definition.specs.Prelude.{[]}
use Rattle.definition.specs.Basics.{ascii, refused, refusal_of}
use Rattle.definition.specs.Tree.{Node, end, word, image_of}
use Rattle.definition.specs.Readings.{tokens}
use Rattle.definition.specs.Run.{under, run}
use Rattle.definition.specs.Compute.{computed}

-- components: a variable, an unbounded filler, and a literal of one bit
abbrev pub variable : Node
variable = record { forest = word (ascii "a") end; bits = [] }

abbrev pub filler : Node
filler = record { forest = tokens ("." ∷ "." ∷ []); bits = [] }

abbrev pub literal : Node
literal = record { forest = word (ascii "1u1") end; bits = 1 ∷ [] }

pub refused_runs :
    -- no image; a mode above 2
    run [] (under 0) 0 ∷ run [] (under 3) 0
    -- a literal in a sink, as component 1 of concatenation 1, and as component 0 of the last of 16 concatenations
    ∷ run (image_of ((variable ∷ []) ∷ (variable ∷ literal ∷ []) ∷ [])) (under 0) 1000
    ∷ run (image_of (replicate 15 (variable ∷ []) ++ ((literal ∷ []) ∷ []))) (under 0) 2000
    -- concatenations 0 and 1 with opposite fillers
    ∷ run (image_of ((filler ∷ variable ∷ []) ∷ (variable ∷ filler ∷ []) ∷ [])) (under 0) 1000
    ∷ []
    ≡ refused (refusal_of 2 0 0) ∷ refused (refusal_of 1 0 0) ∷ refused (refusal_of 30 1 1) ∷ refused (refusal_of 30 15 0) ∷ refused (refusal_of 45 0 1) ∷ []
unfolding computed tokens
refused_runs = refl
