-- The stages of a tree, with stages 1 and 2 of each component in one go, as the code reads them.
use Rattle.std.specs.Prelude.{◌≡◌}
use Rattle.definition.specs.Prelude.{Bool, List, map}
use Rattle.definition.specs.Basics.{Result, ok, ◌>>=◌}
use Rattle.definition.specs.Image.{Unparsed, Placed}
use Rattle.definition.specs.Component.{Component, Parsed, keep_base, each, stage1_component, simplify, starting_value, source, stage1, stage2}
use Rattle.definition.specs.Concatenation.{stage3, merged}
use Rattle.definition.specs.Overall.{stage4}
use Rattle.definition.specs.Run.{Choices, has_start, stages}
use Rattle.definition.specs.Answer.{Answer}

-- stages 1 and 2, and stages 3 to 5 of what they leave
abbrev pub early : List (List (Placed Unparsed)) → Result Parsed
early t = stage1 t >>= stage2

abbrev pub later : Choices → Parsed → Result Answer
later how p =
    stage3 0 p.cc >>= λ cc.
    stage4 how.mode (has_start how p.init) cc >>= λ o.
    ok (record { init = p.init; overall = o; cc = map merged cc })

abbrev pub InTurn : Type 0
InTurn = (how : Choices) (t : List (List (Placed Unparsed))) → stages how t ≡ (early t >>= later how)

abbrev pub both : Bool → Unparsed → Result Component
both scanned u = stage1_component scanned u >>= simplify

-- stage 1 of every component, then both of every component: where stage 1 refuses none, the first refusal of both is stage 2's
abbrev pub StagesRead : Type 0
StagesRead =
    (how : Choices) (t : List (List (Placed Unparsed))) → stages how t
    ≡ (starting_value 0 (source t) >>= λ init.
    each (keep_base stage1_component) 0 t >>= λ _.
    each (keep_base both) 0 t >>= λ u.
    later how (record { init = init; cc = u }))

-- where both refuse none, stage 1 refuses none
abbrev pub ReadFirst : Type 0
ReadFirst =
    (t : List (List (Placed Unparsed))) (u : List (List (Placed Component))) → each (keep_base both) 0 t ≡ ok u
    → (v : List (List (Placed Component))) × (each (keep_base stage1_component) 0 t ≡ ok v)
