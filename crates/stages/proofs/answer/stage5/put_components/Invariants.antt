-- Before a turn what is still to be written are the concatenations from x-index on.
use Rattle.definition.specs.Prelude.{List}
use Rattle.definition.specs.Basics.{joined}
use Rattle.definition.specs.Concatenation.{Concatenation}
use Rattle.answer_facts.specs.fits.Fixed.{AllFixed}
use Rattle.stages.specs.concatenation.Heads.{HeadsAre}
use Rattle.stages.specs.answer.merging.Put.{Room}
use Rattle.stages.specs.answer.Stage5.{merged_all, comps_of}
use Rattle.stages.proofs.answer.stage5.Placing.{Placing}
use Rattle.stages.proofs.answer.stage5.put_components.Given as goal

abbrev pub invariant-loop-x : goal.invariant-loop-x
invariant-loop-x l =
    (ds : List Concatenation) → HeadsAre l.image l.kept l.heads ds → AllFixed (joined (comps_of ds)) → Room l.initial.area l.fn.from (merged_all (comps_of ds))
    → Placing l.image l.kept l.initial.area l.fn.from (merged_all (comps_of ds)) l.heads l.x-index l.area l.w
