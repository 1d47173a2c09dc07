-- Before a turn the components from c-index on are left.
use Rattle.std.proofs.Common.{drop}
use Rattle.definition.specs.Prelude.{List}
use Rattle.definition.specs.Image.{Placed}
use Rattle.definition.specs.Component as Def
use Rattle.definition.specs.Concatenation.{merge}
use Rattle.answer_facts.specs.fits.Fixed.{AllFixed}
use Rattle.stages.specs.ranges.Values.{Tree}
use Rattle.stages.specs.component.Kept.{Are}
use Rattle.stages.specs.answer.merging.Put.{Room}
use Rattle.stages.proofs.answer.merging.Turns.{Midway}
use Rattle.stages.proofs.answer.merging.simplify.Given as goal

abbrev pub invariant-loop-c : goal.invariant-loop-c
invariant-loop-c l =
    (t : Tree) (cs : List (Placed Def.Component)) → Are l.image t l.comps cs → AllFixed cs → Room l.initial.area l.fn.w (merge cs)
    → Midway l.image t (drop l.c-index l.comps) l.initial.area l.fn.w (merge cs) l.area l.s
