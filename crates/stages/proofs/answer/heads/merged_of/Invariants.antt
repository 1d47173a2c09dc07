-- Before turn i the sizes of the concatenations from i on are left.
use Rattle.std.proofs.Common.{◌*◌, ◌≤◌, map}
use Rattle.definition.specs.Prelude.{ℕ, List}
use Rattle.definition.specs.Basics.{sum}
use Rattle.definition.specs.Concatenation.{Concatenation}
use Rattle.stages.specs.concatenation.Heads.{HeadsAre}
use Rattle.stages.specs.declared.component.types.Component.{Component}
use Rattle.stages.proofs.answer.heads.Listed.{size_of, Sizes}
use Rattle.stages.proofs.answer.heads.merged_of.Given as goal

abbrev pub invariant-loop-x : goal.invariant-loop-x
invariant-loop-x l =
    (l.m ≤ 4294967296 * l.x-index)
    × ((image : List ℕ) (kept : List Component) (ds : List Concatenation) → HeadsAre image kept l.heads ds
    → Sizes image kept l.heads l.x-index (sum (map size_of ds)) l.m)
