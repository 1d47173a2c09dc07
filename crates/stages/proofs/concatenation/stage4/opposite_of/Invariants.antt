use Rattle.std.proofs.Common.{◌≡◌, ℕ, List, drop}
use Rattle.definition.specs.Concatenation.{Concatenation}
use Rattle.definition.specs.Overall.{opposite_from}
use Rattle.stages.specs.concatenation.Heads.{HeadsAre}
use Rattle.stages.specs.declared.component.types.Component.{Component}
use Rattle.stages.proofs.concatenation.stage4.opposite_of.Given as goal

abbrev pub invariant-loop-i : goal.invariant-loop-i
invariant-loop-i l =
    (image : List ℕ) (kept : List Component) (ds : List Concatenation) → HeadsAre image kept l.heads ds → opposite_from l.i (drop l.i ds) ≡ opposite_from 0 ds
