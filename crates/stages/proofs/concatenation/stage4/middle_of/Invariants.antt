use Rattle.std.proofs.Common.{◌≡◌, ℕ, List, drop}
use Rattle.definition.specs.Concatenation.{Concatenation}
use Rattle.definition.specs.Overall.{middle_from}
use Rattle.stages.specs.concatenation.Heads.{HeadsAre}
use Rattle.stages.proofs.concatenation.stage4.middle_of.Given as goal

abbrev pub invariant-loop-i : goal.invariant-loop-i
invariant-loop-i l =
    (image : List ℕ) (ds : List Concatenation) → HeadsAre image l.kept l.heads ds → middle_from l.i (drop l.i ds) ≡ middle_from 0 ds
