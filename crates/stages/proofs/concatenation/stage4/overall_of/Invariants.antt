use Rattle.std.proofs.Common.{◌≡◌, ℕ, List, drop}
use Rattle.definition.specs.Concatenation.{Concatenation}
use Rattle.definition.specs.Overall.{overall_from, overall_start}
use Rattle.stages.specs.concatenation.Heads.{HeadsAre}
use Rattle.stages.specs.concatenation.Overall.{overall_of}
use Rattle.stages.proofs.concatenation.stage4.overall_of.Given as goal

abbrev pub invariant-loop-i : goal.invariant-loop-i
invariant-loop-i l =
    (image : List ℕ) (ds : List Concatenation) → HeadsAre image l.kept l.heads ds
    → overall_from l.bare l.i (drop l.i ds) (overall_of l.o) ≡ overall_from l.bare 0 ds (overall_start ds)
