-- Before turn i the concatenations from i on are left.
use Rattle.definition.specs.Prelude.{ℕ, List}
use Rattle.definition.specs.Concatenation.{Concatenation}
use Rattle.std.proofs.lemmas.List.Edits.{sets}
use Rattle.stages.specs.concatenation.Heads.{HeadsAre}
use Rattle.stages.specs.declared.component.types.Component.{Component}
use Rattle.stages.proofs.answer.heads.Listed.{blocks, Blocks}
use Rattle.stages.proofs.answer.heads.put_concatenations.Given as goal

abbrev pub invariant-loop-i : goal.invariant-loop-i
invariant-loop-i l =
    (image : List ℕ) (kept : List Component) (ds : List Concatenation) → HeadsAre image kept l.heads ds
    → Blocks image kept l.heads l.i (sets l.initial.area 32 (blocks ds)) l.area
