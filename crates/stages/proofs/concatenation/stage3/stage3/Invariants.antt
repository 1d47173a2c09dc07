use Rattle.std.proofs.Common.{◌≡◌, ◌+◌, List, length, drop}
use Rattle.definition.specs.Basics.{joined}
use Rattle.definition.specs.Component as Def
use Rattle.definition.specs.Image.{Placed}
use Rattle.stages.specs.component.Kept.{KeptFrom}
use Rattle.stages.specs.token_tree.Rows.{Sizes}
use Rattle.stages.proofs.concatenation.stage3.Done.{Done}
use Rattle.stages.proofs.concatenation.stage3.stage3.Given as goal

abbrev pub invariant-loop-i : goal.invariant-loop-i
invariant-loop-i l = record {
  left : (cc : List (List (Placed Def.Component))) → length cc ≡ l.c → Sizes l.image 0 cc → l.k.0 + length (joined (drop l.i cc)) ≡ length (joined cc);
  done : (cc : List (List (Placed Def.Component))) → length cc ≡ l.c → Sizes l.image 0 cc → KeptFrom l.image l.kept 0 (joined cc)
      → KeptFrom l.image l.kept l.k.0 (joined (drop l.i cc)) × Done l.image l.kept l.heads l.i cc;
}
