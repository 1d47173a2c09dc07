use Rattle.std.proofs.Common.{◌≡◌, ℕ, List, drop, eqb, true}
use Rattle.definition.specs.Image.{Placed}
use Rattle.definition.specs.Component as Def
use Rattle.definition.specs.Concatenation.{check_from, unchecked}
use Rattle.stages.specs.ranges.Values.{Tree as TreeIn}
use Rattle.stages.specs.component.Kept.{Are}
use Rattle.stages.specs.concatenation.running_check.Running.{running_of}
use Rattle.stages.proofs.concatenation.check.check.Given as goal

abbrev pub invariant-loop-k : goal.invariant-loop-k
invariant-loop-k l =
    (image : List ℕ) (t : TreeIn) (cs : List (Placed Def.Component)) → Are image t l.comps cs
    → check_from l.i l.k (eqb l.k 0) (drop l.k cs) (running_of l.r) ≡ check_from l.i 0 true cs unchecked
