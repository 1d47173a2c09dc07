use Rattle.std.proofs.Common.{◌≡◌, ℕ, ◌+◌, ◌≤◌, List, length, drop}
use Rattle.definition.specs.Image.{Placed}
use Rattle.definition.specs.Component as Def
use Rattle.definition.specs.Concatenation.{merge}
use Rattle.stages.specs.ranges.Values.{Tree as TreeIn}
use Rattle.stages.specs.component.Kept.{Are}
use Rattle.stages.proofs.concatenation.check.Counts.{count_from}
use Rattle.stages.proofs.concatenation.check.merged.Given as goal

abbrev pub invariant-loop-c : goal.invariant-loop-c
invariant-loop-c l = record {
  few : l.m ≤ l.c-index;
  counts : (image : List ℕ) (t : TreeIn) (cs : List (Placed Def.Component)) → Are image t l.comps cs
      → l.m + count_from l.was (drop l.c-index cs) ≡ length (merge cs);
}
