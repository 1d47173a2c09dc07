-- The loop keeps what Scans says.
use Rattle.std.proofs.Common.{ℕ, List}
use Rattle.definition.specs.Text.{Item}
use Rattle.stages.specs.token_tree.Laid.{Laid}
use Rattle.stages.proofs.token_tree.Stepping.{Over}
use Rattle.stages.proofs.ranges.scan.Scans.{Scanning}
use Rattle.stages.proofs.ranges.scan.dots_in.Given as goal

abbrev pub invariant-loop-item : goal.invariant-loop-item
invariant-loop-item l =
    Over l.image l.fn.tree l.fn.run.stop.0 l.fn.run.end.0 l.item-iterator
    × ((base s' : ℕ) (is : List Item) → Laid l.image l.fn.tree base l.fn.run.stop.0 l.fn.run.end.0 l.fn.run.r.0 s' is
    → Scanning l.image l.fn.tree base l.fn.run.stop.0 l.fn.run.end.0 l.fn.run.r.0 is l.d l.item-iterator.at.0 l.item-iterator.s.0)
