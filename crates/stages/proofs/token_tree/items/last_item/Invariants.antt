-- `token_tree::items::last_item` meets its contract. The invariant: the last item is the one at `at` or stands behind it.
use Rattle.std.proofs.Common.{◌-◌}
use Rattle.stages.proofs.token_tree.Lasts.{Last}
use Rattle.stages.proofs.token_tree.items.last_item.Given as goal

abbrev pub invariant-loop-at : goal.invariant-loop-at
invariant-loop-at l = Last l.image l.tree l.run.stop.0 l.initial.at.0 l.at.0 l.next.0

abbrev pub decreases-loop-at : goal.decreases-loop-at
decreases-loop-at l = l.run.stop.0 - l.next.0
