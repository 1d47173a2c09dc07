-- The record checker. The loop's invariant: whatever the records that are left say, all of them say. The loop's measure is what is
-- left, the function's the count that it was given.
use Rattle.std.proofs.Common.{◌≡◌, ◌+◌, ◌≤◌}
use Rattle.definition.specs.Basics.{Result}
use Rattle.image.specs.token_tree.Tables.{entry_in}
use Rattle.image.specs.check.Parts.{Says}
use Rattle.image.proofs.check.records.+check_in.Given as goal

abbrev pub decreases-check_in : goal.decreases-check_in
decreases-check_in l = l.count

abbrev pub invariant-loop-left : goal.invariant-loop-left
invariant-loop-left l =
    (l.k + l.left ≡ l.from + l.count) × (l.left ≤ l.count)
    × ((x : Result Unit) → Says l.p.t (entry_in l.image l.p.records l.p.text l.p.count l.p.t) l.depth l.k l.left x → Says l.p.t (entry_in l.image l.p.records l.p.text l.p.count l.p.t) l.depth l.from l.count x)

abbrev pub decreases-loop-left : goal.decreases-loop-left
decreases-loop-left l = l.left
