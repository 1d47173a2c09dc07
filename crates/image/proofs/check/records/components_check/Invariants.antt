-- The loop's invariant: what the components that are left say, from record `from` on, all of them say.
use mathlib.Core.Path.{◌≡◌}
use Prim.Native.Nat.{◌+◌, ◌-◌}
use Rattle.definition.specs.Basics.{sum, tab}
use Rattle.definition.specs.Image.{record_count}
use Rattle.definition.specs.Check.{check_components}
use Rattle.image.proofs.check.records.components_check.Given as goal

abbrev pub invariant-loop-k : goal.invariant-loop-k
invariant-loop-k l =
    (l.from + sum (tab (record_count l.image) l.k (l.n - l.k)) ≡ sum (tab (record_count l.image) 0 l.n))
    × (check_components l.image l.from (tab (record_count l.image) l.k (l.n - l.k)) ≡ check_components l.image 0 (tab (record_count l.image) 0 l.n))
