-- The loop's invariant: what was seen is right and what is still to come is right, from literal byte l on, where the whole is right.
use mathlib.Core.Path.{◌≡◌}
use mathlib.Core.Bool.{◌&&◌}
use mathlib.Core.List.{List}
use Prim.Native.Nat.{ℕ, ◌+◌, ◌*◌, ◌-◌, ◌≤◌}
use Rattle.definition.specs.Basics.{tab}
use Rattle.definition.specs.Image.{u32_at}
use Rattle.image.specs.check.Parts.{widths_right}
use Rattle.image.proofs.check.entries.widths_right.Given as goal

abbrev pub width : List ℕ → ℕ → ℕ → ℕ
width image components i = u32_at image (components + 8 * i + 4)

abbrev pub invariant-loop-k : goal.invariant-loop-k
invariant-loop-k l =
    (l.l ≤ 536870912 * l.k)
    × ((l.right && widths_right l.image l.l (tab (width l.image l.components) l.k (l.n - l.k)) l.total) ≡ widths_right l.image 0 (tab (width l.image l.components) 0 l.n) l.total)
