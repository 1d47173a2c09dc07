-- The loop's invariant: what was seen is right and what is still to come is right, from the sum so far on, where the whole is right.
use mathlib.Core.Path.{◌≡◌}
use mathlib.Core.Bool.{◌&&◌}
use Prim.Native.Nat.{ℕ, ◌+◌, ◌*◌, ◌-◌, ◌≤◌}
use mathlib.Core.List.{List}
use Rattle.definition.specs.Basics.{tab}
use Rattle.definition.specs.Image.{u32_at}
use Rattle.image.specs.check.Parts.{sizes_right}
use Rattle.image.proofs.check.entries.sizes_right.Given as goal

abbrev pub size : List ℕ → ℕ → ℕ → ℕ → ℕ
size image from step i = u32_at image (from + step * i)

abbrev pub invariant-loop-k : goal.invariant-loop-k
invariant-loop-k l =
    (l.sum ≤ 4294967296 * l.k)
    × ((l.right && sizes_right l.sum (tab (size l.image l.from l.step) l.k (l.n - l.k)) l.total) ≡ sizes_right 0 (tab (size l.image l.from l.step) 0 l.n) l.total)
