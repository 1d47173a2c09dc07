-- The loop keeps what Going says.
use Rattle.std.proofs.Common.{◌≡◌, ℕ, List, ◌++◌, length}
use Rattle.definition.specs.Tree.{Node}
use Rattle.stages.specs.token_tree.Rows.{Rows}
use Rattle.stages.specs.component.Start.{after_of, AfterIn}
use Rattle.stages.proofs.component.walk.Going.{Stands, Going}
use Rattle.stages.proofs.component.walk.turns.Given as goal

abbrev pub invariant-loop-j : goal.invariant-loop-j
invariant-loop-j l =
    Stands l.image l.t (after_of l.start) l.i l.n l.j (length l.kept) l.w
    × ((s : ℕ) (ns ms : List Node) → length ns ≡ l.n → Rows l.image l.t l.initial.w.k.0 l.initial.w.r.0 s l.initial.w.l (ns ++ ms)
    → AfterIn l.image l.t.tree (after_of l.start) l.i l.initial.w.r.0 ns → Going l.image l.t (after_of l.start) l.i s ns ms l.initial.w l.initial.kept l.j l.w l.kept)
