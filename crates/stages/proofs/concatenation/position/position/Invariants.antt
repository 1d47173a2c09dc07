use Rattle.std.proofs.Common.{◌≡◌, Bool, ◌+◌, drop}
use Rattle.definition.specs.Overall.{place_from}
use Rattle.stages.proofs.concatenation.position.position.Given as goal

abbrev pub invariant-loop-i : goal.invariant-loop-i
invariant-loop-i g l =
    (p : g.row.T.Denot → Bool) → ((x : g.row.T.Denot) (b : Bool) → goal.F-post g l.fn.test x b → b ≡ p x)
    → place_from p (l.fn.n + l.i) (drop l.i l.items) ≡ place_from p l.fn.n l.items
