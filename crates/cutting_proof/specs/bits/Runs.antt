-- The run of literals with static ranges that ends a list.
use Rattle.std.specs.Prelude.{◌≡◌, refl, ◌&&◌, ◌∷◌, ◌++◌, if◌then◌else◌}
use Rattle.definition.specs.Prelude.{Bool, true, false, List, []}
use Rattle.definition.specs.Basics.{is_empty}
use Rattle.definition.specs.Image.{Placed}
use Rattle.definition.specs.Component.{Component}
use Rattle.definition.specs.Concatenation.{is_static_literal}
use Rattle.cutting.specs.Statement.{Below, run_end}
use Rattle.laws.specs.Tests.{by_test, and_iff}
use Rattle.answer_facts.specs.read.Facts.{Every, every_nil, every_cons}

-- a literal with a static range
abbrev pub Static : Placed Component → Type 0
Static c = is_static_literal c.value ≡ true

-- ---- the run that ends a list

-- a component set before what is known of the rest; the test is whether it is in the run
abbrev before : Placed Component → Below → Bool → Below
before c r t = if t then record { rest = []; in_run = c ∷ r.in_run } else record { rest = c ∷ r.rest; in_run = r.in_run }

run_only : {ps : List (Placed Component)} → Every Static ps → run_end ps ≡ record { rest = []; in_run = ps }
unfolding run_end
run_only every_nil = refl
run_only (every_cons {a = c} {l = ps} s ss) = rw (run_only ss, s)

-- literals with static ranges behind a list lengthen its run
pub run_longer : (l : List (Placed Component)) {ps : List (Placed Component)} → Every Static ps
    → run_end (l ++ ps) ≡ record { rest = (run_end l).rest; in_run = (run_end l).in_run ++ ps }
unfolding run_end
run_longer [] ss = run_only ss
run_longer (c ∷ l) {ps} ss = rw (run_longer l ss) (go (is_empty (run_end l).rest && is_static_literal c.value))
  where
    go : (t : Bool)
        → before c (record { rest = (run_end l).rest; in_run = (run_end l).in_run ++ ps }) t
        ≡ record { rest = (before c (run_end l) t).rest; in_run = (before c (run_end l) t).in_run ++ ps }
    go true = refl
    go false = refl

-- what holds of all holds of the run's, and they are literals with static ranges
pub run_every : {P : Placed Component → Type 0} {l : List (Placed Component)} → Every P l → Every (λ c. P c × Static c) (run_end l).in_run
unfolding run_end
run_every every_nil = every_nil
run_every {P} (every_cons {a = c} {l = l} p ps) = by_test (is_empty (run_end l).rest && is_static_literal c.value)
    (λ t. rw t (every_cons (p, ((and_iff (is_empty (run_end l).rest) (is_static_literal c.value)).0 t).1) (run_every ps)))
    (λ t. rw t (run_every ps))
