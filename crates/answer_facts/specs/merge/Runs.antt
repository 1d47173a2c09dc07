-- Merging from left to right, as the code walks: with a run of static literals that is open, or without one.
use Rattle.std.specs.Prelude.{◌≡◌, refl, ◌∷◌, ◌++◌}
use Rattle.definition.specs.Prelude.{ℕ, true, false, Option, none, some, List, []}
use Rattle.definition.specs.Image.{Placed}
use Rattle.definition.specs.Component.{Component}
use Rattle.definition.specs.Concatenation.{is_static_literal, bits_of, whole_literal}

-- a run: the text start of its first literal, and its bits
abbrev pub Run : Type 0
Run = Option (Placed (List ℕ))

abbrev pub run_bits : Run → List ℕ
run_bits o = elim o [ none ↦ [] | some b ↦ b.value ]

-- the literal that a run becomes
abbrev pub literal_of : Placed (List ℕ) → Placed Component
literal_of b = record { base = b.base; value = whole_literal b.value }

-- a run with a static literal more
abbrev pub longer : Run → Placed Component → Placed (List ℕ)
longer o c = record { base = elim o [ none ↦ c.base | some b ↦ b.base ]; value = run_bits o ++ bits_of c.value }

-- a run that ends, before other components
abbrev pub closed : Run → List (Placed Component) → List (Placed Component)
closed none ms = ms
closed (some b) ms = literal_of b ∷ ms

unfoldable pub merge_from : Run → List (Placed Component) → List (Placed Component)
merge_from o [] = closed o []
merge_from o (c ∷ cs) =
    elim (is_static_literal c.value) [ true ↦ merge_from (some (longer o c)) cs | false ↦ closed o (c ∷ merge_from none cs) ]

pub from_static : (o : Run) (c : Placed Component) (cs : List (Placed Component)) → is_static_literal c.value ≡ true
    → merge_from o (c ∷ cs) ≡ merge_from (some (longer o c)) cs
unfolding merge_from
from_static o c cs t = rw (t, merge_from)

pub from_other : (o : Run) (c : Placed Component) (cs : List (Placed Component)) → is_static_literal c.value ≡ false
    → merge_from o (c ∷ cs) ≡ closed o (c ∷ merge_from none cs)
unfolding merge_from
from_other o c cs t = rw (t, merge_from)

pub from_end : (o : Run) → merge_from o [] ≡ closed o []
unfolding merge_from
from_end o = refl
