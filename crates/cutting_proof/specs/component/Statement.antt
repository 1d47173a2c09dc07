-- What stages 1 and 2 make of a literal with fixed bounds, and of a piece of it.
use Rattle.std.specs.Prelude.{◌≡◌, ◌≤◌, ◌<◌, ◌-◌, ◌∷◌}
use Rattle.definition.specs.Prelude.{ℕ, Bool, true, false, some, List, [], length, take, drop, pos}
use Rattle.definition.specs.Basics.{ok}
use Rattle.definition.specs.Image.{Unparsed, Placed}
use Rattle.definition.specs.Tree.{Forest, end, Node, sound_forest}
use Rattle.definition.specs.Ranges.{val}
use Rattle.definition.specs.Component.{Component, literal, stage1_component, simplify, starting_value}
use Rattle.cutting.specs.Statement.{unparsed, fixed_literal, reads_as, piece, prefix_part}

-- the bits c to d of a literal, as a literal from 0 to its width
abbrev pub cut_to : List ℕ → ℕ → ℕ → Component
cut_to bits c d = record { c_type = literal (drop c (take d bits)); range = record { start = val (pos 0); «end» = some (val (pos (d - c))) } }

-- stage 2 cuts the literal at its bounds
abbrev pub LiteralReads : Type 0
LiteralReads =
    (s : Bool) (n : Node) (a b : ℕ) → fixed_literal s n ≡ some (a, b) →
    (c c' : Component) → stage1_component s (unparsed n) ≡ ok c → simplify c ≡ ok c' →
    (c' ≡ cut_to n.bits a b) × (a < b) × (b ≤ length n.bits)

-- a component is read in stage 1, and then in stage 2 as bits c to d
abbrev pub ReadAs : Bool → Node → List ℕ → ℕ → ℕ → Type 0
ReadAs s m bits c d = (x : Component) × (stage1_component s (unparsed m) ≡ ok x) × (simplify x ≡ ok (cut_to bits c d))

-- a piece is read as the bits between its bounds: a lower one, which is not scanned for a prefix, and the highest, which is scanned if
-- the literal is
abbrev pub PieceReads : Type 0
PieceReads =
    (s : Bool) (n : Node) (a b : ℕ) → sound_forest n.forest ≡ true → fixed_literal s n ≡ some (a, b) →
    (f : Forest) (c d : ℕ) → reads_as (length n.bits) f ≡ some (c, d) → c < d → d ≤ length n.bits →
    ReadAs false (piece s n end f) n.bits c d × ReadAs s (piece s n (prefix_part s n.forest) f) n.bits c d

-- a node at text start 0
abbrev pub bare : Node → Placed Unparsed
bare n = record { base = 0; value = unparsed n }

-- the starting value of the highest piece is the literal's
abbrev pub PrefixKept : Type 0
PrefixKept =
    (n : Node) → sound_forest n.forest ≡ true → (f : Forest) (k : ℕ) →
    starting_value k (bare (piece true n (prefix_part true n.forest) f) ∷ []) ≡ starting_value k (bare n ∷ [])
