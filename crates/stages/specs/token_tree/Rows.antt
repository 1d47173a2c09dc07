-- The components of a tree as they stand in its image's tables, one after the other.
use Rattle.std.specs.Prelude.{◌≡◌, ◌<◌, ◌≤◌, ◌+◌, ◌*◌, ◌^◌, ◌∷◌}
use Rattle.definition.specs.Prelude.{ℕ, suc, List, [], length}
use Rattle.definition.specs.Image.{Unparsed, u32_at, bytes_for}
use Rattle.definition.specs.Tree.{Node, recs_of, text_of, packed}
use Rattle.prepared.specs.Bytes.{Holds}
use Rattle.prepared.specs.Bits.{Bits}
use Rattle.stages.specs.token_tree.Laid.{Planted}
use Rattle.stages.specs.declared.token_tree.types.Tables.{Tables}

abbrev pub node_of : Node → Unparsed
node_of n = record { recs = recs_of n; bits = n.bits }

-- component k: its row, its records from record r, its text from place s, its literal from byte l of the literals
pub record Rooted (image : List ℕ) (t : Tables) (k r s l : ℕ) (n : Node) : Type 0 where
  pub size : u32_at image (t.components + 8 * k) ≡ length (recs_of n)
  pub width : u32_at image (t.components + 8 * k + 4) ≡ length n.bits
  pub some : 1 ≤ length (recs_of n)
  pub narrow : length n.bits ≤ 4096
  pub bits : Bits n.bits
  pub planted : Planted image t.tree (r + length (recs_of n)) (s + length (text_of (recs_of n))) r s n.forest
  pub literal : Holds image (t.literals + l) (packed n.bits)

unfoldable pub Rows : List ℕ → Tables → ℕ → ℕ → ℕ → ℕ → List Node → Type 0
Rows image t k r s l [] = (r ≡ t.last.0) × (s ≡ t.t.0)
Rows image t k r s l (n ∷ ns) =
    Rooted image t k r s l n × Rows image t (suc k) (r + length (recs_of n)) (s + length (text_of (recs_of n))) (l + bytes_for (length n.bits)) ns

-- what is asked of the tables for a walk over the components: n of them from component k on, l literal bytes before them
pub record TablesFit (image : List ℕ) (t : Tables) (k l n : ℕ) : Type 0 where
  pub rows_fit : t.components + 8 * (k + n) ≤ t.tree.records
  pub records_fit : t.tree.records + 12 * t.last.0 ≡ t.tree.text
  pub text_fits : t.tree.text + t.t.0 ≤ length image
  pub lits : t.literals ≡ t.tree.text + t.t.0
  pub small : length image < 2 ^ 31
  pub few : k + n ≤ 256
  pub short : l + 512 * n ≤ 2 ^ 20

-- the sizes of the lists of a tree, of the concatenations from the i-th on
unfoldable pub Sizes : {A : Type 0} → List ℕ → ℕ → List (List A) → Type 0
Sizes image i [] = Unit
Sizes image i (c ∷ cs) = (u32_at image (40 + 4 * i) ≡ length c) × (1 ≤ length c) × Sizes image (suc i) cs
