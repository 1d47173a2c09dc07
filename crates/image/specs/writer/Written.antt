-- Writing an image: its header, and the rows of its tables, each table filled from its start. What is said of a tree: once each table
-- holds the tree's rows, the area holds the tree's image, and beyond it what it held.
use Rattle.std.specs.Prelude.{◌≡◌, ◌≤◌, ◌+◌, ◌++◌}
use Rattle.std.proofs.lemmas.List.Edits.{sets}
use Rattle.definition.specs.Prelude.{ℕ, List, [], map, length, drop}
use Rattle.definition.specs.Basics.{joined}
use Rattle.definition.specs.Image.{tables_for}
use Rattle.definition.specs.Tree.{u32, Tree, Node, recs_of, all_recs, text_of, literals_of, record_bytes, image_of}

-- ---- the header and single rows

abbrev pub counts_bytes : record { c : ℕ; n : ℕ; r : ℕ; t : ℕ; b : ℕ } → List ℕ
counts_bytes h = u32 h.c ++ u32 h.n ++ u32 h.r ++ u32 h.t ++ u32 h.b

abbrev pub offsets_bytes : record { concatenations : ℕ; components : ℕ; records : ℕ; text : ℕ; literals : ℕ; stop : ℕ } → List ℕ
offsets_bytes p = u32 p.concatenations ++ u32 p.components ++ u32 p.records ++ u32 p.text ++ u32 p.literals

abbrev pub header_bytes : record { c : ℕ; n : ℕ; r : ℕ; t : ℕ; b : ℕ } → List ℕ
header_bytes h = counts_bytes h ++ offsets_bytes (tables_for h.c h.n h.r h.t h.b)

abbrev pub component_row : ℕ → ℕ → List ℕ
component_row records width = u32 records ++ u32 width

abbrev pub record_row : ℕ → ℕ → ℕ → List ℕ
record_row kind start skip = u32 kind ++ u32 start ++ u32 skip

-- ---- several tables, each filled from some place on

pub record Rows : Type 0 where
  pub concatenations : List ℕ
  pub components : List ℕ
  pub records : List ℕ
  pub text : List ℕ
  pub literals : List ℕ

-- where the next row of each table goes
pub record Places : Type 0 where
  pub concatenations : ℕ
  pub components : ℕ
  pub records : ℕ
  pub text : ℕ
  pub literals : ℕ

abbrev pub wrote : List ℕ → Places → Rows → List ℕ
wrote area p w =
    sets (sets (sets (sets (sets area p.concatenations w.concatenations) p.components w.components) p.records w.records)
    p.text w.text) p.literals w.literals

-- one after the other
abbrev pub and_rows : Rows → Rows → Rows
and_rows v w =
    record {
      concatenations = v.concatenations ++ w.concatenations;
      components = v.components ++ w.components;
      records = v.records ++ w.records;
      text = v.text ++ w.text;
      literals = v.literals ++ w.literals;
    }

abbrev pub beyond : Places → Rows → Places
beyond p w =
    record {
      concatenations = p.concatenations + length w.concatenations;
      components = p.components + length w.components;
      records = p.records + length w.records;
      text = p.text + length w.text;
      literals = p.literals + length w.literals;
    }

-- the rows of each table end before the next table's place
pub record Apart (p : Places) (w : Rows) : Type 0 where
  pub concatenations : p.concatenations + length w.concatenations ≤ p.components
  pub components : p.components + length w.components ≤ p.records
  pub records : p.records + length w.records ≤ p.text
  pub text : p.text + length w.text ≤ p.literals

abbrev pub WroteAppend : Type 0
WroteAppend = (area : List ℕ) (p : Places) (v w : Rows) → Apart p (and_rows v w)
    → wrote (wrote area p v) (beyond p v) w ≡ wrote area p (and_rows v w)

-- ---- a tree

-- the rows of components whose texts start at `start`
abbrev pub node_rows : ℕ → List Node → Rows
node_rows start ns =
    record {
      concatenations = [];
      components = joined (map (λ (n : Node). component_row (length (recs_of n)) (length n.bits)) ns);
      records = record_bytes start (all_recs ns);
      text = text_of (all_recs ns);
      literals = literals_of ns;
    }

-- the rows of concatenations
abbrev pub tree_rows : ℕ → Tree → Rows
tree_rows start t =
    let rows = node_rows start (joined t) in
    record {
      concatenations = joined (map (λ (c : List Node). u32 (length c)) t);
      components = rows.components;
      records = rows.records;
      text = rows.text;
      literals = rows.literals;
    }

abbrev pub counts_for : Tree → record { c : ℕ; n : ℕ; r : ℕ; t : ℕ; b : ℕ }
counts_for t =
    record {
      c = length t;
      n = length (joined t);
      r = length (all_recs (joined t));
      t = length (text_of (all_recs (joined t)));
      b = length (literals_of (joined t));
    }

-- where the tables of an image with these counts begin
abbrev pub places_for : record { c : ℕ; n : ℕ; r : ℕ; t : ℕ; b : ℕ } → Places
places_for h =
    let p = tables_for h.c h.n h.r h.t h.b in
    record {
      concatenations = p.concatenations;
      components = p.components;
      records = p.records;
      text = p.text;
      literals = p.literals;
    }

-- the header and the rows of a tree, in an area that they fit: the tree's image, and then what the area held
abbrev pub ImageWritten : Type 0
ImageWritten = (t : Tree) (area : List ℕ) → length (image_of t) ≤ length area
    → wrote (sets area 0 (header_bytes (counts_for t))) (places_for (counts_for t)) (tree_rows 0 t) ≡ image_of t ++ drop (length (image_of t)) area

-- rows of components one after the other
abbrev pub NodeRowsAppend : Type 0
NodeRowsAppend = (start : ℕ) (ms ns : List Node)
    → node_rows start (ms ++ ns) ≡ and_rows (node_rows start ms) (node_rows (start + length (text_of (all_recs ms))) ns)
