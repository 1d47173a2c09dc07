-- Records by number in the record table, and the tables of an image, as the code holds them.
use Rattle.std.specs.Prelude.{◌≡◌, ◌<◌, ◌≤◌, ◌+◌, ◌*◌, ◌^◌, if◌then◌else◌}
use Rattle.definition.specs.Prelude.{ℕ, List, length, get_or, eqb}
use Rattle.definition.specs.Image.{u32_at, counts, tables}
use Rattle.stages.specs.declared.token_tree.types.Entry.{Entry}
use Rattle.stages.specs.declared.token_tree.types.Tree.{Tree}
use Rattle.stages.specs.declared.token_tree.types.Tables.{Tables}
use Rattle.stages.specs.declared.token_tree.types.Run.{Run}

-- what a record's entry holds, of the record at a byte place
abbrev pub Reads : List ℕ → ℕ → Entry → Type 0
Reads s at e = (e.kind ≡ u32_at s at) × ((e.start.0 ≡ u32_at s (at + 4)) × (e.skip ≡ u32_at s (at + 8)))

-- record r of a table
abbrev pub kind_in : List ℕ → Tree → ℕ → ℕ
kind_in image t r = u32_at image (t.records + 12 * r)

abbrev pub start_in : List ℕ → Tree → ℕ → ℕ
start_in image t r = u32_at image (t.records + 12 * r + 4)

abbrev pub skip_in : List ℕ → Tree → ℕ → ℕ
skip_in image t r = u32_at image (t.records + 12 * r + 8)

-- where the text of a run starts: at its first record's start, or, of an empty run, where it ends
abbrev pub start_or : List ℕ → Tree → ℕ → ℕ → ℕ → ℕ
start_or image t r stop tail = if eqb r stop then tail else start_in image t r

-- the byte of an item of one byte, else 0
abbrev pub single_of : List ℕ → ℕ → ℕ → ℕ
single_of image at len = if eqb len 1 then get_or image at 0 else 0

-- record r lies within the image
pub record RecordFits (image : List ℕ) (t : Tree) (r : ℕ) : Type 0 where
  pub room : t.records + 12 * r + 12 ≤ length image
  pub small : length image < 2 ^ 31

-- the tables of an image
abbrev pub tree_in : List ℕ → Tree
tree_in image = record { records = (tables image).records; text = (tables image).text }

abbrev pub tables_in : List ℕ → Tables
tables_in image =
    record {
      c = (counts image).c;
      components = (tables image).components;
      tree = tree_in image;
      literals = (tables image).literals;
      last = record { 0 = (counts image).r };
      t = record { 0 = (counts image).t };
    }

-- n records from r on lie within the table, and the next one too if there is one
pub record RunFits (image : List ℕ) (t : Tables) (r n : ℕ) : Type 0 where
  pub order : r + n ≤ t.last.0
  pub table : t.tree.records + 12 * t.last.0 ≤ length image
  pub small : length image < 2 ^ 31

abbrev pub run_in : List ℕ → Tables → ℕ → ℕ → Run
run_in image t r n =
    record { r = record { 0 = r }; stop = record { 0 = r + n }; «end» = record { 0 = start_or image t.tree (r + n) t.last.0 t.t.0 } }
