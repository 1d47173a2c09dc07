-- The records of a component as the items of a text (src/token_tree.rs): characters, and groups with what stands inside.
use Rattle.std.specs.Prelude.{◌+◌, ◌-◌, ◌&&◌, ◌∷◌, ◌++◌, if◌then◌else◌}
use Rattle.definition.specs.Prelude.{ℕ, zero, suc, Bool, not, List, [], drop_last, length}
use Rattle.definition.specs.Basics.{same_bytes}
use Rattle.definition.specs.Image.{Rec, opens}
use Rattle.definition.specs.Tree.{text_of}

-- a part of a component's text: its offset there, and its bytes
pub record Part : Type 0 where
  pub at : ℕ
  pub bytes : List ℕ

abbrev pub no_text : Part
no_text = record { at = 0; bytes = [] }

-- an item: its kind, its whole text, and, of a group, the records inside and where their text begins
pub record Item : Type 0 where
  pub kind : ℕ
  pub part : Part
  pub inside : List Rec
  pub inside_at : ℕ

-- "Skip is 1, but an opener's counts the records to just after its closer": how many more records an item has
abbrev pub more : Rec → ℕ
more r = if opens r.kind then r.skip - 1 else 0

-- the first n records, which belong to the item before them, and the items after those
unfoldable pub chunks : ℕ → List Rec → List Rec × List (List Rec)
chunks n [] = ([], [])
chunks zero (r ∷ rs) = let c = chunks (more r) rs in ([], (r ∷ c.0) ∷ c.1)
chunks (suc n) (r ∷ rs) = let c = chunks n rs in (r ∷ c.0, c.1)

-- an item of the records that it has, at an offset of the component's text
abbrev pub item_of : ℕ → List Rec → Item
item_of at [] = record { kind = 0; part = no_text; inside = []; inside_at = 0 }
item_of at (r ∷ rs) = record { kind = r.kind; part = record { at = at; bytes = text_of (r ∷ rs) }; inside = drop_last rs; inside_at = at + length r.text }

unfoldable pub items_of : ℕ → List (List Rec) → List Item
items_of at [] = []
items_of at (c ∷ cs) = item_of at c ∷ items_of (at + length (text_of c)) cs

-- the items of a run of records whose text begins at an offset
abbrev pub items : ℕ → List Rec → List Item
items at rs = items_of at (chunks 0 rs).1

abbrev pub is_group : Item → Bool
is_group i = opens i.kind

-- "only one-character tokens count": a token of just the one character
abbrev pub is_token : ℕ → Item → Bool
is_token c i = not (is_group i) && same_bytes i.part.bytes (c ∷ [])

-- "The text of a run of records is thus one part of the text"
unfoldable pub bytes_of : List Item → List ℕ
bytes_of [] = []
bytes_of (i ∷ rest) = i.part.bytes ++ bytes_of rest

abbrev pub part_of : List Item → Part
part_of [] = no_text
part_of (i ∷ rest) = record { at = i.part.at; bytes = bytes_of (i ∷ rest) }
