-- What is claimed of prepared images: the image of a tree that fits passes the check and reads back as the tree, and every image
-- that passes the check is the image of a tree that fits.
use Rattle.std.specs.Prelude.{◌≡◌, ◌+◌, ◌∷◌}
use Rattle.definition.specs.Prelude.{ℕ, true, List, [], map, length, ltb, get_or}
use Rattle.definition.specs.Basics.{ok, all, joined, tab}
use Rattle.definition.specs.Image.{Rec, Unparsed, Placed, Entry, counts, tables, bytes_at, entry_at, tree_of, parts}
use Rattle.definition.specs.Check.{check_image}
use Rattle.definition.specs.Tree.{Tree, Node, recs_of, all_recs, text_of, literals_of, image_of, fits}

-- a list of bytes
abbrev pub Bytes : List ℕ → Type 0
Bytes s = all (λ b. ltb b 256) s ≡ true

-- the components of a tree, each with the text start that its image gives it
unfoldable pub placed_from : ℕ → List Node → List (Placed Unparsed)
placed_from base [] = []
placed_from base (n ∷ ns) =
    record { base = base; value = record { recs = recs_of n; bits = n.bits } } ∷ placed_from (base + length (text_of (recs_of n))) ns

unfoldable pub placed_tree : Tree → List (List (Placed Unparsed))
placed_tree t = parts (map length t) (placed_from 0 (joined t))

-- the record table of a tree, from a text start on
unfoldable pub entries_from : ℕ → List Rec → List Entry
entries_from start [] = []
entries_from start (r ∷ rs) =
    record { kind = r.kind; start = start; stop = start + length r.text; skip = r.skip; byte = get_or r.text 0 0 }
    ∷ entries_from (start + length r.text) rs

-- the tables of a tree's image are the tree's
pub record ReadsBack (t : Tree) : Type 0 where
  -- counts: concatenations, components, records, text bytes, literal bytes
  pub concatenations : (counts (image_of t)).c ≡ length t
  pub components : (counts (image_of t)).n ≡ length (joined t)
  pub records : (counts (image_of t)).r ≡ length (all_recs (joined t))
  pub text_bytes : (counts (image_of t)).t ≡ length (text_of (all_recs (joined t)))
  pub literal_bytes : (counts (image_of t)).b ≡ length (literals_of (joined t))
  -- the record table: kinds, text starts, skips
  pub entries : tab (entry_at (image_of t)) 0 (length (all_recs (joined t))) ≡ entries_from 0 (all_recs (joined t))
  -- the text
  pub text : bytes_at (image_of t) (tables (image_of t)).text (length (text_of (all_recs (joined t)))) ≡ text_of (all_recs (joined t))
  -- concatenations of components, with records, texts, skips, widths, bits and text starts
  pub tree : tree_of (image_of t) ≡ placed_tree t
  -- and the image is a byte string
  pub bytes : Bytes (image_of t)

abbrev pub PassesCheck : Type 0
PassesCheck = (t : Tree) → fits t ≡ true → check_image (image_of t) ≡ ok tt

abbrev pub ReadBack : Type 0
ReadBack = (t : Tree) → fits t ≡ true → ReadsBack t

abbrev pub EveryImage : Type 0
EveryImage = (image : List ℕ) → Bytes image → check_image image ≡ ok tt → (t : Tree) × (fits t ≡ true) × (image ≡ image_of t)
