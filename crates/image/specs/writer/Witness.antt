-- The laws of a tree's rows on a small tree: their premises can be met, and what they say can be computed.
use Rattle.std.specs.Prelude.{◌≡◌, refl, ◌≤◌, replicate, ◌∷◌, ◌++◌}
use Rattle.std.proofs.Common.{arith}
use Rattle.std.proofs.lemmas.List.{length-replicate}
use Rattle.std.proofs.lemmas.List.Edits.{sets}
use Rattle.definition.specs.Prelude.{ℕ, List, [], length, drop}
use Rattle.definition.specs.Compute.{computed}
use Rattle.definition.specs.Image.{kinds}
use Rattle.definition.specs.Tree.{Tree, Node, end, word, group, image_of}
use Rattle.image.specs.writer.Written.{Places, Rows, Apart, wrote, and_rows, beyond, header_bytes, counts_for, places_for, tree_rows}
use Rattle.image.specs.writer.Laws.{wrote_append, concatenation_rows}
use Rattle.image.specs.writer.Whole.{image_written}

-- `ab(c)` with nine bits and `d` with none, and `e` in a concatenation of its own
abbrev one : List Node
one =
    record {
      forest = word (97 ∷ 98 ∷ []) (group kinds.parenthesis (word (99 ∷ []) end) end);
      bits = 1 ∷ 0 ∷ 1 ∷ 0 ∷ 0 ∷ 0 ∷ 0 ∷ 0 ∷ 1 ∷ [];
    }
    ∷ record { forest = word (100 ∷ []) end; bits = [] } ∷ []

abbrev two : List Node
two = record { forest = word (101 ∷ []) end; bits = 1 ∷ [] } ∷ []

abbrev small : Tree
small = one ∷ two ∷ []

-- 40 bytes of header, 2 concatenations, 3 components, 6 records, 7 bytes of text, 3 of literals
small_size : length (image_of small) ≡ 154
unfolding computed
small_size = refl

-- an area with room for six bytes more
abbrev area : List ℕ
area = replicate 160 255

small_room : length (image_of small) ≤ length area
small_room = rw (small_size, length-replicate) (omega arith)

abbrev places : Places
places = places_for (counts_for small)

abbrev written : List ℕ
written = wrote (sets area 0 (header_bytes (counts_for small))) places (tree_rows 0 small)

-- by the law, and by computing
small_written : written ≡ image_of small ++ drop (length (image_of small)) area
small_written = image_written small area small_room

small_computed : written ≡ image_of small ++ replicate 6 255
unfolding computed
small_computed = refl

-- ---- the second concatenation behind the first, whose texts are six bytes

abbrev first : Rows
first = concatenation_rows 0 one

abbrev second : Rows
second = tree_rows 6 (two ∷ [])

small_apart : Apart places (and_rows first second)
unfolding computed
small_apart = record { concatenations = omega arith; components = omega arith; records = omega arith; text = omega arith }

small_behind : wrote (wrote area places first) (beyond places first) second ≡ wrote area places (and_rows first second)
small_behind = wrote_append area places first second small_apart

small_rows : and_rows first second ≡ tree_rows 0 small
unfolding computed
small_rows = refl
