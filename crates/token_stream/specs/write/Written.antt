-- What is written of components, of a concatenation, of all of them, and the whole image.
use Rattle.std.specs.Prelude.{◌≡◌, ◌≤◌, ◌<◌, ◌+◌, ◌*◌, ◌-◌, ◌^◌, ◌∷◌, ◌++◌}
use Rattle.std.proofs.Math.Seq.{slice}
use Rattle.definition.specs.Prelude.{ℕ, true, List, [], map, length, drop, leb}
use Rattle.definition.specs.Basics.{all, joined}
use Rattle.definition.specs.Limits.{limits}
use Rattle.definition.specs.Tree.{Node, Tree, all_recs, text_of, depth, image_of}
use Rattle.definition.specs.TokenStream.{Stream, forest_of, turned, stream_tree}
use Rattle.definition.specs.Tokens.{tokens, count, tokens_right, stream_of, within_limits}
use Rattle.image.specs.token_tree.Tables.{counts_of}
use Rattle.image.specs.declared.token_tree.Counts.{Counts}
use Rattle.image.specs.writer.Written.{Places, wrote, node_rows, tree_rows, counts_for}
use Rattle.token_facts.specs.Flat.{flat_tokens, is_component, comma, semicolon, between}
use Rattle.token_stream.specs.declared.write.component.Pen.{Pen}

-- the components of a concatenation as the image has them
abbrev pub nodes_of : List Stream → List Node
nodes_of cs = turned (map forest_of cs)

-- where rows go; concatenations' own from `at` on, and no literals
abbrev pub places_at : ℕ → ℕ → Pen → Places
places_at at base pen =
    record { concatenations = at; components = pen.components; records = pen.records; text = pen.text; literals = base + limits.text }

-- the tables have room for these components
pub record Room (base : ℕ) (pen : Pen) (ns : List Node) : Type 0 where
  pub low : base < 2 ^ 32
  pub components : pen.components + 8 * length ns ≤ pen.records
  pub records : pen.records + 12 * length (all_recs ns) ≤ base
  pub begun : base ≤ pen.text
  pub text : pen.text + length (text_of (all_recs ns)) ≤ base + limits.text
  pub nests : all (λ n. leb (depth n.forest) limits.depth) ns ≡ true

-- where the next rows go then
pub record PenAfter (pen : Pen) (ns : List Node) (r : Pen) : Type 0 where
  pub components : r.components ≡ pen.components + 8 * length ns
  pub records : r.records ≡ pen.records + 12 * length (all_recs ns)
  pub text : r.text ≡ pen.text + length (text_of (all_recs ns))

-- these components are written
pub record NodesWritten (base : ℕ) (pen : Pen) (ns : List Node) (area area' : List ℕ) (r : Pen) : Type 0 where
  pub area_is : area' ≡ wrote area (places_at 0 base pen) (node_rows (pen.text - base) ns)
  pub pen_is : PenAfter pen ns r

-- what every list that was admitted is
pub record Listed (list text : List ℕ) : Type 0 where
  pub right : tokens_right list text ≡ true
  pub few : count list < 2 ^ 31

-- tokens s to e are component c
pub record Component (list text : List ℕ) (base s e : ℕ) (pen : Pen) (c : Stream) : Type 0 where
  pub listed : Listed list text
  pub order : s ≤ e
  pub stops : e ≤ count list
  pub same : slice s e (tokens list text) ≡ flat_tokens c
  pub sound : is_component c ≡ true
  pub room : Room base pen (nodes_of (c ∷ []))

-- tokens a to b are the components cs, with commas between them
pub record Concatenation (list text : List ℕ) (base a b : ℕ) (pen : Pen) (cs : List Stream) : Type 0 where
  pub listed : Listed list text
  pub order : a ≤ b
  pub stops : b ≤ count list
  pub same : slice a b (tokens list text) ≡ between comma (map flat_tokens cs)
  pub sound : all is_component cs ≡ true
  pub some : 1 ≤ length cs
  pub room : Room base pen (nodes_of cs)

-- the tokens from a on are the concatenations cc, with semicolons between them
pub record Concatenations (list text : List ℕ) (base at a : ℕ) (pen : Pen) (cc : List (List Stream)) : Type 0 where
  pub listed : Listed list text
  pub order : a ≤ count list
  pub same : drop a (tokens list text) ≡ between semicolon (map (λ (c : List Stream). between comma (map flat_tokens c)) cc)
  pub sound : all (all is_component) cc ≡ true
  pub some : all (λ (c : List Stream). leb 1 (length c)) cc ≡ true
  pub one : 1 ≤ length cc
  pub rows : at + 4 * length cc ≤ pen.components
  pub room : Room base pen (joined (map nodes_of cc))

abbrev pub TreeWritten : ℕ → ℕ → Pen → List (List Stream) → List ℕ → List ℕ → Type 0
TreeWritten base at pen cc area area' = area' ≡ wrote area (places_at at base pen) (tree_rows (pen.text - base) (map nodes_of cc))

-- ---- the whole image

abbrev pub tree_for : List ℕ → List ℕ → Tree
tree_for list text = stream_tree (stream_of list text)

-- the list was admitted, with these counts and so long an area
pub record Fitting (list text : List ℕ) (size : ℕ) (h : Counts) : Type 0 where
  pub right : tokens_right list text ≡ true
  pub within : within_limits (tree_for list text) ≡ true
  pub counts : counts_of h ≡ counts_for (tree_for list text)
  pub fits : length (image_of (tree_for list text)) ≤ size

pub record ImageIs (list text area area' : List ℕ) (r : ℕ) : Type 0 where
  pub length_is : r ≡ length (image_of (tree_for list text))
  pub area_is : area' ≡ image_of (tree_for list text) ++ drop (length (image_of (tree_for list text))) area
