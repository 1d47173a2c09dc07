-- A Rust token stream, and the tree that token_stream_to_ast (src/token_stream.rs) makes of it.
use Rattle.std.specs.Prelude.{◌&&◌, ◌∷◌, ◌++◌, if◌then◌else◌}
use Rattle.definition.specs.Prelude.{ℕ, Bool, true, false, List, [], map, reverse, get_or, eqb}
use Rattle.definition.specs.Characters.{char}
use Rattle.definition.specs.Tree.{Forest, end, word, group, Node, Tree}

-- proc_macro2's Ident, Punct and Literal, each with its text
pub data Leaf : Type 0 where
  ident : List ℕ → Leaf
  punct : List ℕ → Leaf
  literal : List ℕ → Leaf

-- proc_macro2's TokenStream, its first token first. A group has document 01's kind of its delimiter ("a group without delimiters becomes
-- a Space group", kind 1), and what stands inside.
pub data Stream : Type 0 where
  done : Stream
  leaf : Leaf → Stream → Stream
  delimited : ℕ → Stream → Stream → Stream

abbrev pub leaf_text : Leaf → List ℕ
leaf_text (ident s) = s
leaf_text (punct s) = s
leaf_text (literal s) = s

abbrev pub is_ident : Leaf → Bool
is_ident (ident s) = true
is_ident (punct s) = false
is_ident (literal s) = false

-- punctuation of this character
abbrev pub is_punct : ℕ → Leaf → Bool
is_punct b (ident s) = false
is_punct b (punct s) = eqb (get_or s 0 0) b
is_punct b (literal s) = false

abbrev pub begins_ident : Stream → Bool
begins_ident done = false
begins_ident (leaf a rest) = is_ident a
begins_ident (delimited k inside rest) = false

-- a text goes before that of the first record
abbrev pub before : List ℕ → Forest → Forest
before s end = end
before s (word w f) = word (s ++ w) f
before s (group k inside f) = group k inside f

-- TokenTree::Ident: "a run of identifiers becomes one text joined by spaces"; Punct and Literal: a text of its own; Group: the same inside
unfoldable pub forest_of : Stream → Forest
forest_of done = end
forest_of (leaf a rest) =
    let f = forest_of rest in
    if is_ident a && begins_ident rest then before (leaf_text a ++ char.space ∷ []) f else word (leaf_text a) f
forest_of (delimited k inside rest) = group k (forest_of inside) (forest_of rest)

-- onto the first component of the first concatenation
abbrev pub on_first : (Stream → Stream) → List (List Stream) → List (List Stream)
on_first f [] = []
on_first f ([] ∷ cs) = [] ∷ cs
on_first f ((c ∷ rest) ∷ cs) = (f c ∷ rest) ∷ cs

-- an empty component before the others of the first concatenation
abbrev pub new_component : List (List Stream) → List (List Stream)
new_component [] = []
new_component (c ∷ cs) = (done ∷ c) ∷ cs

-- "top-level commas and semicolons divide components and concatenations": what stands in a group, also one without delimiters, does not.
-- At the end the last component and concatenation are closed too, so there is always one of each, which may be empty.
unfoldable pub divided : Stream → List (List Stream)
divided done = (done ∷ []) ∷ []
divided (leaf a rest) =
    let d = divided rest in
    if is_punct char.comma a then new_component d else if is_punct char.semicolon a then (done ∷ []) ∷ d else on_first (leaf a) d
divided (delimited k inside rest) = on_first (delimited k inside) (divided rest)

-- token_stream_to_ast: concatenations of components as they are written, the most significant first
abbrev pub ast : Stream → List (List Forest)
ast s = map (map forest_of) (divided s)

-- "An added step turns each concatenation least significant first"; "literal widths 0"
abbrev pub turned : List Forest → List Node
turned c = map (λ (f : Forest). record { forest = f; bits = [] }) (reverse c)

abbrev pub stream_tree : Stream → Tree
stream_tree s = map turned (ast s)
