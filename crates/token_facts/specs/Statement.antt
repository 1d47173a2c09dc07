-- What is claimed of tokens (document 02, L2).
use Rattle.std.specs.Prelude.{◌≡◌, ◌≤◌, ◌<◌, ◌+◌, ◌%◌, ◌∷◌, ◌++◌}
use Rattle.definition.specs.Prelude.{ℕ, true, false, List, [], map, reverse, length, leb}
use Rattle.definition.specs.Basics.{ok, all, joined}
use Rattle.definition.specs.Limits.{limits}
use Rattle.definition.specs.Image.{tree_of}
use Rattle.definition.specs.Check.{check_image}
use Rattle.definition.specs.Tree.{flat, text_of, all_recs, depth}
use Rattle.definition.specs.TokenStream.{Stream, forest_of, divided, ast, turned, stream_tree}
use Rattle.definition.specs.Tokens.{Token, kind_at, text_start, text_length, count, tokens, tokens_right, stream_of, none_empty, token_image}
use Rattle.prepared.specs.Statement.{Bytes, placed_tree}
use Rattle.token_facts.specs.Flat.{flat_tokens, sound_stream, is_component, comma, semicolon, between, emit, deepest, weigh, semicolons, dividers, records, bytes, none_empty_in, to_semicolon, to_comma}

-- ---- the promises of L2

-- "The written image .. passes the image check", and the tree that it holds is that of the list's stream
abbrev pub TokensPrepared : Type 0
TokensPrepared = (list text : List ℕ) (area : ℕ) (image : List ℕ) → Bytes text → token_image list text area ≡ ok image
    → (check_image image ≡ ok tt) × (tree_of image ≡ placed_tree (stream_tree (stream_of list text)))

-- "a list that is a Rust token stream": its tokens are those of a stream, and their texts lie within the lent text
pub record IsStream (list text : List ℕ) (s : Stream) : Type 0 where
  pub whole : length list % 12 ≡ 0
  pub same : tokens list text ≡ flat_tokens s
  pub inside : (k : ℕ) → k < count list → kind_at list k ≤ 2 → text_start list k + text_length list k ≤ length text

-- such a list is not refused with 50, and it is read as that stream
abbrev pub TokensRead : Type 0
TokensRead = (list text : List ℕ) (s : Stream) → sound_stream s ≡ true → IsStream list text s
    → (tokens_right list text ≡ true) × (stream_of list text ≡ s)

-- "the tree it holds is, for a list that is a Rust token stream, the one the Rust's `token_stream_to_ast` builds, with components reversed"
abbrev pub TokensRust : Type 0
TokensRust = (list text : List ℕ) (area : ℕ) (image : List ℕ) (s : Stream) → Bytes text → sound_stream s ≡ true → IsStream list text s
    → token_image list text area ≡ ok image → tree_of image ≡ placed_tree (map turned (ast s))

-- and every list that is not refused with 50 is such a list
abbrev pub EveryList : Type 0
EveryList = (list text : List ℕ) → tokens_right list text ≡ true
    → (sound_stream (stream_of list text) ≡ true) × IsStream list text (stream_of list text)

-- ---- what a walk over the tokens finds

-- the records of a component
abbrev pub EmitFlat : Type 0
EmitFlat = (s : Stream) → sound_stream s ≡ true → emit 0 [] (flat_tokens s) ≡ flat (forest_of s)

-- 51
abbrev pub EmptyFlat : Type 0
EmptyFlat = (s : Stream) → none_empty_in 0 false (flat_tokens s) ≡ none_empty s

-- 52
pub record Totals (s : Stream) : Type 0 where
  pub concatenations : 1 + weigh semicolons 0 (flat_tokens s) ≡ length (stream_tree s)
  pub components : 1 + weigh dividers 0 (flat_tokens s) ≡ length (joined (stream_tree s))
  pub records_are : weigh records 0 (flat_tokens s) ≡ length (all_recs (joined (stream_tree s)))
  pub bytes_are : weigh bytes 0 (flat_tokens s) ≡ length (text_of (all_recs (joined (stream_tree s))))
  pub depths : leb (deepest 0 (flat_tokens s)) limits.depth ≡ all (λ n. leb (depth n.forest) limits.depth) (joined (stream_tree s))

abbrev pub TotalsFlat : Type 0
TotalsFlat = (s : Stream) → sound_stream s ≡ true → Totals s

-- every token weighs something, or divides
abbrev pub FewTokens : Type 0
FewTokens = (s : Stream) → sound_stream s ≡ true → length (flat_tokens s) ≤ weigh bytes 0 (flat_tokens s) + weigh dividers 0 (flat_tokens s)

-- the list is that of its concatenations, with semicolons between them, and each that of its components, with commas between them
pub record Parted (s : Stream) : Type 0 where
  pub list_is : flat_tokens s ≡ between semicolon (map (λ (c : List Stream). between comma (map flat_tokens c)) (divided s))
  pub parts : all (all is_component) (divided s) ≡ true
  pub some : all (λ (c : List Stream). leb 1 (length c)) (divided s) ≡ true
  pub one : 1 ≤ length (divided s)

abbrev pub PartedFlat : Type 0
PartedFlat = (s : Stream) → sound_stream s ≡ true → Parted s

-- what may follow a concatenation: the end, or a semicolon
pub data Ends : List Token → Type 0 where
  at_end : Ends []
  at_semicolon : (l : List Token) → Ends (semicolon ∷ l)

-- the end of a concatenation is found
abbrev pub ToSemicolon : Type 0
ToSemicolon = (cs : List Stream) (l : List Token) → all is_component cs ≡ true → Ends l
    → to_semicolon 0 (between comma (map flat_tokens cs) ++ l) ≡ length (between comma (map flat_tokens cs))

-- the start of a component is found from its end: nothing, or a comma, stands before it
pub data Starts : List Token → Type 0 where
  at_start : Starts []
  at_comma : (l : List Token) → Starts (comma ∷ l)

abbrev pub ToComma : Type 0
ToComma = (c : Stream) (l : List Token) → is_component c ≡ true → Starts l
    → to_comma 0 (reverse (flat_tokens c) ++ l) ≡ length (flat_tokens c)
