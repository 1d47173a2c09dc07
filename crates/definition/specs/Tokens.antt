-- Document 02, L2: the layout editor's flat list of tokens with its text, and the image that is written from it.
use Rattle.std.specs.Prelude.{◌+◌, ◌*◌, ◌-◌, ◌/◌, ◌%◌, ◌&&◌, ◌||◌, ◌∷◌, if◌then◌else◌}
use Rattle.definition.specs.Prelude.{ℕ, zero, suc, Bool, true, false, not, List, [], length, leb, ltb, eqb}
use Rattle.definition.specs.Basics.{Result, ok, ◌>>=◌, area_after, all, tab, joined}
use Rattle.definition.specs.Limits.{limits}
use Rattle.definition.specs.Refusals.{token_number, bad_token, empty_component, over_limits, short_image_area, needs}
use Rattle.definition.specs.Image.{u32_at, bytes_at}
use Rattle.definition.specs.Tree.{Tree, all_recs, text_of, depth, image_of}
use Rattle.definition.specs.TokenStream.{Leaf, ident, punct, literal, Stream, done, leaf, delimited, divided, stream_tree}

-- "A token is 12 bytes: kind (0 identifier, 1 punctuation, 2 literal, 3 to 6 openers in document 01's order, 7 closer), text start, length"
abbrev pub kind_at : List ℕ → ℕ → ℕ
kind_at list k = u32_at list (12 * k)

abbrev pub text_start : List ℕ → ℕ → ℕ
text_start list k = u32_at list (12 * k + 4)

abbrev pub text_length : List ℕ → ℕ → ℕ
text_length list k = u32_at list (12 * k + 8)

-- a token: an identifier, punctuation or a literal; an opener, with document 01's kind of its group; a closer
pub data Token : Type 0 where
  single : Leaf → Token
  opener : ℕ → Token
  closer : Token

-- a token of this kind, its text being s; an opener's kind is document 01's of its group
abbrev pub token_of : ℕ → List ℕ → Token
token_of kind s =
    if eqb kind 0 then single (ident s)
    else if eqb kind 1 then single (punct s)
    else if eqb kind 2 then single (literal s)
    else if eqb kind 7 then closer
    else opener (kind - 2)

-- "groups' texts are not looked at"
abbrev pub text_at : List ℕ → List ℕ → ℕ → List ℕ
text_at list text k = bytes_at text (text_start list k) (if ltb 2 (kind_at list k) then 0 else text_length list k)

abbrev pub token_at : List ℕ → List ℕ → ℕ → Token
token_at list text k = token_of (kind_at list k) (text_at list text k)

abbrev pub count : List ℕ → ℕ
count list = length list / 12

abbrev pub tokens : List ℕ → List ℕ → List Token
tokens list text = tab (token_at list text) 0 (count list)

-- 50 of one token: "unknown token .. an empty text, one outside the lent text, or punctuation not of one byte"
abbrev pub token_right : List ℕ → List ℕ → ℕ → Bool
token_right list text k =
    let kind = kind_at list k in
    let n = text_length list k in
    leb kind 7 && (ltb 2 kind || (leb 1 n && leb (text_start list k + n) (length text) && (not (eqb kind 1) || eqb n 1)))

-- "ill-nested": d groups are open. A closer closes the innermost, whatever its kind.
unfoldable pub nested : ℕ → List Token → Bool
nested d [] = eqb d 0
nested d (single a ∷ ts) = nested d ts
nested d (opener k ∷ ts) = nested (suc d) ts
nested zero (closer ∷ ts) = false
nested (suc d) (closer ∷ ts) = nested d ts

-- 50: "ill-nested or unknown token, a list not in twelves, an empty text, one outside the lent text, or punctuation not of one byte"
abbrev pub tokens_right : List ℕ → List ℕ → Bool
tokens_right list text =
    eqb (length list % 12) 0 && all (token_right list text) (tab (λ k. k) 0 (count list)) && nested 0 (tokens list text)

-- The streams that a list holds: the first up to the closer of the group that it stands in, the next after that closer, and so on
-- outwards. Of a list that is not ill-nested there is one.
abbrev pub onto : Token → List Stream → List Stream
onto (single a) [] = []
onto (single a) (s ∷ ss) = leaf a s ∷ ss
onto (opener k) [] = []
onto (opener k) (s ∷ []) = s ∷ []
onto (opener k) (inside ∷ rest ∷ ss) = delimited k inside rest ∷ ss
onto closer ss = done ∷ ss

unfoldable pub streams : List Token → List Stream
streams [] = done ∷ []
streams (t ∷ ts) = onto t (streams ts)

abbrev pub first_stream : List Stream → Stream
first_stream [] = done
first_stream (s ∷ ss) = s

abbrev pub stream_of : List ℕ → List ℕ → Stream
stream_of list text = first_stream (streams (tokens list text))

-- 51: "every empty component is refused, a trailing one and that of an empty list too"
abbrev pub is_done : Stream → Bool
is_done done = true
is_done (leaf a rest) = false
is_done (delimited k inside rest) = false

abbrev pub none_empty : Stream → Bool
none_empty s = all (all (λ c. not (is_done c))) (divided s)

-- 52: "over a count or the nesting of document 01"
abbrev pub within_limits : Tree → Bool
within_limits t =
    let ns = joined t in
    leb (length t) limits.concatenations && leb (length ns) limits.components && leb (length (all_recs ns)) limits.records
    && leb (length (text_of (all_recs ns))) limits.text && all (λ n. leb (depth n.forest) limits.depth) ns

-- "in this order, places 0, 0": the image's bytes, or a refusal; an area of so many bytes is lent
unfoldable pub token_image : List ℕ → List ℕ → ℕ → Result (List ℕ)
token_image list text area = do
  let s = stream_of list text
  _ ← needs (tokens_right list text) (token_number bad_token)
  _ ← needs (none_empty s) (token_number empty_component)
  _ ← needs (within_limits (stream_tree s)) (token_number over_limits)
  _ ← needs (leb (length (image_of (stream_tree s))) area) (token_number short_image_area)
  ok (image_of (stream_tree s))

-- what a call on a lent area comes to: the image's length or a refusal, and the area afterwards. "a written image stands from the area's
-- first byte, the bytes beyond untouched"; "the area as lent"
abbrev pub tokens_on : List ℕ → List ℕ → List ℕ → Result ℕ × List ℕ
tokens_on list text area =
    let r = token_image list text (length area) in
    ((r >>= λ image. ok (length image)), area_after area r)
