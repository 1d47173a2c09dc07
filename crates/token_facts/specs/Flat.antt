-- A stream as a flat list of tokens, and what a walk over such a list finds, token by token: what the code's loops are held to. The
-- theorems of this crate say that it is what the definition says of the stream.
use Rattle.std.specs.Prelude.{◌+◌, ◌*◌, ◌-◌, ◌/◌, ◌%◌, ◌&&◌, ◌||◌, ◌∷◌, ◌++◌, if◌then◌else◌}
use Rattle.definition.specs.Prelude.{ℕ, zero, suc, max, Bool, true, false, not, List, [], length, leb, eqb}
use Rattle.definition.specs.Characters.{char}
use Rattle.definition.specs.Image.{Rec, kinds, opens, delimiter}
use Rattle.definition.specs.TokenStream.{Leaf, ident, punct, literal, leaf_text, is_ident, is_punct, Stream, done, leaf, delimited}
use Rattle.definition.specs.Tokens.{Token, single, opener, closer}

-- ---- streams

-- the flat list of a stream
unfoldable pub flat_tokens : Stream → List Token
flat_tokens done = []
flat_tokens (leaf a rest) = single a ∷ flat_tokens rest
flat_tokens (delimited k inside rest) = opener k ∷ (flat_tokens inside ++ closer ∷ flat_tokens rest)

-- texts are not empty, punctuation is of one byte, and groups of the four kinds
abbrev pub sound_leaf : Leaf → Bool
sound_leaf (ident s) = leb 1 (length s)
sound_leaf (punct s) = eqb (length s) 1
sound_leaf (literal s) = leb 1 (length s)

unfoldable pub sound_stream : Stream → Bool
sound_stream done = true
sound_stream (leaf a rest) = sound_leaf a && sound_stream rest
sound_stream (delimited k inside rest) = opens k && sound_stream inside && sound_stream rest

abbrev pub divides : Leaf → Bool
divides a = is_punct char.comma a || is_punct char.semicolon a

-- no divider at the top level: what one component is made of
unfoldable pub undivided : Stream → Bool
undivided done = true
undivided (leaf a rest) = not (divides a) && undivided rest
undivided (delimited k inside rest) = undivided rest

abbrev pub is_component : Stream → Bool
is_component c = sound_stream c && undivided c

abbrev pub comma : Token
comma = single (punct (char.comma ∷ []))

abbrev pub semicolon : Token
semicolon = single (punct (char.semicolon ∷ []))

-- lists with a token between each two
unfoldable pub between : Token → List (List Token) → List Token
between t [] = []
between t (l ∷ []) = l
between t (l ∷ m ∷ rest) = l ++ t ∷ between t (m ∷ rest)

-- ---- a walk

-- how many groups are open after a token, d being open before it
abbrev pub after : ℕ → Token → ℕ
after d (single a) = d
after d (opener k) = suc d
after d closer = d - 1

abbrev pub starts_ident : List Token → Bool
starts_ident [] = false
starts_ident (single a ∷ ts) = is_ident a
starts_ident (opener k ∷ ts) = false
starts_ident (closer ∷ ts) = false

-- an identifier that another follows: its record goes on
abbrev pub joins : Leaf → List Token → Bool
joins a ts = is_ident a && starts_ident ts

-- records up to the closer of the group that d others are open in
unfoldable pub inner : ℕ → List Token → ℕ
inner d [] = 0
inner d (single a ∷ ts) = (if joins a ts then 0 else 1) + inner d ts
inner d (opener k ∷ ts) = 1 + inner (suc d) ts
inner zero (closer ∷ ts) = 0
inner (suc d) (closer ∷ ts) = 1 + inner d ts

-- the kinds of the open groups as one number, the innermost lowest: after an opener of kind k; the innermost; after its closer
abbrev pub pushed : ℕ → ℕ → ℕ
pushed o k = o * 4 + (k - 1)

abbrev pub innermost : ℕ → ℕ
innermost o = o % 4 + 1

abbrev pub popped : ℕ → ℕ
popped o = o / 4

abbrev pub rec_of : ℕ → List ℕ → ℕ → Rec
rec_of k s skip = record { kind = k; text = s; skip = skip }

-- the records of a component, or of what is left of it: p is the text of the record that was begun
unfoldable pub emit : ℕ → List ℕ → List Token → List Rec
emit o p [] = []
emit o p (single a ∷ ts) =
    let more = emit o (p ++ leaf_text a ++ char.space ∷ []) ts in
    let rest = emit o [] ts in
    if joins a ts then more else rec_of kinds.chars (p ++ leaf_text a) 1 ∷ rest
emit o p (opener k ∷ ts) = rec_of k ((delimiter k).opening ∷ []) (2 + inner 0 ts) ∷ emit (pushed o k) [] ts
emit o p (closer ∷ ts) = rec_of kinds.closer ((delimiter (innermost o)).closing ∷ []) 1 ∷ emit (popped o) [] ts

-- the deepest nesting, d groups being open
unfoldable pub deepest : ℕ → List Token → ℕ
deepest d [] = d
deepest d (t ∷ ts) = max d (deepest (after d t) ts)

-- a sum over the tokens, d groups being open: a token weighs by d, by itself and by what follows it
unfoldable pub weigh : (ℕ → Token → List Token → ℕ) → ℕ → List Token → ℕ
weigh f d [] = 0
weigh f d (t ∷ ts) = f d t ts + weigh f (after d t) ts

-- a divider that divides
abbrev pub divides_at : ℕ → Leaf → Bool
divides_at d a = eqb d 0 && divides a

abbrev pub semicolons : ℕ → Token → List Token → ℕ
semicolons d (single a) ts = if eqb d 0 && is_punct char.semicolon a then 1 else 0
semicolons d (opener k) ts = 0
semicolons d closer ts = 0

abbrev pub dividers : ℕ → Token → List Token → ℕ
dividers d (single a) ts = if divides_at d a then 1 else 0
dividers d (opener k) ts = 0
dividers d closer ts = 0

abbrev pub records : ℕ → Token → List Token → ℕ
records d (single a) ts = if divides_at d a then 0 else if joins a ts then 0 else 1
records d (opener k) ts = 1
records d closer ts = 1

abbrev pub bytes : ℕ → Token → List Token → ℕ
bytes d (single a) ts = if divides_at d a then 0 else length (leaf_text a) + (if joins a ts then 1 else 0)
bytes d (opener k) ts = 1
bytes d closer ts = 1

-- 51, token by token: b says whether the component has begun
unfoldable pub none_empty_in : ℕ → Bool → List Token → Bool
none_empty_in d b [] = b
none_empty_in d b (single a ∷ ts) =
    let next = none_empty_in d false ts in
    let same = none_empty_in d true ts in
    if divides_at d a then b && next else same
none_empty_in d b (opener k ∷ ts) = none_empty_in (suc d) true ts
none_empty_in d b (closer ∷ ts) = none_empty_in (d - 1) true ts

-- how many tokens stand before the semicolon that ends the concatenation
unfoldable pub to_semicolon : ℕ → List Token → ℕ
to_semicolon d [] = 0
to_semicolon d (single a ∷ ts) = let more = suc (to_semicolon d ts) in if eqb d 0 && is_punct char.semicolon a then 0 else more
to_semicolon d (opener k ∷ ts) = suc (to_semicolon (suc d) ts)
to_semicolon d (closer ∷ ts) = suc (to_semicolon (d - 1) ts)

-- the same backwards: of a list turned round, how many tokens stand before the comma that begins the component
unfoldable pub to_comma : ℕ → List Token → ℕ
to_comma d [] = 0
to_comma d (single a ∷ ts) = let more = suc (to_comma d ts) in if eqb d 0 && is_punct char.comma a then 0 else more
to_comma d (opener k ∷ ts) = suc (to_comma (d - 1) ts)
to_comma d (closer ∷ ts) = suc (to_comma (suc d) ts)
