-- A list of tokens that meets the premises of tokens-read, every-list, right-fits, tokens-prepared and tokens-rust, and its stream those
-- of what a walk over its tokens finds; the theorems are applied to them.
use Rattle.std.specs.Prelude.{◌≡◌, refl, ◌∷◌, ◌++◌}
use Rattle.definition.specs.Prelude.{ℕ, true, List, [], map, reverse, length}
use Rattle.definition.specs.Basics.{ok, all, ascii}
use Rattle.definition.specs.Image.{kinds, tree_of}
use Rattle.definition.specs.Check.{check_image}
use Rattle.definition.specs.Tree.{u32, fits, image_of}
use Rattle.definition.specs.TokenStream.{ident, punct, literal, Stream, done, leaf, delimited, forest_of, divided, ast, turned, stream_tree}
use Rattle.definition.specs.Tokens.{closer, tokens_right, nested, streams, stream_of, none_empty, within_limits, token_image}
use Rattle.definition.specs.Compute.{computed}
use Rattle.prepared.specs.Statement.{Bytes, placed_tree}
use Rattle.token_facts.specs.Flat.{flat_tokens, sound_stream, undivided, is_component, comma, semicolon, between, to_semicolon, to_comma}
use Rattle.token_facts.specs.Statement.{IsStream, Totals, Parted, at_semicolon, at_comma}
use Rattle.token_facts.specs.Streams.{flat_streams, tokens_read, every_list}
use Rattle.token_facts.specs.Prepared.{right_fits, tokens_prepared, tokens_rust}
use Rattle.token_facts.specs.Totals.{totals_flat}
use Rattle.token_facts.specs.Dividing.{parted_flat, to_semicolon_lem, to_comma_lem}

abbrev t : ℕ → ℕ → ℕ → List ℕ
t k s l = u32 k ++ u32 s ++ u32 l

-- `a bc, «d, 12»; + ()`, « » being a group without delimiters, whose text is not looked at
text : List ℕ
unfolding ascii
text = ascii "a bc,d12;+"

list : List ℕ
list =
    t 0 0 1 ++ t 0 2 2 ++ t 1 4 1 ++ t 3 99 88 ++ t 0 5 1 ++ t 1 4 1 ++ t 2 6 2 ++ t 7 77 66 ++ t 1 8 1 ++ t 1 9 1 ++ t 4 0 0 ++ t 7 0 0

stream : Stream
unfolding ascii
stream =
    leaf (ident (ascii "a")) (leaf (ident (ascii "bc")) (leaf (punct (ascii ","))
    (delimited kinds.space (leaf (ident (ascii "d")) (leaf (punct (ascii ",")) (leaf (literal (ascii "12")) done)))
    (leaf (punct (ascii ";")) (leaf (punct (ascii "+")) (delimited kinds.parenthesis done done))))))

-- ---- the premises

bytes : Bytes text
unfolding text computed
bytes = refl

right : tokens_right list text ≡ true
unfolding list text computed nested
right = refl

reads : stream_of list text ≡ stream
unfolding list text stream computed streams
reads = refl

sound : sound_stream stream ≡ true
unfolding stream computed sound_stream
sound = refl

some : none_empty (stream_of list text) ≡ true
unfolding list text computed streams divided
some = refl

within_limits_lem : within_limits (stream_tree (stream_of list text)) ≡ true
unfolding list text computed streams divided forest_of
within_limits_lem = refl

-- an area of just the image's 193 bytes
written : token_image list text 193 ≡ ok (image_of (stream_tree stream))
unfolding list text stream computed nested streams divided forest_of token_image
written = refl

before_closer : streams (closer ∷ flat_tokens stream) ≡ done ∷ stream ∷ []
unfolding stream ascii flat_tokens streams
before_closer = refl

-- ---- what they give

is_stream : IsStream list text stream
is_stream = rw reads at (every_list list text right).1

read_as : (tokens_right list text ≡ true) × (stream_of list text ≡ stream)
read_as = tokens_read list text stream sound is_stream

fitting : fits (stream_tree (stream_of list text)) ≡ true
fitting = right_fits list text bytes right some within_limits_lem

passing : check_image (image_of (stream_tree stream)) ≡ ok tt
passing = (tokens_prepared list text 193 (image_of (stream_tree stream)) bytes written).0

rust : tree_of (image_of (stream_tree stream)) ≡ placed_tree (map turned (ast stream))
rust = tokens_rust list text 193 (image_of (stream_tree stream)) stream bytes sound is_stream written

two_streams : (s : Stream) → streams (flat_tokens s ++ closer ∷ flat_tokens stream) ≡ s ∷ stream ∷ []
two_streams s = flat_streams s (closer ∷ flat_tokens stream) (stream ∷ []) before_closer

-- ---- a walk over the tokens: `stream` is sound, and these are two components, the first with a comma in its group

counted : Totals stream
counted = totals_flat stream sound

parted : Parted stream
parted = parted_flat stream sound

abbrev grouped : Stream
grouped = delimited kinds.space (leaf (punct (44 ∷ [])) done) (leaf (ident (97 ∷ [])) done)

abbrev two : List Stream
two = grouped ∷ leaf (literal (49 ∷ [])) done ∷ []

two_components : all is_component two ≡ true
unfolding all sound_stream undivided
two_components = refl

-- six tokens stand before the semicolon, the comma one of them, and four, backwards, before the comma
ends_at : to_semicolon 0 (between comma (map flat_tokens two) ++ semicolon ∷ []) ≡ length (between comma (map flat_tokens two))
ends_at = to_semicolon_lem two (semicolon ∷ []) two_components (at_semicolon [])

ends_after_six : length (between comma (map flat_tokens two)) ≡ 6
unfolding between flat_tokens
ends_after_six = refl

grouped_component : is_component grouped ≡ true
unfolding sound_stream undivided
grouped_component = refl

begins_at : to_comma 0 (reverse (flat_tokens grouped) ++ comma ∷ []) ≡ length (flat_tokens grouped)
begins_at = to_comma_lem grouped (comma ∷ []) grouped_component (at_comma [])
