-- More closed examples that meet every premise of the cutting claim, with the claim computed on each.
use Rattle.std.specs.Prelude.{◌≡◌, refl, ◌∷◌}
use Rattle.definition.specs.Prelude.{[]}
use Rattle.definition.specs.Basics.{ascii}
use Rattle.definition.specs.Image.{kinds}
use Rattle.definition.specs.Tree.{end, word, group}
use Rattle.definition.specs.Readings.{tokens, parenthesised}
use Rattle.definition.specs.Run.{under, with_default}
use Rattle.cutting.specs.Statement.{Given, ◌⊕◌}
use Rattle.cutting.specs.Witnesses.{found, claimed, example_in, example, byte, plain, sink, opened}

-- the worked example with its 8 bits as one literal, cut into three: `[..3]`, `[3..=4]` and `[5..]`
unfoldable pub three : Given
three =
    example [] [] (byte (tokens ("165u8" ∷ []))) [] (sink ∷ []) 0 8 3 (5 ∷ [])
    (tokens ("." ∷ "." ∷ "3" ∷ []) ∷ tokens ("3" ∷ "." ∷ "." ∷ "=" ∷ "4" ∷ []) ∷ tokens ("5" ∷ "." ∷ "." ∷ []) ∷ [])

-- `.., 165u8[1..7], a`: between a variable and an unbounded filler; `[1..(2+3)]`, `[5]` and `[6..7]`
unfoldable pub between : Given
between =
    example [] (plain (tokens ("a" ∷ [])) ∷ []) (byte (word (ascii "165u8") (group kinds.bracket (tokens ("1" ∷ "." ∷ "." ∷ "7" ∷ [])) end)))
    (plain (tokens ("." ∷ "." ∷ [])) ∷ []) ((plain (word (ascii "b") (group kinds.bracket (tokens ("." ∷ "." ∷ "64" ∷ [])) end)) ∷ []) ∷ []) 1 7 5 (6 ∷ [])
    ((tokens ("1" ∷ "." ∷ "." ∷ []) ⊕ parenthesised ("2" ∷ "+" ∷ "3" ∷ [])) ∷ tokens ("5" ∷ []) ∷ tokens ("6" ∷ "." ∷ "." ∷ "7" ∷ []) ∷ [])

-- mode 1, `zero:165u8, ..`: a filler in the source, with a starting value
unfoldable pub returned : Given
returned =
    example_in (under 1) [] (plain (tokens ("." ∷ "." ∷ [])) ∷ []) (byte (tokens ("zero" ∷ ":" ∷ "165u8" ∷ []))) []
    ((plain (word (ascii "b") (group kinds.bracket (tokens ("." ∷ "." ∷ "64" ∷ [])) end)) ∷ []) ∷ []) 0 8 4 []
    (tokens ("." ∷ "." ∷ "4" ∷ []) ∷ tokens ("4" ∷ "." ∷ "." ∷ []) ∷ [])

-- mode 1, `165u8, ..` under the default `umax`: without it both runs refuse with 40
unfoldable pub defaulted : Given
defaulted =
    example_in (with_default 1 (ascii "umax")) [] (plain (tokens ("." ∷ "." ∷ [])) ∷ []) (byte (tokens ("165u8" ∷ []))) []
    ((plain (word (ascii "b") (group kinds.bracket (tokens ("." ∷ "." ∷ "64" ∷ [])) end)) ∷ []) ∷ []) 0 8 4 []
    (tokens ("." ∷ "." ∷ "4" ∷ []) ∷ tokens ("4" ∷ "." ∷ "." ∷ []) ∷ [])

-- mode 2: the worked example's width is known
unfoldable pub static : Given
static =
    example_in (under 2) [] [] (byte (tokens ("165u8" ∷ []))) [] (sink ∷ []) 0 8 4 []
    (tokens ("." ∷ "." ∷ "4" ∷ []) ∷ tokens ("4" ∷ "." ∷ "." ∷ []) ∷ [])

pub three_right : found three ≡ claimed three
unfolding opened three
three_right = refl

pub between_right : found between ≡ claimed between
unfolding opened between
between_right = refl

pub returned_right : found returned ≡ claimed returned
unfolding opened returned
returned_right = refl

pub defaulted_right : found defaulted ≡ claimed defaulted
unfolding opened defaulted
defaulted_right = refl

pub static_right : found static ≡ claimed static
unfolding opened static
static_right = refl
