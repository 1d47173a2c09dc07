-- Document 01, the listing of an outcome, and what the program makes of its whole standard input.
use Rattle.std.specs.Prelude.{◌+◌, ◌-◌, ◌/◌, ◌%◌, ◌&&◌, ◌∷◌, ◌++◌, if◌then◌else◌}
use Rattle.definition.specs.Prelude.{ℕ, zero, suc, Bool, true, false, not, Option, none, some, List, [], map, reverse, length, take, drop, ltb, eqb, ℤ, pos, negsuc}
use Rattle.definition.specs.Basics.{Result, ok, refused, within, joined, ascii}
use Rattle.definition.specs.Characters.{char}
use Rattle.definition.specs.Limits.{area_needed, limits, max_input}
use Rattle.definition.specs.Refusals.{refuse, short_image}
use Rattle.definition.specs.Answer.{Read, Concat, Field, Bound, is_set, read_answer}
use Rattle.definition.specs.Run.{under, run}

-- a number's decimal digits, at most as many as 128 bits need
unfoldable pub decimal_onto : ℕ → ℕ → List ℕ → List ℕ
decimal_onto zero n s = s
decimal_onto (suc d) n s = elim (ltb n 10) [ true ↦ (char.zero + n) ∷ s | false ↦ decimal_onto d (n / 10) ((char.zero + n % 10) ∷ s) ]

abbrev pub decimal : ℕ → List ℕ
decimal n = decimal_onto 39 n []

-- "hex is lower case"
abbrev pub hex_digit : ℕ → ℕ
hex_digit d = if ltb d 10 then char.zero + d else char.lower_a + (d - 10)

abbrev pub hex : ℕ → List ℕ
hex b = hex_digit (b / 16) ∷ hex_digit (b % 16) ∷ []

-- "Text bytes outside 33 to 126 and `\` print as `\` and two hex digits."
abbrev pub shown_byte : ℕ → List ℕ
shown_byte b = if within 33 126 b && not (eqb b char.backslash) then b ∷ [] else char.backslash ∷ hex b

abbrev pub shown : List ℕ → List ℕ
shown s = joined (map shown_byte s)

-- "One space parts the fields, a newline ends each line"
unfoldable pub line : List (List ℕ) → List ℕ
line [] = char.newline ∷ []
line (w ∷ []) = w ++ (char.newline ∷ [])
line (w ∷ v ∷ ws) = w ++ char.space ∷ line (v ∷ ws)

-- "start and end as text then signed x, no end `-`"
abbrev pub signed : ℤ → List ℕ
signed (pos n) = char.plus ∷ decimal n
signed (negsuc n) = char.minus ∷ decimal (suc n)

abbrev pub bound_word : Bound → List ℕ
bound_word b = shown b.text ++ signed b.x

abbrev pub end_word : Option Bound → List ℕ
end_word none = ascii "-"
end_word (some b) = bound_word b

-- "width or `-`"; "D deterministic or `-`, Z nonzero or `-`"; "alignment (none, single, lsb, msb, mid, multiple)"
abbrev pub width_word : ℕ → List ℕ
width_word w = if eqb w 0 then ascii "-" else decimal w

abbrev pub flag_word : Bool → List ℕ → List ℕ
flag_word b w = if b then w else ascii "-"

abbrev pub align_word : ℕ → List ℕ
align_word a =
    if eqb a 0 then ascii "none"
    else if eqb a 1 then ascii "single"
    else if eqb a 2 then ascii "lsb"
    else if eqb a 3 then ascii "msb" else if eqb a 4 then ascii "mid" else ascii "multiple"

abbrev pub summary_words : ℕ → ℕ → ℕ → List (List ℕ)
summary_words width align flags =
    width_word width ∷ align_word align ∷ flag_word (is_set flags 1) (ascii "D") ∷ flag_word (is_set flags 2) (ascii "Z") ∷ []

-- "Component: kind, start and end ..; then hex, highest byte first, or text; a filler has nothing more."
abbrev pub field_line : Field → List ℕ
field_line f =
    let bounds = bound_word f.start ∷ end_word f.«end» ∷ [] in
    if eqb f.kind 1 then line (ascii "literal" ∷ (bounds ++ (joined (map hex (reverse f.literal)) ∷ [])))
    else if eqb f.kind 2 then line (ascii "variable" ∷ (bounds ++ (shown f.text ∷ []))) else line (ascii "filler" ∷ bounds)

-- "`c`: index, components, static width or `-`, alignment, D, Z."
unfoldable pub concat_lines : ℕ → List Concat → List Field → List ℕ
concat_lines i [] fs = []
concat_lines i (g ∷ gs) fs =
    line (ascii "c" ∷ decimal i ∷ decimal g.size ∷ summary_words g.width g.align g.flags)
    ++ joined (map field_line (take g.size fs)) ++ concat_lines (suc i) gs (drop g.size fs)

-- "Line 1: concatenations, merged components, common width or `-`, alignment, D, Z, starting value as `=` and text, or `-`."
abbrev pub answer_lines : Read → List ℕ
answer_lines r =
    line (ascii "layout" ∷ decimal (length r.concats) ∷ decimal r.size
    ∷ (summary_words r.width r.align r.flags ++ (flag_word (is_set r.flags 4) (char.equals ∷ shown r.init) ∷ [])))
    ++ concat_lines 0 r.concats r.fields

-- the listing of an outcome; "A refusal prints `refused`, number, two places."
unfoldable pub listing : List ℕ → Result (List ℕ) → List ℕ
listing image (ok bytes) = answer_lines (read_answer image bytes)
listing image (refused q) = line (ascii "refused" ∷ decimal q.number ∷ decimal q.concatenation ∷ decimal q.component ∷ [])

-- "A program reads standard input, one mode byte then an image, and prints the answer. Empty input is number 2"; its area is long
-- enough for any image
abbrev pub program_area : ℕ
program_area = area_needed limits.concatenations limits.components limits.literal_bytes

unfoldable pub output : List ℕ → List ℕ
output [] = listing [] (refuse short_image)
output (mode ∷ rest) = let image = take (max_input - 1) rest in listing image (run image (under mode) program_area)
