-- A line of the listing in the parts that the code writes: its first word, the other words with a space before each, a newline.
use Rattle.std.specs.Prelude.{◌≡◌, ◌∷◌, ◌++◌, ◌+◌, if◌then◌else◌}
use Rattle.laws.specs.Lists.{length_tab}
use Rattle.definition.specs.Prelude.{ℕ, Bool, true, false, List, [], map, reverse, eqb, Option, none, some}
use Rattle.definition.specs.Basics.{joined, tab, ascii}
use Rattle.definition.specs.Image.{u32_at, bytes_at, bytes_for}
use Rattle.listing.specs.words.Spaced.{spaced, line_parts}
use Rattle.definition.specs.Answer.{Field, Bound, width_at, text_at, bound_at, concat_at, field_at, read_answer, is_set}
use Rattle.definition.specs.Listing.{line, decimal, hex, shown, bound_word, end_word, summary_words, flag_word, field_line, concat_lines, answer_lines}

-- the end of the component at a place
abbrev pub end_at : List ℕ → List ℕ → ℕ → Option Bound
end_at image s at = if eqb (u32_at s (at + 20)) 0 then none else some (bound_at image s (at + 48))

-- a component's kind, and what it has after its bounds
abbrev pub kind_word : ℕ → List ℕ
kind_word kind = if eqb kind 1 then ascii "literal" else if eqb kind 2 then ascii "variable" else ascii "filler"

abbrev pub content_words : ℕ → List ℕ → List ℕ → List (List ℕ)
content_words kind literal text =
    if eqb kind 1 then joined (map hex (reverse literal)) ∷ [] else if eqb kind 2 then shown text ∷ [] else []

-- the same of the component at a place, the literal block beginning at `literals`
abbrev pub content_at : List ℕ → List ℕ → ℕ → ℕ → List (List ℕ)
content_at image s place literals =
    content_words (u32_at s place) (bytes_at s (literals + u32_at s (place + 16)) (bytes_for (u32_at s (place + 12)))) (text_at image s (place + 4))

pub field_parts : (f : Field) →
    field_line f ≡ kind_word f.kind ++ (spaced (bound_word f.start ∷ end_word f.«end» ∷ []) ++ (spaced (content_words f.kind f.literal f.text) ++ (10 ∷ [])))
field_parts f = go (eqb f.kind 1) (eqb f.kind 2)
  where
    bounds : List (List ℕ)
    bounds = bound_word f.start ∷ end_word f.«end» ∷ []

    go : (t u : Bool) →
        (if t then line (ascii "literal" ∷ (bounds ++ (joined (map hex (reverse f.literal)) ∷ [])))
        else if u then line (ascii "variable" ∷ (bounds ++ (shown f.text ∷ []))) else line (ascii "filler" ∷ bounds))
        ≡ (if t then ascii "literal" else if u then ascii "variable" else ascii "filler")
        ++ (spaced bounds ++ (spaced (if t then joined (map hex (reverse f.literal)) ∷ [] else if u then shown f.text ∷ [] else []) ++ (10 ∷ [])))
    go true u = line_parts (ascii "literal") bounds (joined (map hex (reverse f.literal)) ∷ [])
    go false true = line_parts (ascii "variable") bounds (shown f.text ∷ [])
    go false false = line_parts (ascii "filler") bounds []

-- ---- line 1

abbrev pub head_line : List ℕ → List ℕ → List ℕ
head_line image s =
    line (ascii "layout" ∷ decimal (u32_at s 0) ∷ decimal (u32_at s 4)
    ∷ (summary_words (width_at s 8) (u32_at s 20) (u32_at s 16) ++ (flag_word (is_set (u32_at s 16) 4) (61 ∷ shown (text_at image s 24)) ∷ [])))

-- an answer's lines are line 1 and those of the concatenations
pub answer_parts : (image s : List ℕ) →
    answer_lines (read_answer image s) ≡ head_line image s ++ concat_lines 0 (tab (concat_at s) 0 (u32_at s 0)) (tab (field_at image s) 0 (u32_at s 4))
unfolding read_answer
answer_parts image s = rw (length_tab (concat_at s) 0 (u32_at s 0))
