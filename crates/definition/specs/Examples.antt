-- Closed examples of the stages where a slip would be easy: each answer is the Rust's (differential/), run on the same line.
use Rattle.std.specs.Prelude.{◌≡◌, refl, ◌∷◌}
use Rattle.definition.specs.Prelude.{ℕ, false, Option, none, some, List, [], map, pos}
use Rattle.definition.specs.Basics.{Result, ok, refused, ◌>>=◌, ascii}
use Rattle.definition.specs.Image.{Unparsed, Placed, kinds}
use Rattle.definition.specs.Tree.{Forest, end, word, group, flat}
use Rattle.definition.specs.Component.{Component, stage1, stage2, starting_value, each, each_in}
use Rattle.definition.specs.Concatenation.{Concatenation, FillerAlign, align_none, stage3, check, check_from, merge, bits_of}
use Rattle.definition.specs.Overall.{Overall, stage4, overall_from, place_from, middle_from, opposite_from}
use Rattle.definition.specs.Readings.{as_bound, as_range, reads_bound, reads_range, sum_of, reading_for, tokens, parenthesised}

-- `1..=4` ends at 5
pub inclusive : reading_for (as_range (tokens ("1" ∷ "." ∷ "." ∷ "=" ∷ "4" ∷ []))) ≡ reads_range (sum_of "" (pos 1)) (some (sum_of "" (pos 5)))
unfolding reading_for tokens
inclusive = refl

-- `(1--2--3)` is cut at the leftmost pair of minuses
pub leftmost_pair : reading_for (as_bound (parenthesised ("1" ∷ "-" ∷ "-" ∷ "2" ∷ "-" ∷ "-" ∷ "3" ∷ []))) ≡ reads_bound (sum_of "--2--3" (pos 1))
unfolding reading_for tokens
leftmost_pair = refl

-- a component of some records, and one that is a literal of some bits
abbrev pub one_component : Forest → List ℕ → Placed Unparsed
one_component f bits = record { base = 0; value = record { recs = flat f; bits = bits } }

abbrev pub up_to : List ℕ → Forest
up_to s = group kinds.bracket (word (ascii ".") (word (ascii ".") (word s end))) end

abbrev pub dots : Forest
dots = tokens ("." ∷ "." ∷ [])

-- stages 1 to 4 of a tree
unfoldable pub through : List (List (Placed Unparsed)) → Result (List Concatenation × Overall)
unfolding reading_for tokens stage1 stage2 starting_value each each_in stage3 check check_from merge stage4 overall_from place_from middle_from opposite_from
through t = do
  t₁ ← stage1 t
  t₂ ← stage2 t₁
  cc ← stage3 0 t₂.cc
  o ← stage4 0 false cc
  ok (cc, o)

abbrev pub merged_bits : Result (List Concatenation × Overall) → List (List (List ℕ))
merged_bits (refused q) = []
merged_bits (ok r) = map (λ (c : Concatenation). map (λ (p : Placed Component). bits_of p.value) (merge c.comps)) r.0

abbrev pub overall_align : Result (List Concatenation × Overall) → Option FillerAlign
overall_align (refused q) = none
overall_align (ok r) = some r.1.align

-- `1u4, 3u4[..n], 5u4, 2u3, 6u4`: the three lowest literals are one, and the one with a text end stays apart
pub runs : merged_bits (through (
    (one_component (tokens ("6u4" ∷ [])) (0 ∷ 1 ∷ 1 ∷ 0 ∷ [])
    ∷ one_component (tokens ("2u3" ∷ [])) (0 ∷ 1 ∷ 0 ∷ [])
    ∷ one_component (tokens ("5u4" ∷ [])) (1 ∷ 0 ∷ 1 ∷ 0 ∷ [])
    ∷ one_component (word (ascii "3u4") (up_to (ascii "n"))) (1 ∷ 1 ∷ 0 ∷ 0 ∷ [])
    ∷ one_component (tokens ("1u4" ∷ [])) (1 ∷ 0 ∷ 0 ∷ 0 ∷ [])
    ∷ [])
    ∷ []))
    ≡ ((0 ∷ 1 ∷ 1 ∷ 0 ∷ 0 ∷ 1 ∷ 0 ∷ 1 ∷ 0 ∷ 1 ∷ 0 ∷ []) ∷ (1 ∷ 1 ∷ 0 ∷ 0 ∷ []) ∷ (1 ∷ 0 ∷ 0 ∷ 0 ∷ []) ∷ []) ∷ []
unfolding through
runs = refl

-- `..64; a, ..`: a later filler does not undo overall alignment none
pub none_stays : overall_align (through (
    (one_component (tokens ("." ∷ "." ∷ "64" ∷ [])) [] ∷ [])
    ∷ (one_component dots [] ∷ one_component (tokens ("a" ∷ [])) [] ∷ [])
    ∷ []))
    ≡ some align_none
unfolding through
none_stays = refl
