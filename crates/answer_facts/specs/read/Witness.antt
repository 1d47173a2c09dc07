-- A tree that meets the premises of `reads-answer`: a starting value, a variable with a range, and literals that merge.
use Rattle.std.specs.Prelude.{◌≡◌, refl, ◌∷◌}
use Rattle.definition.specs.Prelude.{true, []}
use Rattle.definition.specs.Basics.{ok, same_bytes, sum, all, joined, tab}
use Rattle.definition.specs.Numbers.{half128, digit_worth, digits_from, inner, unsigned_parse, try_parse}
use Rattle.definition.specs.Image.{parts, kinds}
use Rattle.definition.specs.Tree.{Tree, end, word, group, flat, text_of, packed, sound_forest, depth, fits}
use Rattle.definition.specs.Text.{chunks, items_of, bytes_of}
use Rattle.definition.specs.Ranges.{cut_last, cut_pair, read_bound, parse_usb, scan_from, parse_range}
use Rattle.definition.specs.Component.{split_range, split_colon, parse_component, each_in, each, starting_value, stage1, simplify_usb, simplify_range, simplify_literal, simplify, stage2}
use Rattle.definition.specs.Concatenation.{check_from, check, stage3, merge}
use Rattle.definition.specs.Overall.{place_from, overall_from, middle_from, opposite_from, stage4}
use Rattle.definition.specs.Answer.{Answer}
use Rattle.definition.specs.Run.{under, stages}
use Rattle.prepared.specs.Statement.{placed_from, placed_tree}

-- "5", "6" and, with a starting value, "s:v[a]"; then "w"
example : Tree
example =
    (record { forest = word (53 ∷ []) end; bits = 1 ∷ 0 ∷ 1 ∷ [] }
    ∷ record { forest = word (54 ∷ []) end; bits = 0 ∷ 1 ∷ 1 ∷ [] }
    ∷ record { forest = word (115 ∷ []) (word (58 ∷ []) (word (118 ∷ []) (group kinds.bracket (word (97 ∷ []) end) end))); bits = [] }
    ∷ [])
    ∷ (record { forest = word (119 ∷ []) end; bits = [] } ∷ [])
    ∷ []

example_fits : fits example ≡ true
unfolding example fits joined all flat text_of packed sum tab sound_forest depth
example_fits = refl

example_accepted : (a : Answer) × (stages (under 1) (placed_tree example) ≡ ok a)
unfolding example same_bytes sum all joined tab half128 digit_worth digits_from inner unsigned_parse try_parse parts flat text_of split_range split_colon parse_component each_in each starting_value stage1 simplify_usb simplify_range simplify_literal simplify stage2 check_from check stage3 merge place_from overall_from middle_from opposite_from stage4 cut_last cut_pair read_bound parse_usb scan_from parse_range chunks items_of bytes_of stages placed_from placed_tree
example_accepted = (_, refl)
