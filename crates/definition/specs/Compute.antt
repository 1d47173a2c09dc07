-- The names that a closed example computes with: `unfolding computed` opens them all.
use Rattle.std.specs.Prelude.{ℕ, List}
use Rattle.definition.specs.Basics.{same_bytes, sum, all, joined, tab, ascii}
use Rattle.definition.specs.Numbers.{half128, digit_worth, digits_from, inner, unsigned_parse, try_parse}
use Rattle.definition.specs.Check.{spares_zero, check_in, check_components, check_image}
use Rattle.definition.specs.Image.{padded, recs_from, components_from, parts, tree_of}
use Rattle.definition.specs.Tree.{flat, text_of, packed, record_bytes, image_of, sound_forest, depth, fits}
use Rattle.definition.specs.Component.{split_range, split_colon, parse_component, each_in, each, starting_value, stage1, simplify_usb, simplify_range, simplify_literal, simplify, stage2}
use Rattle.definition.specs.Concatenation.{check_from, check, stage3, merge}
use Rattle.definition.specs.Overall.{place_from, overall_from, middle_from, opposite_from, stage4}
use Rattle.definition.specs.Ranges.{cut_last, cut_pair, read_bound, parse_usb, scan_from, parse_range}
use Rattle.definition.specs.Text.{chunks, items_of, bytes_of}
use Rattle.definition.specs.Answer.{components_bytes, answer_bytes, read_answer}
use Rattle.definition.specs.Listing.{decimal_onto, line, concat_lines, listing, output}
use Rattle.definition.specs.Run.{stages, run}
use Rattle.definition.specs.TokenStream.{forest_of, divided}
use Rattle.definition.specs.Tokens.{nested, streams, token_image}

unfoldable pub computed : List ℕ → List ℕ
unfolding same_bytes sum all joined tab ascii half128 digit_worth digits_from inner unsigned_parse try_parse spares_zero check_in check_components check_image padded recs_from components_from parts tree_of flat text_of packed record_bytes image_of sound_forest depth fits split_range split_colon parse_component each_in each starting_value stage1 simplify_usb simplify_range simplify_literal simplify stage2 check_from check stage3 merge place_from overall_from middle_from opposite_from stage4 cut_last cut_pair read_bound parse_usb scan_from parse_range chunks items_of bytes_of components_bytes answer_bytes read_answer decimal_onto line concat_lines listing output stages run forest_of divided nested streams token_image
computed = output
