-- A literal with a starting value that meets what the theorems ask: `a:5[..4]` of 4 bits, and the bracket `1..3` for a piece.
use Rattle.std.specs.Prelude.{◌≡◌, refl, ◌∷◌}
use Rattle.definition.specs.Prelude.{true, some, []}
use Rattle.definition.specs.Basics.{same_bytes, all, ascii}
use Rattle.definition.specs.Numbers.{half128, digit_worth, digits_from, inner, unsigned_parse, try_parse}
use Rattle.definition.specs.Image.{kinds}
use Rattle.definition.specs.Tree.{Forest, end, word, group, Node, flat, text_of, sound_forest}
use Rattle.definition.specs.Text.{chunks, items_of, bytes_of}
use Rattle.definition.specs.Ranges.{cut_last, cut_pair, read_bound, parse_usb, scan_from, parse_range}
use Rattle.definition.specs.Component.{split_range, split_colon, parse_component, simplify_usb}
use Rattle.cutting.specs.Statement.{fixed_literal, reads_as}

node : Node
node =
    record {
      forest = word (ascii "a") (word (ascii ":") (word (ascii "5") (group kinds.bracket (word (ascii ".") (word (ascii ".") (word (ascii "4") end))) end)));
      bits = 1 ∷ 0 ∷ 1 ∷ 0 ∷ [];
    }

bracket : Forest
bracket = word (ascii "1") (word (ascii ".") (word (ascii ".") (word (ascii "3") end)))

sound : sound_forest node.forest ≡ true
unfolding node ascii all sound_forest
sound = refl

fixed : fixed_literal true node ≡ some (0, 4)
unfolding node same_bytes ascii half128 digit_worth digits_from inner unsigned_parse try_parse flat text_of chunks items_of bytes_of cut_last cut_pair read_bound parse_usb scan_from parse_range split_range split_colon parse_component simplify_usb
fixed = refl

reads : reads_as 4 bracket ≡ some (1, 3)
unfolding bracket same_bytes ascii half128 digit_worth digits_from inner unsigned_parse try_parse flat text_of chunks items_of bytes_of cut_last cut_pair read_bound parse_usb scan_from parse_range simplify_usb
reads = refl
