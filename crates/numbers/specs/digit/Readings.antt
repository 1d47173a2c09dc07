-- What a digit is, at the ends of its ranges and next to them, and numbers that hang on it: closed examples, by computation.
use Rattle.std.specs.Prelude.{◌≡◌, refl, ◌∷◌}
use Rattle.definition.specs.Prelude.{Option, none, some, List, [], map, String, ℤ, pos, negsuc}
use Rattle.definition.specs.Basics.{ascii}
use Rattle.definition.specs.Numbers.{try_parse, half128, digit_worth, digits_from, inner, unsigned_parse}
use Rattle.numbers.specs.digit.Worth.{worth_byte}

-- each range's ends and its neighbours, and the least and the greatest byte
worths : (map worth_byte (ascii "/09:") ≡ 255 ∷ 0 ∷ 9 ∷ 255 ∷ [])
    × (map worth_byte (ascii "@AFG") ≡ 255 ∷ 10 ∷ 15 ∷ 255 ∷ [])
    × (map worth_byte (ascii "`afg") ≡ 255 ∷ 10 ∷ 15 ∷ 255 ∷ [])
    × (map worth_byte (0 ∷ 255 ∷ []) ≡ 255 ∷ 255 ∷ [])
unfolding worth_byte digit_worth ascii
worths = (refl, refl, refl, refl)

unfoldable table : List (String × Option ℤ)
table =
    ("0xfF", some (pos 255))
    ∷ ("0xg", none)
    ∷ ("0b12", none)
    ∷ ("0o8", none)
    ∷ ("0x_1", none)
    ∷ ("12a", none)
    ∷ ("07", some (pos 7))
    ∷ ("0x-5", some (negsuc 4))
    ∷ []

readings : map (λ e. try_parse (ascii e.0)) table ≡ map (λ e. e.1) table
unfolding table try_parse half128 digit_worth digits_from inner unsigned_parse ascii
readings = refl
