-- The table's rule: one test at each of its 256 entries, which antt computes.
use Rattle.std.proofs.Common.{ℕ, Bool, eqb, List, [], ◌∷◌, ◌++◌, get_or, replicate, eqb→eq}
use Rattle.definition.specs.Numbers.{digit_worth}
use Rattle.numbers.specs.digit.Worth.{worth_byte, Worths}
use Rattle.numbers.proofs.digit.Table.{at}

-- the source's table: what lies between the digits is 255
abbrev pub letters : List ℕ
letters = 10 ∷ 11 ∷ 12 ∷ 13 ∷ 14 ∷ 15 ∷ []

unfoldable pub worths : List ℕ
worths =
    replicate 48 255 ++ (0 ∷ 1 ∷ 2 ∷ 3 ∷ 4 ∷ 5 ∷ 6 ∷ 7 ∷ 8 ∷ 9 ∷ []) ++ replicate 7 255 ++ letters ++ replicate 26 255 ++ letters
    ++ replicate 153 255

right : ℕ → ℕ → Bool
right b worth = eqb worth (worth_byte b)

pub worths_right : Worths worths
unfolding worths right worth_byte digit_worth
worths_right b below = eqb→eq (get_or worths b 0) (worth_byte b) (at right worths tt b below)
