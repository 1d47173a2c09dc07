-- Document 01, "Numbers and bounds": 128-bit integers as ℤ with a test, and i128_try_parse (src/ranges.rs).
use Rattle.std.specs.Prelude.{◌+◌, ◌*◌, ◌-◌, ◌^◌, ◌&&◌, ◌∷◌, if◌then◌else◌}
use Rattle.definition.specs.Prelude.{ℕ, Bool, Option, none, some, List, [], length, get_or, drop, ltb, eqb, ℤ, pos, negsuc, neg_ℤ}
use Rattle.definition.specs.Basics.{within, is_empty}
use Rattle.definition.specs.Characters.{char}

-- 2^127, kept shut in proofs
unfoldable pub half128 : ℕ
half128 = 2 ^ 127

-- "Range: -2^127 to 2^127-1"
abbrev pub fits128 : ℤ → Bool
fits128 (pos n) = ltb n half128
fits128 (negsuc n) = ltb n half128

-- what checked_add, checked_sub and checked_neg give for the true sum, difference or negation z
abbrev pub narrow : ℤ → Option ℤ
narrow z = if fits128 z then some z else none

-- "Digit worth": 0 to 9, a to f and A to F, and no other byte
unfoldable pub digit_worth : ℕ → Option ℕ
digit_worth b =
    if within char.zero char.nine b then some (b - char.zero)
    else if within char.lower_a char.lower_f b then some (10 + (b - char.lower_a))
    else if within char.upper_a char.upper_f b then some (10 + (b - char.upper_a)) else none

-- the worth, where it is a digit of that radix
abbrev pub digit_in : ℕ → ℕ → Option ℕ
digit_in radix b = elim (digit_worth b) [ none ↦ none | some d ↦ if ltb d radix then some d else none ]

-- the digits' value, read from the left: n is what was read so far
unfoldable pub digits_from : ℕ → ℕ → List ℕ → Option ℕ
digits_from radix n [] = some n
digits_from radix n (b ∷ rest) = elim (digit_in radix b) [ none ↦ none | some d ↦ digits_from radix (n * radix + d) rest ]

-- one digit or more
abbrev pub digits : ℕ → List ℕ → Option ℕ
digits radix s = if is_empty s then none else digits_from radix 0 s

abbrev pub signed_as : (ℕ → ℤ) → Option ℕ → Option ℤ
signed_as f none = none
signed_as f (some n) = narrow (f n)

-- "The inner reading takes one more sign of its own": i128::from_str_radix
unfoldable pub inner : ℕ → List ℕ → Option ℤ
inner radix [] = none
inner radix (b ∷ rest) =
    if eqb b char.minus then signed_as (λ n. neg_ℤ (pos n)) (digits radix rest)
    else if eqb b char.plus then signed_as pos (digits radix rest) else signed_as pos (digits radix (b ∷ rest))

-- the radix that x, o and b stand for
abbrev pub radix_of : ℕ → Option ℕ
radix_of b = if eqb b char.x then some 16 else if eqb b char.o then some 8 else if eqb b char.b then some 2 else none

-- "if more than two characters remain and the first is `0`, the second must be `x`, `o` or `b` and the rest is read in
-- that radix; otherwise decimal"
unfoldable pub unsigned_parse : List ℕ → Option ℤ
unsigned_parse s =
    if ltb 2 (length s) && eqb (get_or s 0 0) char.zero
    then elim (radix_of (get_or s 1 0)) [ none ↦ none | some radix ↦ inner radix (drop 2 s) ]
    else inner 10 s

-- i128_try_parse: "an optional `-`", which turns what is read after it
unfoldable pub try_parse : List ℕ → Option ℤ
try_parse [] = none
try_parse (b ∷ rest) =
    if eqb b char.minus
    then elim (unsigned_parse rest) [ none ↦ none | some z ↦ narrow (neg_ℤ z) ]
    else unsigned_parse (b ∷ rest)
