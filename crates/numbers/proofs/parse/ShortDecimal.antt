-- A number of at most 18 decimal digits without a sign: its value fits 64 bits, and is what the definition reads.
use Rattle.std.proofs.Common.{◌≡◌, ℕ, ◌+◌, ◌-◌, ◌*◌, ◌^◌, ◌<◌, ◌≤◌, List, [], ◌∷◌, length, get_or, drop, pos, sym, refl, ap, ◌∙◌, lt_of_lt_of_le, pow-suc, add-one, arith, lit<, lt-ltb, drop_of_length-le, le-leb}
use Rattle.std.specs.Char.{IsDigitOf}
use mathlib.Core.Option.{none, some}
use mathlib.Core.Logic.{inl, inr}
use native.Mathlib.Nat.{pow-le-pow_right}
use Rattle.definition.specs.Numbers.{digit_worth, digit_in, digits_from, digits, half128, narrow, signed_as, try_parse}
use Rattle.numbers.proofs.parse.Digits.{some_digit, goes_on}
use Rattle.numbers.proofs.parse.Reading.{inner_bare, decimal, try_plain}
use Rattle.numbers.proofs.parse.Signs.{positive_capped}

-- a value of k digits at most
pub room : (n i k : ℕ) → n < 10 ^ i → i ≤ k → n < 10 ^ k
room n i k h below = lt_of_lt_of_le h (pow-le-pow_right (lit< tt) {i = i} {j = k} below)

decimal_digit : (b d : ℕ) → IsDigitOf b d → d < 10 → some d ≡ digit_in 10 b
unfolding digit_worth
decimal_digit b d (inl (h, e)) below =
    let same : b - 48 ≡ d = omega arith in
    rw (le-leb 48 b h.0, le-leb b 57 h.1, same, digit_in) (rw (lt-ltb d 10 below))
decimal_digit b d (inr (inl (h, e))) below = absurd (omega arith)
decimal_digit b d (inr (inr (h, e))) below = absurd (omega arith)

-- at place i, with n read so far
module _ (n i : ℕ) (s : List ℕ) (so_far : digits_from 10 n (drop i s) ≡ digits_from 10 0 s) where
  -- one more digit
  pub one_more : (d : ℕ) → i < length s → n < 10 ^ i → d < 10 → IsDigitOf (get_or s i 0) d
      → (n * 10 + d < 10 ^ (i + 1)) × (digits_from 10 (n * 10 + d) (drop (i + 1) s) ≡ digits_from 10 0 s)
  one_more d inside small below is =
      (rw (add-one, pow-suc) (omega arith), goes_on 10 n i s so_far inside d (decimal_digit (get_or s i 0) d is below))

  -- every byte is read
  pub all_read : length s ≤ i → digits_from 10 0 s ≡ some n
  unfolding digits_from
  all_read h = rw (← so_far, drop_of_length-le s {i = i} h)

kept : (n : ℕ) → n < 2 ^ 64 → some (pos n) ≡ narrow (pos n)
unfolding half128
kept n h = rw (lt-ltb n (2 ^ 127) (omega arith))

-- a text of digits has no sign before them
unsigned : (b n : ℕ) (s : List ℕ) → digit_in 10 b ≡ none → digits_from 10 0 s ≡ some n → 1 ≤ length s → get_or s 0 0 ≡ b → ⊥
unfolding digits_from
unsigned b n [] f e long same = absurd (omega arith)
unsigned b n (a ∷ rest) f e long same = let z : ◌≡◌ {A = ℕ} 0 1 = cc in absurd (omega arith)

no_minus : digit_in 10 45 ≡ none
unfolding digit_worth
no_minus = refl

no_plus : digit_in 10 43 ≡ none
unfolding digit_worth
no_plus = refl

-- so it is read as it stands, where it has no prefix
pub as_it_stands : (n : ℕ) (s : List ℕ) → n < 2 ^ 64 → 1 ≤ length s → (2 < length s → get_or s 0 0 ≡ 48 → ⊥) → digits_from 10 0 s ≡ some n
    → some (pos n) ≡ try_parse s
as_it_stands n s small long plain e =
    let minus : get_or s 0 0 ≡ 45 → ⊥ = unsigned 45 n s no_minus e long in
    let plus : get_or s 0 0 ≡ 43 → ⊥ = unsigned 43 n s no_plus e long in
    kept n small
    ∙ sym (ap (signed_as pos) (some_digit 10 s (omega arith) ∙ e))
    ∙ (sym (positive_capped (digits 10 s)) ∙ (inner_bare 10 s (λ _. (minus, plus)) ∙ (decimal s plain ∙ try_plain s long minus)))

-- `07` is read as it stands
witness : some (pos 7) ≡ try_parse (48 ∷ 55 ∷ [])
unfolding digits_from digit_worth
witness = as_it_stands 7 (48 ∷ 55 ∷ []) (lit< tt) (omega arith) (λ h. absurd (omega arith)) refl
