-- Reading digits one after the other: what each way through the loop gives.
use Rattle.std.specs.Prelude.{if◌then◌else◌}
use Rattle.std.proofs.Common.{◌≡◌, ℕ, ◌+◌, ◌*◌, ◌<◌, ◌≤◌, Bool, true, false, ltb, ◌⊎◌, List, [], ◌∷◌, length, get_or, drop, sym, refl, inl, inr, mul-le-mul_left, add-one, arith, drop_of_length-le, drop-cons, ltb-false, le-ltb, lt-ltb}
use mathlib.Core.Option.{Option, none, some}
use Rattle.definition.specs.Numbers.{digit_worth, digit_in, digits_from, digits}
use Rattle.numbers.specs.digit.Worth.{worth_byte, Worths}
use Rattle.numbers.specs.parse.Parts.{capped, capped_option, full128}

-- each byte has its worth, or is no digit
abbrev Worth : ℕ → Type 0
Worth b = (digit_worth b ≡ some (worth_byte b)) ⊎ ((digit_worth b ≡ none) × (worth_byte b ≡ 255))

byte_worth : (b : ℕ) → Worth b
unfolding worth_byte
byte_worth b = go (digit_worth b)
  where
    go : (o : Option ℕ) → (o ≡ some (elim o [ none ↦ 255 | some d ↦ d ])) ⊎ ((o ≡ none) × (◌≡◌ {A = ℕ} (elim o [ none ↦ 255 | some d ↦ d ]) 255))
    go none = inr (refl, refl)
    go (some d) = inl refl

-- what the table says of a byte: a digit of the radix where its worth is below that
module _ (worths : List ℕ) (told : Worths worths) (radix b : ℕ) (small : radix ≤ 16) (byte : b < 256) where
  pub is_digit : get_or worths b 0 < radix → some (get_or worths b 0) ≡ digit_in radix b
  is_digit h = rw (told b byte) (go (rw (told b byte) at h) (byte_worth b))
    where
      go : worth_byte b < radix → Worth b → some (worth_byte b) ≡ digit_in radix b
      go h (inl e) = rw (e, digit_in) (rw (lt-ltb (worth_byte b) radix h))
      go h (inr w) = absurd (omega (arith, w.1))

  pub no_digit : radix ≤ get_or worths b 0 → none ≡ digit_in radix b
  no_digit h = go (rw (told b byte) at h) (byte_worth b)
    where
      go : radix ≤ worth_byte b → Worth b → none ≡ digit_in radix b
      go h (inl e) = rw (e, digit_in) (rw (le-ltb (worth_byte b) radix h))
      go h (inr w) = rw (w.0, digit_in)

-- a number past 128 bits stays past them
past : (n : ℕ) → capped n ≡ none → full128 ≤ n
past n = go (ltb n full128) refl
  where
    go : (t : Bool) → ltb n full128 ≡ t → (if t then some n else none) ≡ none → full128 ≤ n
    go true e h = let z : ◌≡◌ {A = ℕ} 0 1 = cc in absurd (omega arith)
    go false e h = ltb-false n full128 e

still_past : (radix n : ℕ) (s : List ℕ) → 1 ≤ radix → full128 ≤ n → capped_option (digits_from radix n s) ≡ none
unfolding digits_from
still_past radix n [] r h = rw (le-ltb n full128 h)
still_past radix n (b ∷ rest) r h = go (digit_in radix b) (λ d. still_past radix (n * radix + d) rest r (omega (arith, mul-le-mul_left n r)))
  where
    go : (o : Option ℕ) → ((d : ℕ) → capped_option (digits_from radix (n * radix + d) rest) ≡ none)
        → capped_option (elim o [ none ↦ none | some d ↦ digits_from radix (n * radix + d) rest ]) ≡ none
    go none f = refl
    go (some d) f = f d

-- a number within 128 bits is kept
kept : (m n : ℕ) → some m ≡ capped n → m ≡ n
kept m n = go (ltb n full128)
  where
    go : (t : Bool) → some m ≡ (if t then some n else none) → m ≡ n
    go true e = cc
    go false e = cc

-- the whole reading, where there is nothing to read
pub nothing : (radix : ℕ) (s : List ℕ) → length s ≡ 0 → none ≡ capped_option (digits radix s)
nothing radix [] e = refl
nothing radix (b ∷ rest) e = absurd (omega arith)

pub some_digit : (radix : ℕ) (s : List ℕ) → (length s ≡ 0 → ⊥) → digits radix s ≡ digits_from radix 0 s
some_digit radix [] f = absurd (f refl)
some_digit radix (b ∷ rest) f = refl

-- at place i, with n read so far
module _ (radix n i : ℕ) (s : List ℕ) (so_far : digits_from radix n (drop i s) ≡ digits_from radix 0 s) where
  -- every byte is read
  pub finished : (length s ≡ 0 → ⊥) → length s ≤ i → capped n ≡ some n → some n ≡ capped_option (digits radix s)
  unfolding digits_from
  finished long h fits = rw (some_digit radix s long, ← so_far, drop_of_length-le s {i = i} h) (sym fits)

  module _ (inside : i < length s) where
    -- the byte at i is no digit
    pub ended : (length s ≡ 0 → ⊥) → none ≡ digit_in radix (get_or s i 0) → none ≡ capped_option (digits radix s)
    unfolding digits_from
    ended long e = rw (some_digit radix s long, ← so_far, drop-cons s i 0 inside, ← e, digits_from)

    -- it is the digit d
    module _ (d : ℕ) (digit : some d ≡ digit_in radix (get_or s i 0)) where
      pub goes_on : digits_from radix (n * radix + d) (drop (i + 1) s) ≡ digits_from radix 0 s
      unfolding digits_from
      goes_on = rw (← so_far, add-one, drop-cons s i 0 inside, ← digit, digits_from)

      -- the number passes 128 bits with it
      pub passed : (length s ≡ 0 → ⊥) → 1 ≤ radix → none ≡ capped (n * radix + d) → none ≡ capped_option (digits radix s)
      passed long r over =
          rw (some_digit radix s long, ← goes_on)
          (sym (still_past radix (n * radix + d) (drop (i + 1) s) r (past (n * radix + d) (sym over))))

      -- the reading goes on with m
      pub again : (m : ℕ) → some m ≡ capped (n * radix + d)
          → (capped m ≡ some m) × (digits_from radix m (drop (i + 1) s) ≡ digits_from radix 0 s)
      again m fits = let same = kept m (n * radix + d) fits in (rw same (rw same at (sym fits)), rw same goes_on)
