-- The lengths of a line's words.
use Rattle.std.specs.Prelude.{◌≡◌, ◌≤◌, ◌+◌, ◌*◌, ◌/◌, ◌%◌, ◌&&◌, ◌∷◌, if◌then◌else◌}
use Rattle.std.proofs.Common.{◌∙◌, mul-suc, arith, length-append}
use mathlib.Core.List.{reverse_aux}
use Rattle.laws.specs.Tests.{by_test}
use Rattle.definition.specs.Prelude.{ℕ, zero, suc, Bool, true, false, not, Option, none, some, List, [], map, reverse, length, ltb, eqb, ℤ, pos, negsuc}
use Rattle.definition.specs.Basics.{within, joined, ascii}
use Rattle.definition.specs.Answer.{Bound}
use Rattle.definition.specs.Listing.{decimal_onto, decimal, hex, shown_byte, shown, signed, width_word, align_word, flag_word}

-- ---- numbers

onto_most : (d n : ℕ) (s : List ℕ) → length (decimal_onto d n s) ≤ d + length s
unfolding decimal_onto
onto_most zero n s = omega arith
onto_most (suc d) n s =
    by_test (ltb n 10) (λ t. rw (t, decimal_onto) (omega arith)) λ t.
    rw (t, decimal_onto) (let h = onto_most d (n / 10) ((48 + n % 10) ∷ s) in omega arith)

pub decimal_most : (n : ℕ) → length (decimal n) ≤ 39
decimal_most n = let h = onto_most 39 n [] in omega arith

pub signed_most : (z : ℤ) → length (signed z) ≤ 40
signed_most (pos n) = omega (arith, decimal_most n)
signed_most (negsuc n) = omega (arith, decimal_most (suc n))

-- ---- text and hex

pub joined_most : {A : Type 0} (f : A → List ℕ) (k : ℕ) → ((a : A) → length (f a) ≤ k) → (l : List A) → length (joined (map f l)) ≤ k * length l
unfolding joined
joined_most f k h [] = omega arith
joined_most f k h (a ∷ l) = omega (arith, length-append (f a) (joined (map f l)), h a, joined_most f k h l, mul-suc k (length l))

pub shown_most : (s : List ℕ) → length (shown s) ≤ 3 * length s
shown_most s = joined_most shown_byte 3 shown_byte_lem s
  where
    shown_byte_lem : (b : ℕ) → length (shown_byte b) ≤ 3
    shown_byte_lem b = go (within 33 126 b && not (eqb b 92))
      where
        go : (t : Bool) → length (if t then b ∷ [] else 92 ∷ hex b) ≤ 3
        go true = omega arith
        go false = omega arith

pub hex_most : (s : List ℕ) → length (joined (map hex s)) ≤ 2 * length s
hex_most s = joined_most hex 2 (λ b. omega arith) s

-- ---- words

-- the bytes of an end's text
abbrev pub end_text : Option Bound → ℕ
end_text none = 0
end_text (some b) = length b.text

pub width_most : (w : ℕ) → length (width_word w) ≤ 39
unfolding ascii
width_most w = go (eqb w 0)
  where
    go : (t : Bool) → length (if t then ascii "-" else decimal w) ≤ 39
    go true = omega arith
    go false = decimal_most w

pub flag_most : (t : Bool) (w : List ℕ) → length (flag_word t w) ≤ 1 + length w
unfolding ascii
flag_most true w = omega arith
flag_most false w = omega arith

pub align_most : (a : ℕ) → length (align_word a) ≤ 8
unfolding ascii
align_most a = go (eqb a 0) (eqb a 1) (eqb a 2) (eqb a 3) (eqb a 4)
  where
    go : (p q r s t : Bool) → length (if p then ascii "none" else if q then ascii "single" else if r then ascii "lsb" else if s then ascii "msb" else if t then ascii "mid" else ascii "multiple") ≤ 8
    go true q r s t = omega arith
    go false true r s t = omega arith
    go false false true s t = omega arith
    go false false false true t = omega arith
    go false false false false true = omega arith
    go false false false false false = omega arith

pub reverse_length : (l : List ℕ) → length (reverse l) ≡ length l
reverse_length l = aux l [] ∙ (omega arith)
  where
    aux : (l r : List ℕ) → length (reverse_aux l r) ≡ length l + length r
    aux [] r = omega arith
    aux (x ∷ l) r = let h = aux l (x ∷ r) in omega arith
