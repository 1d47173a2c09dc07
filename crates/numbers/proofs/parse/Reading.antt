-- A number's signs and prefix: what each way through the code gives.
use Rattle.std.proofs.Common.{◌≡◌, ℕ, ◌-◌, ◌<◌, ◌≤◌, List, [], ◌∷◌, length, get_or, take, drop, ℤ, pos, neg_ℤ, refl, le_refl, arith, length-drop, take_all, lt-ltb, eq-eqb, ne_eqb, ltb, ltb-true}
use mathlib.Core.Option.{Option, none, some}
use Rattle.definition.specs.Numbers.{narrow, signed_as, digits, radix_of, inner, unsigned_parse, try_parse}
use Rattle.numbers.specs.parse.Parts.{capped_option, negated}
use Rattle.numbers.proofs.Halves.{by_test}
use Rattle.numbers.proofs.parse.Signs.{positive_capped, negative_capped}

-- the part from k on is the rest
rest_is : (k : ℕ) (s : List ℕ) → take (length s - k) (drop k s) ≡ drop k s
rest_is k s = take_all (length s - k) (drop k s) (rw length-drop (le_refl (length s - k)))

module _ (radix : ℕ) where
  pub inner_minus : (s : List ℕ) → 1 ≤ length s → get_or s 0 0 ≡ 45 → signed_as negated (capped_option (digits radix (take (length s - 1) (drop 1 s)))) ≡ inner radix s
  unfolding inner
  inner_minus [] h e = absurd (omega arith)
  inner_minus (b ∷ rest) h e = rw (rest_is 1 (b ∷ rest), negative_capped (digits radix rest), eq-eqb b 45 e)

  pub inner_plus : (s : List ℕ) → 1 ≤ length s → get_or s 0 0 ≡ 43 → signed_as pos (capped_option (digits radix (take (length s - 1) (drop 1 s)))) ≡ inner radix s
  unfolding inner
  inner_plus [] h e = absurd (omega arith)
  inner_plus (b ∷ rest) h e =
      let minus : b ≡ 45 → ⊥ = omega arith in
      rw (rest_is 1 (b ∷ rest), positive_capped (digits radix rest), ne_eqb b 45 minus, eq-eqb b 43 e)

  pub inner_bare : (s : List ℕ) → (1 ≤ length s → (get_or s 0 0 ≡ 45 → ⊥) × (get_or s 0 0 ≡ 43 → ⊥))
      → signed_as pos (capped_option (digits radix s)) ≡ inner radix s
  unfolding inner
  inner_bare [] f = refl
  inner_bare (b ∷ rest) f =
      let apart = f (omega arith) in
      rw (positive_capped (digits radix (b ∷ rest)), ne_eqb b 45 apart.0, ne_eqb b 43 apart.1)

module _ (s : List ℕ) where
  pub decimal : (2 < length s → get_or s 0 0 ≡ 48 → ⊥) → inner 10 s ≡ unsigned_parse s
  unfolding unsigned_parse
  decimal f = by_test (ltb 2 (length s)) (λ e. rw (e, ne_eqb (get_or s 0 0) 48 (f (ltb-true 2 (length s) e)))) (λ e. rw e)

  module _ (h : 2 < length s) (e : get_or s 0 0 ≡ 48) where
    pub no_radix : none ≡ radix_of (get_or s 1 0) → none ≡ unsigned_parse s
    unfolding unsigned_parse
    no_radix found = rw (lt-ltb 2 (length s) h, eq-eqb (get_or s 0 0) 48 e, ← found)

    pub in_radix : (radix : ℕ) → some radix ≡ radix_of (get_or s 1 0) → inner radix (take (length s - 2) (drop 2 s)) ≡ unsigned_parse s
    unfolding unsigned_parse
    in_radix radix found = rw (rest_is 2 s, lt-ltb 2 (length s) h, eq-eqb (get_or s 0 0) 48 e, ← found)

pub try_empty : (s : List ℕ) → length s < 1 → none ≡ try_parse s
unfolding try_parse
try_empty [] e = refl
try_empty (b ∷ rest) e = absurd (omega arith)

pub try_plain : (s : List ℕ) → 1 ≤ length s → (get_or s 0 0 ≡ 45 → ⊥) → unsigned_parse s ≡ try_parse s
unfolding try_parse
try_plain [] h m = absurd (omega arith)
try_plain (b ∷ rest) h m = rw (ne_eqb b 45 m)

-- what the outer minus gives
abbrev pub turned : Option ℤ → Option ℤ
turned none = none
turned (some z) = narrow (neg_ℤ z)

pub try_minus : (s : List ℕ) → 1 ≤ length s → get_or s 0 0 ≡ 45 → turned (unsigned_parse (take (length s - 1) (drop 1 s))) ≡ try_parse s
unfolding try_parse
try_minus [] h e = absurd (omega arith)
try_minus (b ∷ rest) h e = rw (rest_is 1 (b ∷ rest), eq-eqb b 45 e)
