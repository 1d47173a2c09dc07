-- A text that begins above `9` is no number: no sign, no `0` before a radix, and no decimal digit.
use Rattle.std.specs.Prelude.{◌+◌, ◌*◌, ◌-◌, ◌∷◌, if◌then◌else◌}
use mathlib.Core.Bool.{and-false}
use Rattle.std.proofs.Common.{◌≡◌, ◌<◌, ◌≤◌, refl, ap, ◌∙◌, arith, le-ltb, ne_eqb}
use borrow.Author.Tests.{lt-leb}
use Rattle.definition.specs.Prelude.{ℕ, zero, suc, Bool, true, false, Option, none, some, List}
use Rattle.definition.specs.Prelude.{length, get_or, take, drop, leb, ltb, eqb}
use Rattle.definition.specs.Basics.{within}
use Rattle.definition.specs.Numbers.{digit_worth, digit_in, digits_from, inner, unsigned_parse, try_parse}
use Rattle.definition.specs.Image.{padded, bytes_at}
use Rattle.stages.proofs.token_tree.Same.{first_on, whole_at}

-- the worth of a byte above `9`, and a decimal digit's
worth_above : (b : ℕ) → 57 < b → digit_worth b ≡ (if within 97 102 b then some (10 + (b - 97)) else if within 65 70 b then some (10 + (b - 65)) else none)
unfolding digit_worth
worth_above b h = rw (lt-leb b 57 h, and-false (leb 48 b))

abbrev decimal : Option ℕ → Option ℕ
decimal o = elim o [ none ↦ none | some d ↦ if ltb d 10 then some d else none ]

no_digit : (b : ℕ) → 57 < b → digit_in 10 b ≡ none
no_digit b h = ap decimal (worth_above b h) ∙ go (within 97 102 b) (within 65 70 b)
  where
    go : (p q : Bool) → decimal (if p then some (10 + (b - 97)) else if q then some (10 + (b - 65)) else none) ≡ none
    go true q = rw (le-ltb (10 + (b - 97)) 10 (omega arith))
    go false true = rw (le-ltb (10 + (b - 65)) 10 (omega arith))
    go false false = refl

no_digits : (b : ℕ) (rest : List ℕ) → 57 < b → digits_from 10 0 (b ∷ rest) ≡ none
unfolding digits_from
no_digits b rest h = ap (λ (o : Option ℕ). elim o [ none ↦ none | some d ↦ digits_from 10 (0 * 10 + d) rest ]) (no_digit b h)

not_number : (b : ℕ) (rest : List ℕ) → 57 < b → none ≡ try_parse (b ∷ rest)
unfolding try_parse unsigned_parse inner
not_number b rest h =
    let minus : eqb b 45 ≡ false = ne_eqb b 45 (λ q. let z : ◌≡◌ {A = ℕ} b 45 = q in omega (arith, z)) in
    let plus : eqb b 43 ≡ false = ne_eqb b 43 (λ q. let z : ◌≡◌ {A = ℕ} b 43 = q in omega (arith, z)) in
    let nought : eqb b 48 ≡ false = ne_eqb b 48 (λ q. let z : ◌≡◌ {A = ℕ} b 48 = q in omega (arith, z)) in
    rw (minus, nought, and-false (ltb 2 (suc (length rest))), plus, no_digits b rest h)

module _ (image : List ℕ) (p : ℕ) where
  pub number_above : (len : ℕ) → 1 ≤ len → 57 < get_or image p 0 → none ≡ try_parse (bytes_at image p len)
  number_above zero l h = absurd (omega arith)
  number_above (suc m) l h = rw (first_on m p image) (not_number (get_or image p 0) (padded m (drop (suc p) image)) h)

  pub number_whole : (len m : ℕ) → p + len ≤ length image → m ≡ len → try_parse (take m (drop p image)) ≡ try_parse (bytes_at image p len)
  number_whole len m h e = ap try_parse (whole_at image p len m h e)
