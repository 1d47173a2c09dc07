-- Order: of one sign by the bits, else by the signs; the bits by the high halves, and then by the low ones.
-- Assumes nothing.
use Rattle.std.specs.Cmp.{ranks, nat_cmp_is, int_cmp_is}
use Rattle.std.specs.Ordering.{MatchOrdering, ordering_then, nat_cmp, bool_cmp, int_cmp}
use Rattle.std.specs.declared.cmp.Ordering.{Ordering}
use Rattle.std.specs.declared.cmp.Ordering.TheVariants.{Less, Equal, Greater}
use Rattle.std.proofs.Common.{◌≡◌, ℕ, ◌+◌, ◌*◌, ◌^◌, ◌<◌, ℤ, pos, negsuc, ◌<ℤ◌, refl, ap, ◌∙◌, arith}
use Rattle.std.proofs.lemmas.Int.{ints}
use Rattle.numbers.specs.declared.I128.{I128}
use Rattle.numbers.specs.Steps.{negative}
use Rattle.numbers.specs.Value.{bits, value_of}
use Rattle.numbers.proofs.Halves.{above}
use Rattle.numbers.proofs.Words.{Word, word}

halves : (B a b x y : ℕ) → x < B → y < B → ordering_then (nat_cmp a b) (nat_cmp x y) ≡ nat_cmp (a * B + x) (b * B + y)
halves B a b x y hx hy =
    nat_cmp_is (a * B + x) (b * B + y) (ordering_then (nat_cmp a b) (nat_cmp x y)) (go (nat_cmp a b) (nat_cmp x y) (ranks a b) (ranks x y))
  where
    go : (r s : Ordering) → MatchOrdering r (a < b) (a ≡ b) (b < a) → MatchOrdering s (x < y) (x ≡ y) (y < x)
        → MatchOrdering (ordering_then r s) (a * B + x < b * B + y) (a * B + x ≡ b * B + y) (b * B + y < a * B + x)
    go Less s h k = omega (arith, above B a b h)
    go Greater s h k = omega (arith, above B b a h)
    go Equal Less h k = omega (arith, ap (λ (n : ℕ). n * B) h)
    go Equal Equal h k = omega (arith, ap (λ (n : ℕ). n * B) h)
    go Equal Greater h k = omega (arith, ap (λ (n : ℕ). n * B) h)

signed : (z v : ℤ) (x y : ℕ) → Word z x → Word v y → ordering_then (bool_cmp (negative v) (negative z)) (nat_cmp x y) ≡ int_cmp z v
signed (pos a) (negsuc b) x y h k = refl
signed (negsuc a) (pos b) x y h k = refl
signed (pos a) (pos b) x y h k = int_cmp_is (pos a) (pos b) (nat_cmp x y) (go (nat_cmp x y) (ranks x y))
  where
    go : (r : Ordering) → MatchOrdering r (x < y) (x ≡ y) (y < x) → MatchOrdering r (pos a <ℤ pos b) (pos a ≡ pos b) (pos b <ℤ pos a)
    go Less e = omega (arith, ints)
    go Equal e = omega (arith, ints)
    go Greater e = omega (arith, ints)
signed (negsuc a) (negsuc b) x y h k = int_cmp_is (negsuc a) (negsuc b) (nat_cmp x y) (go (nat_cmp x y) (ranks x y))
  where
    go : (r : Ordering) → MatchOrdering r (x < y) (x ≡ y) (y < x) → MatchOrdering r (negsuc a <ℤ negsuc b) (negsuc a ≡ negsuc b) (negsuc b <ℤ negsuc a)
    go Less e = omega (arith, ints)
    go Equal e = omega (arith, ints)
    go Greater e = omega (arith, ints)

pub order : (a b : I128) → a.high < 2 ^ 64 → a.low < 2 ^ 64 → b.high < 2 ^ 64 → b.low < 2 ^ 64
    → ordering_then (bool_cmp (negative (value_of b)) (negative (value_of a))) (ordering_then (nat_cmp a.high b.high) (nat_cmp a.low b.low)) ≡ int_cmp (value_of a) (value_of b)
order a b ah al bh bl =
    ap (ordering_then (bool_cmp (negative (value_of b)) (negative (value_of a)))) (halves (2 ^ 64) a.high b.high a.low b.low al bl)
    ∙ signed (value_of a) (value_of b) (bits a) (bits b) (word a ah al) (word b bh bl)
