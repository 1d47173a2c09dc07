-- The number of a row of bits, in parts; the bits of a number; a byte of which some bits are replaced.
use Rattle.std.specs.Prelude.{◌≡◌, ℕ, zero, suc, ◌+◌, ◌-◌, ◌*◌, ◌/◌, ◌%◌, ◌^◌, ◌<◌, ◌≤◌}
use Rattle.std.proofs.Common.{sym, ap, ◌∙◌, add-zero, zero-add, add-suc, mul-zero, mul_left_comm, mul-add, mod-eq_of_lt, add-one, one-add, arith, pow-add, shr-shr, shr_lt}
use Rattle.std.proofs.Math.Nat.{mod-one}
use Rattle.std.proofs.lemmas.Nat.{mod-pow-add}
use Rattle.definition.specs.Basics.{sum, tab}
use Rattle.laws.specs.Lists.{tab_ext, sum_tab_add}
use Rattle.prepared.specs.Bits.{worth}

pub worth_ext : (f g : ℕ → ℕ) (n : ℕ) → ((j : ℕ) → j < n → f j ≡ g j) → worth f n ≡ worth g n
worth_ext f g n h =
    ap sum (tab_ext (λ j. f j * 2 ^ j) (λ j. g j * 2 ^ j) 0 n λ i a b. ap (λ (x : ℕ). x * 2 ^ i) (h i (omega arith)))

-- ---- in parts

later : (f : ℕ → ℕ) (a from n : ℕ) → sum (tab (λ j. f j * 2 ^ j) (a + from) n) ≡ 2 ^ a * sum (tab (λ j. f (a + j) * 2 ^ j) from n)
unfolding tab sum
later f a from zero = sym (mul-zero (2 ^ a))
later f a from (suc n) =
    rw (mul-add, ← add-suc, later f a (suc from) n, pow-add, mul_left_comm)

pub worth_add : (f : ℕ → ℕ) (a b : ℕ) → worth f (a + b) ≡ worth f a + 2 ^ a * worth (λ j. f (a + j)) b
worth_add f a b =
    sum_tab_add (λ j. f j * 2 ^ j) 0 a b
    ∙ ap (λ (x : ℕ). worth f a + sum (tab (λ j. f j * 2 ^ j) x b)) (zero-add a ∙ sym (add-zero a))
    ∙ ap (λ (x : ℕ). worth f a + x) (later f a 0 b)

pub worth_snoc : (f : ℕ → ℕ) (n : ℕ) → worth f (suc n) ≡ worth f n + f n * 2 ^ n
unfolding tab sum
worth_snoc f n = ap (worth f) (sym (add-one n)) ∙ sum_tab_add (λ j. f j * 2 ^ j) 0 n 1 ∙ rw (zero-add, add-zero)

-- ---- the bits of a number: the lowest k, and w from a place

pub worth_bits : (b k : ℕ) → worth (λ j. b / 2 ^ j % 2) k ≡ b % 2 ^ k
unfolding tab sum
worth_bits b zero = sym (mod-one b)
worth_bits b (suc k) =
    worth_snoc (λ j. b / 2 ^ j % 2) k
    ∙ ap (λ (x : ℕ). x + b / 2 ^ k % 2 * 2 ^ k) (worth_bits b k)
    ∙ sym (ap (λ (x : ℕ). b % 2 ^ x) (sym (one-add k)) ∙ mod-pow-add b 1 k ∙ (omega arith))

pub worth_field : (b at w : ℕ) → worth (λ j. b / 2 ^ (at + j) % 2) w ≡ b / 2 ^ at % 2 ^ w
worth_field b at w =
    worth_ext (λ j. b / 2 ^ (at + j) % 2) (λ j. b / 2 ^ at / 2 ^ j % 2) w (λ j l. ap (λ (x : ℕ). x % 2) (sym (shr-shr b at j)))
    ∙ worth_bits (b / 2 ^ at) w

-- ---- a byte whose bits lo .. lo + w are the lowest w of x

abbrev pub blended : ℕ → ℕ → ℕ → ℕ → ℕ
blended old x lo w = old % 2 ^ lo + 2 ^ lo * (x % 2 ^ w) + 2 ^ (lo + w) * (old / 2 ^ (lo + w))

pub worth_blended : (f : ℕ → ℕ) (old x lo w : ℕ) → old < 256 → lo + w ≤ 8
    → ((j : ℕ) → j < lo → f j ≡ old / 2 ^ j % 2)
    → ((j : ℕ) → j < w → f (lo + j) ≡ x / 2 ^ j % 2)
    → ((j : ℕ) → lo + w ≤ j → j < 8 → f j ≡ old / 2 ^ j % 2)
    → worth f 8 ≡ blended old x lo w
worth_blended f old x lo w b l low mid high =
    let k : ℕ = 8 - (lo + w) in
    let e : worth f 8 ≡ worth f (lo + w + k) = ap (worth f) (omega arith) in
    let top : worth (λ j. f (lo + w + j)) k ≡ old / 2 ^ (lo + w) =
    worth_ext (λ j. f (lo + w + j)) (λ j. old / 2 ^ (lo + w + j) % 2) k (λ j m. high (lo + w + j) (omega arith) (omega arith))
    ∙ worth_field old (lo + w) k
    ∙ mod-eq_of_lt (shr_lt k (lo + w) (rw eight b)) in
    e ∙ worth_add f (lo + w) k
    ∙ rw (
      worth_add f lo w,
      top,
      worth_ext f (λ j. old / 2 ^ j % 2) lo low,
      worth_bits old lo,
      worth_ext (λ j. f (lo + j)) (λ j. x / 2 ^ j % 2) w mid,
      worth_bits x w,
    )
  where
    eight : 2 ^ (8 - (lo + w) + (lo + w)) ≡ 256
    eight = let e : 8 - (lo + w) + (lo + w) ≡ 8 = omega arith in ap (λ (x : ℕ). 2 ^ x) e
