-- Bits packed into bytes, lowest first: the bytes, each bit of them, and the spare bits.
use Rattle.std.specs.Prelude.{◌≡◌, refl, ℕ, zero, suc, ◌+◌, ◌*◌, ◌-◌, ◌/◌, ◌%◌, ◌^◌, ◌≤◌, ◌<◌, ◌∷◌}
use Rattle.std.proofs.Common.{sym, ap, ◌∙◌, add-zero, zero-add, zero-mul, one-mul, add-one, arith, get_or-drop}
use Rattle.std.proofs.Math.Nat.{two-pow-succ, div-add-mod}
use Rattle.std.proofs.Math.ListN.{get_or-eq_default}
use Rattle.std.proofs.Math.Seq.{take-length}
use Rattle.definition.specs.Prelude.{Bool, true, List, [], length, get_or, drop, ltb, eqb}
use Rattle.definition.specs.Basics.{sum, all, tab}
use Rattle.definition.specs.Image.{bytes_for, bits_at}
use Rattle.definition.specs.Tree.{byte_of, packed}
use Rattle.prepared.specs.Statement.{Bytes}
use Rattle.laws.specs.Tests.{leb_iff, eqb_iff, tested}
use Rattle.laws.specs.Lists.{length_tab, get_or_tab, tab_ext, tab_get_or, all_get_d, all_by, sum_tab_add, sum_tab_zero}
use Rattle.prepared.specs.Bytes.{Holds, holds_get_or}

-- a list of bits
abbrev pub Bits : List ℕ → Type 0
Bits bits = all (λ b. ltb b 2) bits ≡ true

pub bit_bound : (bits : List ℕ) (i : ℕ) → Bits bits → get_or bits i 0 < 2
unfolding all
bit_bound [] i h = omega arith
bit_bound (b ∷ bits) zero h = (simp tested at h).0
bit_bound (b ∷ bits) (suc i) h = bit_bound bits i (simp tested at h).1

-- ---- the number of the bits f 0, f 1, ..

abbrev pub worth : (ℕ → ℕ) → ℕ → ℕ
worth f n = sum (tab (λ j. f j * 2 ^ j) 0 n)

pub worth_bound : (f : ℕ → ℕ) → ((j : ℕ) → f j < 2) → (n : ℕ) → worth f n < 2 ^ n
unfolding tab sum
worth_bound f h zero = omega arith
worth_bound f h (suc n) =
    let e : worth f (suc n) ≡ worth f n + (f n * 2 ^ n + 0) =
    ap (worth f) (sym (add-one n)) ∙ sum_tab_add (λ j. f j * 2 ^ j) 0 n 1 ∙ rw zero-add in
    rw (e, two-pow-succ) (go (f n) (worth f n) (2 ^ n) (h n) (worth_bound f h n))
  where
    go : (b w p : ℕ) → b < 2 → w < p → w + (b * p + 0) < p + p
    go zero w p l m = rw zero-mul (omega arith)
    go (suc zero) w p l m = rw one-mul (omega arith)
    go (suc (suc b)) w p l m = absurd (omega arith)

-- bits that are 0 from place k on
pub worth_below : (f : ℕ → ℕ) → ((j : ℕ) → f j < 2) → (k n : ℕ) → ((j : ℕ) → k ≤ j → f j ≡ 0) → k ≤ n → worth f n < 2 ^ k
worth_below f h k n z l =
    let e : worth f n ≡ worth f k + sum (tab (λ j. f j * 2 ^ j) (0 + k) (n - k)) =
    ap (worth f) (omega arith) ∙ sum_tab_add (λ j. f j * 2 ^ j) 0 k (n - k) in
    rw (e, sum_tab_zero (λ j. f j * 2 ^ j) (0 + k) (n - k) (λ i b. rw (z i (omega arith)) (zero-mul (2 ^ i))), add-zero) (worth_bound f h k)

-- each bit of a byte
pub bit_of_byte : (f : ℕ → ℕ) → ((j : ℕ) → f j < 2) → (j : ℕ) → j < 8 → worth f 8 / 2 ^ j % 2 ≡ f j
unfolding tab sum
bit_of_byte f h j l = go j l
  where
    x : ℕ
    x = worth f 8

    all8 : (x / 1 % 2 ≡ f 0) × (x / 2 % 2 ≡ f 1) × (x / 4 % 2 ≡ f 2) × (x / 8 % 2 ≡ f 3) × (x / 16 % 2 ≡ f 4) × (x / 32 % 2 ≡ f 5) × (x / 64 % 2 ≡ f 6) × (x / 128 % 2 ≡ f 7)
    all8 = omega (arith, h 0, h 1, h 2, h 3, h 4, h 5, h 6, h 7)

    go : (j : ℕ) → j < 8 → worth f 8 / 2 ^ j % 2 ≡ f j
    go zero l = all8.0
    go (suc zero) l = all8.1
    go (suc (suc zero)) l = all8.2
    go (suc (suc (suc zero))) l = all8.3
    go (suc (suc (suc (suc zero)))) l = all8.4
    go (suc (suc (suc (suc (suc zero))))) l = all8.5
    go (suc (suc (suc (suc (suc (suc zero)))))) l = all8.6
    go (suc (suc (suc (suc (suc (suc (suc zero))))))) l = all8.7
    go (suc (suc (suc (suc (suc (suc (suc (suc j)))))))) l = absurd (omega arith)

-- a byte is the number of its bits: one computed test of all bytes
pub byte_of_bits : (b : ℕ) → b < 256 → worth (λ j. b / 2 ^ j % 2) 8 ≡ b
unfolding tab sum all
byte_of_bits b l =
    let test : ℕ → Bool = λ b. eqb (worth (λ j. b / 2 ^ j % 2) 8) b in
    let passed : all test (tab (λ b. b) 0 256) ≡ true = refl in
    let e : get_or (tab (λ b. b) 0 256) b 0 ≡ b = get_or_tab (λ b. b) 0 256 b 0 l ∙ zero-add b in
    (eqb_iff (worth (λ j. b / 2 ^ j % 2) 8) b).0 (rw e at (all_get_d test (tab (λ b. b) 0 256) b 0 passed l))

-- ---- the packed bits

pub length_packed : (bits : List ℕ) → length (packed bits) ≡ bytes_for (length bits)
unfolding packed
length_packed bits = length_tab (byte_of bits) 0 (bytes_for (length bits))

pub packed_byte : (bits : List ℕ) (q : ℕ) → q < bytes_for (length bits) → get_or (packed bits) q 0 ≡ byte_of bits q
unfolding packed
packed_byte bits q h = get_or_tab (byte_of bits) 0 (bytes_for (length bits)) q 0 h ∙ ap (byte_of bits) (zero-add q)

pub packed_bytes : (bits : List ℕ) → Bits bits → Bytes (packed bits)
packed_bytes bits h = all_by (λ b. ltb b 256) (packed bits) 0 λ q l.
    let l' : q < bytes_for (length bits) = rw (← length_packed bits) l in
    rw (packed_byte bits q l')
    ((leb_iff (suc (byte_of bits q)) 256).1 (worth_bound (λ j. get_or bits (8 * q + j) 0) (λ j. bit_bound bits (8 * q + j) h) 8))

pub packed_bit : (bits : List ℕ) (i : ℕ) → Bits bits → i < length bits → get_or (packed bits) (i / 8) 0 / 2 ^ (i % 8) % 2 ≡ get_or bits i 0
packed_bit bits i h l =
    let l' : i / 8 < bytes_for (length bits) = omega arith in
    rw (packed_byte bits (i / 8) l')
    (bit_of_byte (λ j. get_or bits (8 * (i / 8) + j) 0) (λ j. bit_bound bits (8 * (i / 8) + j) h) (i % 8) (omega arith)
    ∙ ap (λ (k : ℕ). get_or bits k 0) (div-add-mod i 8))

-- "spare high bits zero"
pub packed_spare : (bits : List ℕ) → Bits bits → 0 < length bits % 8 → get_or (packed bits) (length bits / 8) 0 < 2 ^ (length bits % 8)
packed_spare bits h l =
    let q : ℕ = length bits / 8 in
    rw (packed_byte bits q (omega arith))
    (worth_below (λ j. get_or bits (8 * q + j) 0) (λ j. bit_bound bits (8 * q + j) h) (length bits % 8) 8
    (λ j b. get_or-eq_default bits 0 (omega arith)) (omega arith))

pub bits_at_holds : (s : List ℕ) (at : ℕ) (bits : List ℕ) → Bits bits → Holds s at (packed bits) → bits_at s at (length bits) ≡ bits
bits_at_holds s at bits h p =
    tab_ext (λ i. get_or (drop at s) (i / 8) 0 / 2 ^ (i % 8) % 2) (λ i. get_or bits i 0) 0 (length bits)
    (λ i a b.
    let l : i < length bits = omega arith in
    rw (get_or-drop at s (i / 8) 0, holds_get_or s at (packed bits) (i / 8) 0 p (rw length_packed (omega arith))) (packed_bit bits i h l))
    ∙ tab_get_or bits 0 0 (length bits) (omega arith)
    ∙ take-length bits
