-- Bits written into a list of bytes: the list bit by bit, nothing written, one write after another, and a write inside one byte.
use Rattle.std.specs.Prelude.{◌≡◌, ℕ, zero, suc, ◌+◌, ◌-◌, ◌*◌, ◌/◌, ◌%◌, ◌^◌, ◌<◌, ◌≤◌, ◌≢◌, slice_set, refl, ◌&&◌}
use Rattle.std.proofs.Common.{sym, ◌∙◌, zero-add, arith, length-set, ext_get_or, get_or-set_same, get_or-set_other, shr-shr, le-leb, lt-ltb, le-ltb, ltb-true, ltb-false, leb-true, leb-false}
use Rattle.std.proofs.Math.Path.{ap}
use Rattle.std.proofs.Math.ListN.{get_or-eq_default}
use Rattle.std.proofs.lemmas.Bool.{lt-leb}
use Rattle.definition.specs.Prelude.{Bool, true, false, List, length, get_or, leb, ltb, eqb}
use Rattle.laws.specs.Tests.{by_test, eqb_iff, eqb_apart}
use Rattle.laws.specs.Lists.{length_tab, get_or_tab}
use Rattle.prepared.specs.Bits.{worth, worth_bound, bit_of_byte, byte_of_bits}
use Rattle.stages.specs.answer.literal_bits.Put.{bit_of, bit_after, with_bits, put_bits}
use Rattle.stages.specs.answer.literal_bits.Worth.{worth_ext, blended, worth_blended}

-- a list of bytes, as a function knows its slices
abbrev pub Small : List ℕ → Type 0
Small l = (q : ℕ) → get_or l q 0 < 256

and_false : (t : Bool) → (t && false) ≡ false
and_false true = refl
and_false false = refl

-- ---- one bit

pub bit_of_at : (s : List ℕ) (q j : ℕ) → j < 8 → bit_of s (8 * q + j) ≡ get_or s q 0 / 2 ^ j % 2
bit_of_at s q j l =
    let a : (8 * q + j) / 8 ≡ q = omega arith in
    let b : (8 * q + j) % 8 ≡ j = omega arith in
    rw (a, b)

pub bit_of_bound : (s : List ℕ) (i : ℕ) → bit_of s i < 2
bit_of_bound s i = omega arith

module _ (d : List ℕ) (at : ℕ) (s : List ℕ) (from n : ℕ) where
  pub after_in : (i : ℕ) → at ≤ i → i < at + n → bit_after d at s from n i ≡ bit_of s (from + (i - at))
  after_in i a b = rw (le-leb at i a, lt-ltb i (at + n) b)

  pub after_low : (i : ℕ) → i < at → bit_after d at s from n i ≡ bit_of d i
  after_low i a = rw (lt-leb at i a)

  pub after_high : (i : ℕ) → at + n ≤ i → bit_after d at s from n i ≡ bit_of d i
  after_high i b = rw (le-ltb i (at + n) b, and_false (leb at i))

  -- a fact of bit i, from what it is where it is written and where it is not
  pub after_cases : (P : ℕ → Type 0) (i : ℕ) → (at ≤ i → i < at + n → P (bit_of s (from + (i - at))))
      → (i < at → P (bit_of d i)) → (at + n ≤ i → P (bit_of d i)) → P (bit_after d at s from n i)
  after_cases P i f g h =
      by_test (leb at i)
      (λ t. by_test (ltb i (at + n))
      (λ u. rw (after_in i (leb-true at i t) (ltb-true i (at + n) u)) (f (leb-true at i t) (ltb-true i (at + n) u)))
      (λ u. rw (after_high i (ltb-false i (at + n) u)) (h (ltb-false i (at + n) u))))
      (λ t. rw (after_low i (leb-false at i t)) (g (leb-false at i t)))

  pub after_bound : (i : ℕ) → bit_after d at s from n i < 2
  after_bound i = after_cases (λ x. x < 2) i (λ a b. omega arith) (λ a. omega arith) (λ a. omega arith)

  -- ---- the list

  pub length_with_bits : length (with_bits d at s from n) ≡ length d
  unfolding with_bits
  length_with_bits = length_tab (λ q. worth (λ j. bit_after d at s from n (8 * q + j)) 8) 0 (length d)

  pub byte_with_bits : (q : ℕ) → q < length d → get_or (with_bits d at s from n) q 0 ≡ worth (λ j. bit_after d at s from n (8 * q + j)) 8
  unfolding with_bits
  byte_with_bits q l =
      get_or_tab (λ q. worth (λ j. bit_after d at s from n (8 * q + j)) 8) 0 (length d) q 0 l
      ∙ ap (λ (q : ℕ). worth (λ j. bit_after d at s from n (8 * q + j)) 8) (zero-add q)

  pub small_with_bits : Small (with_bits d at s from n)
  small_with_bits q =
      by_test (ltb q (length d))
      (λ t. rw (byte_with_bits q (ltb-true q (length d) t))
      (worth_bound (λ j. bit_after d at s from n (8 * q + j)) (λ j. after_bound (8 * q + j)) 8))
      (λ t. let h = ltb-false q (length d) t in
      let e : get_or (with_bits d at s from n) q 0 ≡ 0 = get_or-eq_default (with_bits d at s from n) 0 (rw length_with_bits h) in
      omega arith)

  pub bit_with_bits : (i : ℕ) → i / 8 < length d → bit_of (with_bits d at s from n) i ≡ bit_after d at s from n i
  bit_with_bits i l =
      let e : 8 * (i / 8) + i % 8 ≡ i = omega arith in
      rw (byte_with_bits (i / 8) l)
      (bit_of_byte (λ j. bit_after d at s from n (8 * (i / 8) + j)) (λ j. after_bound (8 * (i / 8) + j)) (i % 8) (omega arith)
      ∙ ap (bit_after d at s from n) e)

  -- the list is known by its bits
  pub by_bits : (l : List ℕ) → Small l → length l ≡ length d
      → ((i : ℕ) → i / 8 < length d → bit_after d at s from n i ≡ bit_of l i) → with_bits d at s from n ≡ l
  by_bits l b e h =
      ext_get_or 0 (with_bits d at s from n) l (length_with_bits ∙ sym e) λ q k.
      let m : q < length d = rw length_with_bits at k in
      byte_with_bits q m
      ∙ worth_ext (λ j. bit_after d at s from n (8 * q + j)) (λ j. get_or l q 0 / 2 ^ j % 2) 8
      (λ j t. h (8 * q + j) (omega arith) ∙ bit_of_at l q j t)
      ∙ byte_of_bits (get_or l q 0) (b q)

  -- nothing is written past the end
  pub with_bits_past : Small d → length d ≤ at / 8 → with_bits d at s from n ≡ d
  with_bits_past b h = by_bits d b refl λ i l. after_low i (omega arith)

pub with_bits_none : (d : List ℕ) (at : ℕ) (s : List ℕ) (from : ℕ) → Small d → with_bits d at s from 0 ≡ d
with_bits_none d at s from b =
    by_bits d at s from 0 d b refl λ i l.
    after_cases d at s from 0 (λ x. x ≡ bit_of d i) i (λ a b. absurd (omega arith)) (λ a. refl) (λ a. refl)

-- one write after another
pub with_bits_more : (d : List ℕ) (at : ℕ) (s : List ℕ) (from n m : ℕ)
    → with_bits (with_bits d at s from n) (at + n) s (from + n) m ≡ with_bits d at s from (n + m)
with_bits_more d at s from n m =
    let d₁ = with_bits d at s from n in
    let d₂ = with_bits d at s from (n + m) in
    by_bits d₁ (at + n) s (from + n) m d₂ (small_with_bits d at s from (n + m))
    (length_with_bits d at s from (n + m) ∙ sym (length_with_bits d at s from n)) λ i l.
    let k : i / 8 < length d = rw (length_with_bits d at s from n) at l in
    let old : bit_of d₁ i ≡ bit_after d at s from n i = bit_with_bits d at s from n i k in
    let all : bit_of d₂ i ≡ bit_after d at s from (n + m) i = bit_with_bits d at s from (n + m) i k in
    after_cases d₁ (at + n) s (from + n) m (λ x. x ≡ bit_of d₂ i) i
    (λ a b.
    let e : from + n + (i - (at + n)) ≡ from + (i - at) = omega arith in
    ap (bit_of s) e ∙ sym (all ∙ after_in d at s from (n + m) i (omega arith) (omega arith)))
    (λ a. old ∙ by_test (leb at i)
    (λ t. let h = leb-true at i t in
    after_in d at s from n i h a ∙ sym (all ∙ after_in d at s from (n + m) i h (omega arith)))
    (λ t. let h = leb-false at i t in after_low d at s from n i h ∙ sym (all ∙ after_low d at s from (n + m) i h)))
    (λ a. old ∙ after_high d at s from n i (omega arith) ∙ sym (all ∙ after_high d at s from (n + m) i (omega arith)))

-- places of 64 bits, and others
module _ (d : List ℕ) (at : ℕ) (s : List ℕ) (from n : ℕ) where
  pub put_fits : at + n < 2 ^ 64 → from + n < 2 ^ 64 → put_bits d at s from n ≡ with_bits d at s from n
  put_fits a b = rw (lt-ltb (at + n) (2 ^ 64) a, lt-ltb (from + n) (2 ^ 64) b)

  pub put_over : 2 ^ 64 ≤ at + n → put_bits d at s from n ≡ d
  put_over a = rw (le-ltb (at + n) (2 ^ 64) a)

  pub put_over_from : 2 ^ 64 ≤ from + n → put_bits d at s from n ≡ d
  put_over_from a = rw (le-ltb (from + n) (2 ^ 64) a, and_false (ltb (at + n) (2 ^ 64)))

-- ---- bits of two bytes that stand side by side, and a write inside one byte

abbrev pub window : List ℕ → ℕ → ℕ
window s from = (get_or s (from / 8) 0 + 256 * get_or s (from / 8 + 1) 0) / 2 ^ (from % 8)

pair_bit : (a b k : ℕ) → a < 256 → k < 8 → ((a + 256 * b) / 2 ^ k % 2 ≡ a / 2 ^ k % 2) × ((a + 256 * b) / 2 ^ (8 + k) ≡ b / 2 ^ k)
pair_bit a b k h l =
    (go k l, sym (shr-shr (a + 256 * b) 8 k) ∙ ap (λ (x : ℕ). x / 2 ^ k) (omega arith))
  where
    go : (k : ℕ) → k < 8 → (a + 256 * b) / 2 ^ k % 2 ≡ a / 2 ^ k % 2
    go zero l = omega arith
    go (suc zero) l = omega arith
    go (suc (suc zero)) l = omega arith
    go (suc (suc (suc zero))) l = omega arith
    go (suc (suc (suc (suc zero)))) l = omega arith
    go (suc (suc (suc (suc (suc zero))))) l = omega arith
    go (suc (suc (suc (suc (suc (suc zero)))))) l = omega arith
    go (suc (suc (suc (suc (suc (suc (suc zero))))))) l = omega arith
    go (suc (suc (suc (suc (suc (suc (suc (suc k)))))))) l = absurd (omega arith)

pub window_bit : (s : List ℕ) → Small s → (from j : ℕ) → j < 8 → window s from / 2 ^ j % 2 ≡ bit_of s (from + j)
window_bit s b from j l =
    let r : ℕ = from % 8 in
    let x : ℕ = get_or s (from / 8) 0 + 256 * get_or s (from / 8 + 1) 0 in
    let at : x / 2 ^ r / 2 ^ j % 2 ≡ x / 2 ^ (r + j) % 2 = ap (λ (y : ℕ). y % 2) (shr-shr x r j) in
    at ∙ by_test (ltb (r + j) 8)
    (λ t. let h = ltb-true (r + j) 8 t in
    let p : (from + j) / 8 ≡ from / 8 = omega arith in
    let q : (from + j) % 8 ≡ r + j = omega arith in
    (pair_bit (get_or s (from / 8) 0) (get_or s (from / 8 + 1) 0) (r + j) (b (from / 8)) h).0 ∙ rw (p, q))
    (λ t. let h = ltb-false (r + j) 8 t in
    let p : (from + j) / 8 ≡ from / 8 + 1 = omega arith in
    let q : (from + j) % 8 ≡ r + j - 8 = omega arith in
    let e : r + j ≡ 8 + (r + j - 8) = omega arith in
    ap (λ (k : ℕ). x / 2 ^ k % 2) e
    ∙ ap (λ (y : ℕ). y % 2) (pair_bit (get_or s (from / 8) 0) (get_or s (from / 8 + 1) 0) (r + j - 8) (b (from / 8)) (omega arith)).1
    ∙ rw (p, q))

module _ (d : List ℕ) (at : ℕ) (s : List ℕ) (from w : ℕ) (bd : Small d) (bs : Small s) (inside : at % 8 + w ≤ 8) where
  pub blended_byte : worth (λ j. bit_after d at s from w (8 * (at / 8) + j)) 8 ≡ blended (get_or d (at / 8) 0) (window s from) (at % 8) w
  blended_byte =
      worth_blended (λ j. bit_after d at s from w (8 * (at / 8) + j)) (get_or d (at / 8) 0) (window s from) (at % 8) w (bd (at / 8)) inside
      (λ j l. after_low d at s from w (8 * (at / 8) + j) (omega arith) ∙ bit_of_at d (at / 8) j (omega arith))
      (λ j l.
      let i : ℕ = 8 * (at / 8) + (at % 8 + j) in
      let e : from + (i - at) ≡ from + j = omega arith in
      after_in d at s from w i (omega arith) (omega arith) ∙ ap (bit_of s) e ∙ sym (window_bit s bs from j (omega arith)))
      (λ j l m. after_high d at s from w (8 * (at / 8) + j) (omega arith) ∙ bit_of_at d (at / 8) j m)

  pub blended_bound : blended (get_or d (at / 8) 0) (window s from) (at % 8) w < 256
  blended_bound =
      rw (sym blended_byte)
      (worth_bound (λ j. bit_after d at s from w (8 * (at / 8) + j)) (λ j. after_bound d at s from w (8 * (at / 8) + j)) 8)

  pub with_bits_byte : at / 8 < length d
      → with_bits d at s from w ≡ slice_set d (at / 8) (blended (get_or d (at / 8) 0) (window s from) (at % 8) w)
  with_bits_byte l =
      let v : ℕ = blended (get_or d (at / 8) 0) (window s from) (at % 8) w in
      ext_get_or 0 (with_bits d at s from w) (slice_set d (at / 8) v) (length_with_bits d at s from w ∙ sym (length-set d (at / 8) v)) λ q k.
      let m : q < length d = rw length_with_bits at k in
      byte_with_bits d at s from w q m
      ∙ by_test (eqb q (at / 8))
      (λ t. let e : q ≡ at / 8 = (eqb_iff q (at / 8)).0 t in
      rw e (blended_byte ∙ sym (get_or-set_same d (at / 8) v 0 l)))
      (λ t. let n : q ≢ at / 8 = eqb_apart q (at / 8) t in
      worth_ext (λ j. bit_after d at s from w (8 * q + j)) (λ j. get_or d q 0 / 2 ^ j % 2) 8 (λ j u. other q j n u ∙ bit_of_at d q j u)
      ∙ byte_of_bits (get_or d q 0) (bd q)
      ∙ sym (get_or-set_other d (at / 8) q v 0 n))
    where
      other : (q j : ℕ) → q ≢ at / 8 → j < 8 → bit_after d at s from w (8 * q + j) ≡ bit_of d (8 * q + j)
      other q j n u =
          by_test (ltb q (at / 8))
          (λ t. let h = ltb-true q (at / 8) t in after_low d at s from w (8 * q + j) (omega arith))
          (λ t. let h = ltb-false q (at / 8) t in after_high d at s from w (8 * q + j) (omega arith))

-- ---- a whole byte, and one byte more of a row of them

pub with_bits_whole : (d : List ℕ) (q : ℕ) (s : List ℕ) (from : ℕ) → Small d → Small s → q < length d
    → with_bits d (8 * q) s from 8 ≡ slice_set d q (window s from % 256)
with_bits_whole d q s from bd bs l =
    let e : 8 * q / 8 ≡ q = omega arith in
    let z : 8 * q % 8 ≡ 0 = omega arith in
    let b : get_or d q 0 < 256 = bd q in
    let v : blended (get_or d q 0) (window s from) 0 8 ≡ window s from % 256 = omega arith in
    rw (e, z, v) at (with_bits_byte d (8 * q) s from 8 bd bs (omega arith) (omega arith))

pub whole_more : (d s : List ℕ) (q from i v : ℕ) → Small s → q + i < length d
    → v ≡ (get_or s (from / 8 + i) 0 + 256 * get_or s (from / 8 + i + 1) 0) / 2 ^ (from % 8) % 256
    → slice_set (with_bits d (8 * q) s from (8 * i)) (q + i) v ≡ with_bits d (8 * q) s from (8 * (i + 1))
whole_more d s q from i v bs l h =
    let d₁ = with_bits d (8 * q) s from (8 * i) in
    let a : (from + 8 * i) / 8 ≡ from / 8 + i = omega arith in
    let b : (from + 8 * i) % 8 ≡ from % 8 = omega arith in
    let e : v ≡ window s (from + 8 * i) % 256 = rw (a, b) h in
    let x : 8 * (q + i) ≡ 8 * q + 8 * i = omega arith in
    let y : 8 * i + 8 ≡ 8 * (i + 1) = omega arith in
    ap (slice_set d₁ (q + i)) e
    ∙ sym (with_bits_whole d₁ (q + i) s (from + 8 * i) (small_with_bits d (8 * q) s from (8 * i)) bs (rw length_with_bits l))
    ∙ ap (λ (k : ℕ). with_bits d₁ k s (from + 8 * i) 8) x
    ∙ with_bits_more d (8 * q) s from (8 * i) 8
    ∙ ap (with_bits d (8 * q) s from) y
