-- Rows of bits written one after another into a region of zeros: the region holds the packed bits of all of them, the rest 0.
use Rattle.std.specs.Prelude.{◌≡◌, ℕ, zero, suc, ◌+◌, ◌-◌, ◌*◌, ◌/◌, ◌%◌, ◌^◌, ◌<◌, ◌≤◌, ◌⊎◌, replicate, refl, ◌∷◌, ◌++◌}
use Rattle.std.proofs.Common.{sym, ap, ◌∙◌, ⊎_elim, zero-add, zero-mul, arith, length-append, get_or-append-add, get_or-drop, lt-ltb, ltb-true, ltb-false}
use Rattle.std.proofs.Math.ListN.{get_or-eq_default, get_or-append}
use Rattle.std.proofs.lemmas.List.Edits.{sets}
use Rattle.std.proofs.Math.Seq.{length-sets}
use Rattle.definition.specs.Prelude.{List, [], length, get_or, drop, ltb}
use Rattle.definition.specs.Basics.{all, tab}
use Rattle.definition.specs.Image.{padded, bytes_at, bytes_for, bits_at}
use Rattle.definition.specs.Tree.{byte_of, packed}
use Rattle.laws.specs.Tests.{by_test, and_iff}
use Rattle.laws.specs.Lists.{length_tab, get_or_tab, tab_shift, all_append, all_tab, sum_tab_zero}
use Rattle.prepared.specs.Bits.{Bits, bit_bound, worth_bound, bit_of_byte}
use Rattle.stages.specs.answer.literal_bits.Put.{bit_of, bits_from, bit_after, with_bits}
use Rattle.stages.specs.answer.literal_bits.Places.{Small, bit_of_bound, after_cases, by_bits}
use Rattle.stages.specs.answer.literal_bits.Runs.{get_or_sets_in, get_or_sets_other, sets_same}

-- the bits of a slice, as the image has a literal's; they are bits
pub bits_from_bits_at : (s : List ℕ) (at w : ℕ) → bits_from s (8 * at) w ≡ bits_at s at w
bits_from_bits_at s at w =
    tab_shift (bit_of s) (λ i. get_or (drop at s) (i / 8) 0 / 2 ^ (i % 8) % 2) (8 * at) 0 w λ i l.
    let p : (8 * at + i) / 8 ≡ at + (0 + i) / 8 = omega arith in
    let q : (8 * at + i) % 8 ≡ (0 + i) % 8 = omega arith in
    rw (p, q, get_or-drop at s ((0 + i) / 8) 0)

pub bits_from_lem : (s : List ℕ) (from n : ℕ) → Bits (bits_from s from n)
bits_from_lem s from n = all_tab (λ b. ltb b 2) (bit_of s) (λ i. lt-ltb (bit_of s i) 2 (bit_of_bound s i)) from n

pub bits_append : (a b : List ℕ) → Bits a → Bits b → Bits (a ++ b)
bits_append a b p q =
    all_append (λ x. ltb x 2) a b ∙ (and_iff (all (λ x. ltb x 2) a) (all (λ x. ltb x 2) b)).1 (p, q)

-- ---- a region: packed bits, filled up with zeros

padded_tab : (f : ℕ → ℕ) (from k m : ℕ) → k ≤ m → ((i : ℕ) → from + k ≤ i → f i ≡ 0) → padded m (tab f from k) ≡ tab f from m
unfolding padded tab
padded_tab f from zero zero h z = refl
padded_tab f from zero (suc m) h z =
    let a : 0 ≡ f from = sym (z from (omega arith)) in
    let b : padded m [] ≡ tab f (suc from) m = padded_tab f (suc from) zero m (omega arith) (λ i l. z i (omega arith)) in
    cc
padded_tab f from (suc k) zero h z = absurd (omega arith)
padded_tab f from (suc k) (suc m) h z =
    ap (λ (r : List ℕ). f from ∷ r) (padded_tab f (suc from) k m (omega arith) (λ i l. z i (omega arith)))

byte_of_spare : (bits : List ℕ) (q : ℕ) → length bits ≤ 8 * q → byte_of bits q ≡ 0
byte_of_spare bits q h =
    sum_tab_zero (λ j. get_or bits (8 * q + j) 0 * 2 ^ j) 0 8 λ j l.
    rw (get_or-eq_default bits 0 {n = 8 * q + j} (omega arith)) (zero-mul (2 ^ j))

pub region_bytes : (m : ℕ) (bits : List ℕ) → length bits ≤ 8 * m → padded m (packed bits) ≡ tab (byte_of bits) 0 m
unfolding packed
region_bytes m bits h =
    padded_tab (byte_of bits) 0 (bytes_for (length bits)) m (omega arith) (λ q l. byte_of_spare bits q (omega arith))

-- as it begins, and where it is as long as its bits want
pub region_empty : (m : ℕ) → padded m (packed []) ≡ replicate m 0
unfolding packed tab padded
region_empty m = go m
  where
    go : (m : ℕ) → padded m [] ≡ replicate m 0
    go zero = refl
    go (suc m) = ap (λ (r : List ℕ). 0 ∷ r) (go m)

pub region_full : (bits : List ℕ) → padded (bytes_for (length bits)) (packed bits) ≡ packed bits
unfolding packed
region_full bits = region_bytes (bytes_for (length bits)) bits (omega arith)

-- ---- a region in a list, bit by bit

module _ (l : List ℕ) (o m : ℕ) (fits : o + m ≤ length l) (bits : List ℕ) (b : Bits bits) where
  long : length (tab (byte_of bits) 0 m) ≡ m
  long = length_tab (byte_of bits) 0 m

  byte_in : (k : ℕ) → k < m → get_or (sets l o (tab (byte_of bits) 0 m)) (o + k) 0 ≡ byte_of bits k
  byte_in k h =
      get_or_sets_in l o (tab (byte_of bits) 0 m) k 0 (rw long fits) (rw long h)
      ∙ get_or_tab (byte_of bits) 0 m k 0 h
      ∙ ap (byte_of bits) (zero-add k)

  byte_out : (q : ℕ) → (q < o) ⊎ (o + m ≤ q) → get_or (sets l o (tab (byte_of bits) 0 m)) q 0 ≡ get_or l q 0
  byte_out q h = get_or_sets_other l o (tab (byte_of bits) 0 m) q 0 (rw long h)

  pub bit_in : (i : ℕ) → 8 * o ≤ i → i < 8 * (o + m) → bit_of (sets l o (tab (byte_of bits) 0 m)) i ≡ get_or bits (i - 8 * o) 0
  bit_in i p q =
      let k : ℕ = i / 8 - o in
      let at : i / 8 ≡ o + k = omega arith in
      let e : 8 * k + i % 8 ≡ i - 8 * o = omega arith in
      rw (at, byte_in k (omega arith))
      (bit_of_byte (λ j. get_or bits (8 * k + j) 0) (λ j. bit_bound bits (8 * k + j) b) (i % 8) (omega arith)
      ∙ ap (λ (x : ℕ). get_or bits x 0) e)

  pub bit_out : (i : ℕ) → (i < 8 * o) ⊎ (8 * (o + m) ≤ i) → bit_of (sets l o (tab (byte_of bits) 0 m)) i ≡ bit_of l i
  bit_out i h = rw (byte_out (i / 8) (⊎_elim (λ p. ◌⊎◌.inl (omega arith)) (λ p. ◌⊎◌.inr (omega arith)) h))

  pub small_region : Small l → Small (sets l o (tab (byte_of bits) 0 m))
  small_region s q =
      by_test (ltb q o)
      (λ t. let h = ltb-true q o t in rw (byte_out q (◌⊎◌.inl h)) (s q))
      (λ t. let h = ltb-false q o t in
      by_test (ltb q (o + m))
      (λ u. let g = ltb-true q (o + m) u in
      let k : ℕ = q - o in
      let e : q ≡ o + k = omega arith in
      rw (e, byte_in k (omega arith)) (worth_bound (λ j. get_or bits (8 * k + j) 0) (λ j. bit_bound bits (8 * k + j) b) 8))
      (λ u. rw (byte_out q (◌⊎◌.inr (ltb-false q (o + m) u))) (s q)))

-- ---- the next bits: written behind those that the region has, they are packed with them

module _ (o m : ℕ) (bits s : List ℕ) (from n : ℕ) (b : Bits bits) (room : length bits + n ≤ 8 * m) where
  longer : length (bits ++ bits_from s from n) ≡ length bits + n
  longer = length-append bits (bits_from s from n) ∙ ap (λ (k : ℕ). length bits + k) (length_tab (bit_of s) from n)

  pub bits_more : Bits (bits ++ bits_from s from n)
  bits_more = bits_append bits (bits_from s from n) b (bits_from_lem s from n)

  -- bit k of all the bits: an old one, a new one, and none
  old_bit : (k : ℕ) → k < length bits → get_or (bits ++ bits_from s from n) k 0 ≡ get_or bits k 0
  old_bit k h = get_or-append bits (bits_from s from n) 0 k h

  new_bit : (k : ℕ) → k < n → get_or (bits ++ bits_from s from n) (length bits + k) 0 ≡ bit_of s (from + k)
  new_bit k h = get_or-append-add bits (bits_from s from n) k 0 ∙ get_or_tab (bit_of s) from n k 0 h

  no_bit : (k : ℕ) → length bits + n ≤ k → get_or (bits ++ bits_from s from n) k 0 ≡ get_or bits k 0
  no_bit k h =
      get_or-eq_default (bits ++ bits_from s from n) 0 (rw longer h) ∙ sym (get_or-eq_default bits 0 (omega arith))

  more : (l : List ℕ) → Small l → o + m ≤ length l
      → with_bits (sets l o (padded m (packed bits))) (8 * o + length bits) s from n
      ≡ sets l o (padded m (packed (bits ++ bits_from s from n)))
  more l small fits =
      let all = bits ++ bits_from s from n in
      rw (region_bytes m bits (omega arith), region_bytes m all (rw longer room))
      (by_bits (sets l o (tab (byte_of bits) 0 m)) (8 * o + length bits) s from n (sets l o (tab (byte_of all) 0 m))
      (small_region l o m fits all bits_more small)
      (length-sets l o (tab (byte_of all) 0 m) ∙ sym (length-sets l o (tab (byte_of bits) 0 m)))
      (λ i h. each l fits i))
    where
      each : (l : List ℕ) → o + m ≤ length l → (i : ℕ)
          → bit_after (sets l o (tab (byte_of bits) 0 m)) (8 * o + length bits) s from n i
          ≡ bit_of (sets l o (tab (byte_of (bits ++ bits_from s from n)) 0 m)) i
      each l fits i =
          let all = bits ++ bits_from s from n in
          let at : ℕ = 8 * o + length bits in
          let old = sets l o (tab (byte_of bits) 0 m) in
          let new = sets l o (tab (byte_of all) 0 m) in
          let k : ℕ = i - 8 * o in
          after_cases old at s from n (λ x. x ≡ bit_of new i) i
          (λ p q.
          let e : length bits + (i - at) ≡ k = omega arith in
          sym (bit_in l o m fits all bits_more i (omega arith) (omega arith)
          ∙ ap (λ (x : ℕ). get_or all x 0) (sym e) ∙ new_bit (i - at) (omega arith)))
          (λ p. by_test (ltb i (8 * o))
          (λ t. let h = ltb-true i (8 * o) t in
          bit_out l o m fits bits b i (◌⊎◌.inl h) ∙ sym (bit_out l o m fits all bits_more i (◌⊎◌.inl h)))
          (λ t. let h = ltb-false i (8 * o) t in
          bit_in l o m fits bits b i h (omega arith) ∙ sym (bit_in l o m fits all bits_more i h (omega arith) ∙ old_bit k (omega arith))))
          (λ p. by_test (ltb i (8 * (o + m)))
          (λ t. let h = ltb-true i (8 * (o + m)) t in
          bit_in l o m fits bits b i (omega arith) h ∙ sym (bit_in l o m fits all bits_more i (omega arith) h ∙ no_bit k (omega arith)))
          (λ t. let h = ltb-false i (8 * (o + m)) t in
          bit_out l o m fits bits b i (◌⊎◌.inr h) ∙ sym (bit_out l o m fits all bits_more i (◌⊎◌.inr h))))

pub packed_more : (l : List ℕ) (o m : ℕ) (bits s : List ℕ) (from n : ℕ) → Small l → Bits bits → o + m ≤ length l → length bits + n ≤ 8 * m
    → with_bits (sets l o (padded m (packed bits))) (8 * o + length bits) s from n
    ≡ sets l o (padded m (packed (bits ++ bits_from s from n)))
packed_more l o m bits s from n small b fits room = more o m bits s from n b room l small fits

-- the same of a list that is known to hold the region
pub held_more : (d : List ℕ) (o m : ℕ) (bits s : List ℕ) (from n : ℕ) → Small d → Bits bits → o + m ≤ length d → length bits + n ≤ 8 * m
    → bytes_at d o m ≡ padded m (packed bits)
    → with_bits d (8 * o + length bits) s from n ≡ sets d o (padded m (packed (bits ++ bits_from s from n)))
held_more d o m bits s from n small b fits room h =
    ap (λ (d : List ℕ). with_bits d (8 * o + length bits) s from n) (sym (sets_same d o m fits) ∙ ap (sets d o) h)
    ∙ packed_more d o m bits s from n small b fits room
