-- A literal's bits, packed again, are its bytes, since its spare bits are zero.
use Rattle.std.specs.Prelude.{◌≡◌, ◌≤◌, ◌<◌, ◌+◌, ◌*◌, ◌/◌, ◌%◌, ◌^◌}
use Rattle.std.proofs.Common.{sym, ◌∙◌, lt_of_lt_of_le, arith, get_or-drop, ltb-false}
use Rattle.std.proofs.Math.Path.{ap}
use Rattle.std.proofs.Math.Nat.{zero-add, div-eq_of_lt, pow-le-pow_right}
use Rattle.std.proofs.Math.ListN.{get_or-eq_default}
use Rattle.definition.specs.Prelude.{ℕ, suc, List, length, get_or, drop, ltb}
use Rattle.definition.specs.Basics.{sum}
use Rattle.definition.specs.Image.{bytes_for, bits_at}
use Rattle.definition.specs.Tree.{byte_of, packed}
use Rattle.prepared.specs.Statement.{Bytes}
use Rattle.laws.specs.Tests.{by_test, leb_iff}
use Rattle.laws.specs.Lists.{length_tab, get_or_tab, tab_shift, tab_ext, tab_get_or}
use Rattle.prepared.specs.Bytes.{byte_at}
use Rattle.prepared.specs.Bits.{Bits, byte_of_bits}
use Rattle.laws.specs.Lists.{all_tab}
use Rattle.prepared.specs.back.Cuts.{cut}

-- a bit above all bits of a number
high_bit : (b k j : ℕ) → b < 2 ^ k → k ≤ j → b / 2 ^ j % 2 ≡ 0
high_bit b k j h l = rw (div-eq_of_lt (lt_of_lt_of_le h (pow-le-pow_right {n = 2} (omega arith) l)))

module _ (s : List ℕ) (at w : ℕ) (bytes : Bytes s) (fits : at + bytes_for w ≤ length s)
    (spare : 0 < w % 8 → get_or s (at + w / 8) 0 < 2 ^ (w % 8)) where
  pub bits_length : length (bits_at s at w) ≡ w
  bits_length = length_tab _ 0 w

  -- each bit of byte q, spare ones too
  bit_right : (q j : ℕ) → q < bytes_for w → j < 8 → get_or (bits_at s at w) (8 * q + j) 0 ≡ get_or s (at + q) 0 / 2 ^ j % 2
  bit_right q j h l = by_test (ltb (8 * q + j) w) (λ t. inside ((leb_iff (suc (8 * q + j)) w).0 t)) (λ t. outside (ltb-false (8 * q + j) w t))
    where
      inside : 8 * q + j < w → get_or (bits_at s at w) (8 * q + j) 0 ≡ get_or s (at + q) 0 / 2 ^ j % 2
      inside b =
          let e : (8 * q + j) / 8 ≡ q = omega arith in
          let r : (8 * q + j) % 8 ≡ j = omega arith in
          get_or_tab (λ i. get_or (drop at s) (i / 8) 0 / 2 ^ (i % 8) % 2) 0 w (8 * q + j) 0 b ∙ rw (zero-add, e, r, get_or-drop)

      outside : w ≤ 8 * q + j → get_or (bits_at s at w) (8 * q + j) 0 ≡ get_or s (at + q) 0 / 2 ^ j % 2
      outside b =
          let e : q ≡ w / 8 = omega arith in
          get_or-eq_default (bits_at s at w) 0 (rw bits_length b)
          ∙ sym (rw e (high_bit (get_or s (at + w / 8) 0) (w % 8) j (spare (omega arith)) (omega arith)))

  pub packed_bits_at : packed (bits_at s at w) ≡ cut s at (bytes_for w)
  unfolding packed
  packed_bits_at =
      rw bits_length (tab_shift (byte_of (bits_at s at w)) (λ i. get_or s i 0) 0 at (bytes_for w) (λ q h. rw zero-add (byte_right_lem q h)))
      ∙ tab_get_or s 0 at (bytes_for w) fits
    where
      byte_right_lem : (q : ℕ) → q < bytes_for w → byte_of (bits_at s at w) q ≡ get_or s (at + q) 0
      byte_right_lem q h =
          let b : ℕ = get_or s (at + q) 0 in
          ap sum
          (tab_ext (λ j. get_or (bits_at s at w) (8 * q + j) 0 * 2 ^ j) (λ j. b / 2 ^ j % 2 * 2 ^ j) 0 8 (λ j _ l. rw (bit_right q j h (omega arith))))
          ∙ byte_of_bits b (byte_at s (at + q) bytes (omega arith))

pub bits_at_bits : (s : List ℕ) (at w : ℕ) → Bits (bits_at s at w)
bits_at_bits s at w =
    all_tab (λ b. ltb b 2) _ (λ i. (leb_iff (suc (get_or (drop at s) (i / 8) 0 / 2 ^ (i % 8) % 2)) 2).1 (omega arith)) 0 w
