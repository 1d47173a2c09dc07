-- What stands at a place of a byte string, and the numbers read and written there.
use Rattle.std.specs.Prelude.{◌≡◌, refl, ℕ, suc, ◌+◌, ◌*◌, ◌/◌, ◌%◌, ◌^◌, ◌≤◌, ◌<◌, ◌∷◌, ◌++◌}
use Rattle.std.proofs.Common.{sym, ap, ◌∙◌, add-zero, mod-eq_of_lt, arith, append_assoc, append-nil, get_or-drop, drop-drop}
use Rattle.std.proofs.Math.Nat.{div-div-eq-div-mul, mod-add-div, add-mul-mod_self_left}
use Rattle.std.proofs.Math.Numerals.{towards_suc}
use Rattle.std.proofs.Math.ListN.{get_or-append}
use Rattle.std.proofs.Math.Seq.{drop-append_seam}
use Rattle.definition.specs.Prelude.{List, [], length, get_or, take, drop, ltb}
use Rattle.definition.specs.Basics.{all, tab}
use Rattle.definition.specs.Image.{u32_at, padded, bytes_at}
use Rattle.definition.specs.Tree.{u32}
use Rattle.prepared.specs.Statement.{Bytes}
use Rattle.laws.specs.Tests.{leb_iff, tested}
use Rattle.laws.specs.Lists.{all_get_d, tab_get_or}

-- ---- what stands at place i of s: m, and then a rest

module _ {A : Type 0} where
  abbrev pub Holds : List A → ℕ → List A → Type 0
  Holds s i m = (rest : List A) × (drop i s ≡ m ++ rest)

  pub holds_whole : (s : List A) → Holds s 0 s
  holds_whole s = ([], sym (append-nil s))

  pub holds_seam : (a m b : List A) (i : ℕ) → length a ≡ i → Holds (a ++ (m ++ b)) i m
  holds_seam a m b i e = (b, rw (← e) (drop-append_seam a (m ++ b)))

  pub holds_left : (s : List A) (i : ℕ) (a b : List A) → Holds s i (a ++ b) → Holds s i a
  holds_left s i a b h = (b ++ h.0, h.1 ∙ append_assoc a b h.0)

  pub holds_right : (s : List A) (i : ℕ) (a b : List A) → Holds s i (a ++ b) → Holds s (i + length a) b
  holds_right s i a b h =
      (h.0, sym (drop-drop (length a) i s) ∙ ap (drop (length a)) (h.1 ∙ append_assoc a b h.0) ∙ drop-append_seam a (b ++ h.0))

  pub holds_get_or : (s : List A) (i : ℕ) (m : List A) (j : ℕ) (d : A) → Holds s i m → j < length m → get_or s (i + j) d ≡ get_or m j d
  holds_get_or s i m j d h l =
      sym (get_or-drop i s j d) ∙ ap (λ (r : List A). get_or r j d) h.1 ∙ get_or-append m h.0 d j l

-- ---- bytes read from a place

padded_left : (m b : List ℕ) → padded (length m) (m ++ b) ≡ m
unfolding padded
padded_left [] b = refl
padded_left (x ∷ m) b = ap (λ (r : List ℕ). x ∷ r) (padded_left m b)

pub bytes_at_holds : (s : List ℕ) (i : ℕ) (m : List ℕ) → Holds s i m → bytes_at s i (length m) ≡ m
bytes_at_holds s i m h = rw h.1 (padded_left m h.0)

pub bytes_at_seam : (a m b : List ℕ) → bytes_at (a ++ m ++ b) (length a) (length m) ≡ m
bytes_at_seam a m b = bytes_at_holds (a ++ m ++ b) (length a) m (rw append_assoc (holds_seam a m b (length a) refl))

-- ---- numbers, little-endian in four bytes

-- a number, from its bytes in place
u32_at_drop : (s : List ℕ) (i : ℕ) → u32_at s i ≡ u32_at (drop i s) 0
u32_at_drop s i = rw (get_or-drop i s 0 0, get_or-drop i s 1 0, get_or-drop i s 2 0, get_or-drop i s 3 0, add-zero)

-- a number without its low bytes
without_2 : (n : ℕ) → n / 65536 ≡ n / 256 / 256
without_2 n = sym (div-div-eq-div-mul n 256 256)

without_3 : (n : ℕ) → n / 16777216 ≡ n / 256 / 256 / 256
without_3 n = sym (div-div-eq-div-mul (n / 256) 256 256 ∙ div-div-eq-div-mul n 256 65536)

from_bytes : (n q r s a b c : ℕ) → a + 256 * q ≡ n → b + 256 * r ≡ q → c + 256 * s ≡ r → a + 256 * b + 65536 * c + 16777216 * s ≡ n
from_bytes n q r s a b c h k l = omega arith

bytes_u32 : (n : ℕ) → n < 2 ^ 32 → n % 256 + 256 * (n / 256 % 256) + 65536 * (n / 65536 % 256) + 16777216 * (n / 16777216 % 256) ≡ n
bytes_u32 n h =
    let top : n / 16777216 < 256 = omega arith in
    rw (mod-eq_of_lt top, without_2 n, without_3 n)
    (from_bytes n (n / 256) (n / 256 / 256) (n / 256 / 256 / 256) (n % 256) (n / 256 % 256) (n / 256 / 256 % 256) (mod-add-div n 256)
    (mod-add-div (n / 256) 256) (mod-add-div (n / 256 / 256) 256))

pub u32_at_holds : (s : List ℕ) (i n : ℕ) → Holds s i (u32 n) → n < 2 ^ 32 → u32_at s i ≡ n
u32_at_holds s i n h b = u32_at_drop s i ∙ rw h.1 (bytes_u32 n b)

pub u32_at_seam : (a : List ℕ) (n : ℕ) (b : List ℕ) (i : ℕ) → length a ≡ i → n < 2 ^ 32 → u32_at (a ++ (u32 n ++ b)) i ≡ n
u32_at_seam a n b i e l = u32_at_holds (a ++ (u32 n ++ b)) i n (holds_seam a (u32 n) b i e) l

-- a number, and what stands behind it
pub u32_at_next : (s : List ℕ) (i n : ℕ) (rest : List ℕ) → Holds s i (u32 n ++ rest) → n < 2 ^ 32 → (u32_at s i ≡ n) × Holds s (i + 4) rest
u32_at_next s i n rest h b = (u32_at_holds s i n (holds_left s i (u32 n) rest h) b, holds_right s i (u32 n) rest h)

pub u32_bytes : (n : ℕ) → Bytes (u32 n)
unfolding all
u32_bytes n = simp tested (omega arith, (omega arith, (omega arith, (omega arith, refl))))

pub byte_at : (s : List ℕ) (i : ℕ) → Bytes s → i < length s → get_or s i 0 < 256
byte_at s i b h = (leb_iff (suc (get_or s i 0)) 256).0 (all_get_d (λ b. ltb b 256) s i 0 b h)

-- the bytes of a number of four bytes
low_byte : (a k : ℕ) → a < 256 → (a + 256 * k) % 256 ≡ a
low_byte a k h = add-mul-mod_self_left a 256 k ∙ mod-eq_of_lt h

rest_bytes : (a k : ℕ) → a < 256 → (a + 256 * k) / 256 ≡ k
rest_bytes a k h = omega arith

pub u32_of_bytes : (a b c d : ℕ) → a < 256 → b < 256 → c < 256 → d < 256
    → u32 (a + 256 * b + 65536 * c + 16777216 * d) ≡ a ∷ b ∷ c ∷ d ∷ []
u32_of_bytes a b c d ha hb hc hd =
    let n : ℕ = a + 256 * (b + 256 * (c + 256 * d)) in
    let e : a + 256 * b + 65536 * c + 16777216 * d ≡ n = omega arith in
    let p : n / 256 ≡ b + 256 * (c + 256 * d) = rest_bytes a (b + 256 * (c + 256 * d)) ha in
    let q : n / 256 / 256 ≡ c + 256 * d = rw p (rest_bytes b (c + 256 * d) hb) in
    let r : n / 256 / 256 / 256 ≡ d = rw q (rest_bytes c d hc) in
    rw (e, without_2 n, without_3 n, low_byte a (b + 256 * (c + 256 * d)) ha, r, q, p, low_byte b (c + 256 * d) hb, low_byte c d hc, mod-eq_of_lt hd)

module _ (s : List ℕ) (i : ℕ) (bytes : Bytes s) (fits : i + 4 ≤ length s) where
  pub u32_at_bound : u32_at s i < 2 ^ 32
  u32_at_bound =
      let a = byte_at s i bytes (omega arith) in
      let b = byte_at s (i + 1) bytes (omega arith) in
      let c = byte_at s (i + 2) bytes (omega arith) in
      let d = byte_at s (i + 3) bytes (omega arith) in
      omega arith

  pub u32_u32_at : u32 (u32_at s i) ≡ take 4 (drop i s)
  unfolding tab
  u32_u32_at =
      u32_of_bytes (get_or s i 0) (get_or s (i + 1) 0) (get_or s (i + 2) 0) (get_or s (i + 3) 0) (byte_at s i bytes (omega arith))
      (byte_at s (i + 1) bytes (omega arith)) (byte_at s (i + 2) bytes (omega arith)) (byte_at s (i + 3) bytes (omega arith))
      ∙ simp towards_suc (tab_get_or s 0 i 4 fits)
