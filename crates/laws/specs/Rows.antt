-- Laws of the tables that a tree is written to: rows of one size, and the rows and texts of records in two parts.
use Rattle.std.specs.Prelude.{◌≡◌, refl, ℕ, ◌+◌, ◌*◌, ◌/◌, ◌%◌, ◌∷◌, ◌++◌}
use Rattle.std.proofs.Common.{sym, ap, ◌∙◌, append_assoc, add-zero, add_assoc}
use Rattle.std.proofs.Math.Nat.{mul-add-mod_self_left}
use native.Mathlib.Omega.{arith}
use Rattle.std.proofs.Math.ListN.{length-append}
use Rattle.definition.specs.Prelude.{List, [], map, length}
use Rattle.definition.specs.Basics.{joined}
use Rattle.definition.specs.Image.{Rec}
use Rattle.definition.specs.Tree.{u32, text_of, record_bytes}

-- rows of w bytes, row a being `row a`
module _ {A : Type 0} (w : ℕ) (row : A → List ℕ) (sized : (a : A) → length (row a) ≡ w) where
  pub length_rows : (l : List A) → length (joined (map row l)) ≡ w * length l
  unfolding joined
  length_rows [] = omega arith
  length_rows (a ∷ l) =
      let e = length-append (row a) (joined (map row l)) in
      let q = length_rows l in
      let r = sized a in
      omega arith

pub text_of_append : (a b : List Rec) → text_of (a ++ b) ≡ text_of a ++ text_of b
unfolding text_of
text_of_append [] b = refl
text_of_append (r ∷ a) b = rw (text_of_append a b, append_assoc)

pub length_text_append : (a b : List Rec) → length (text_of (a ++ b)) ≡ length (text_of a) + length (text_of b)
length_text_append a b = ap {A = List ℕ} length (text_of_append a b) ∙ length-append (text_of a) (text_of b)

pub record_bytes_append : (start : ℕ) (a b : List Rec)
    → record_bytes start (a ++ b) ≡ record_bytes start a ++ record_bytes (start + length (text_of a)) b
unfolding record_bytes text_of
record_bytes_append start [] b = rw add-zero
record_bytes_append start (r ∷ a) b =
    let e = add_assoc start (length r.text) (length (text_of a)) in
    rw (record_bytes_append (start + length r.text) a b, length-append r.text (text_of a), ← e)

pub length_record_bytes : (start : ℕ) (rs : List Rec) → length (record_bytes start rs) ≡ 12 * length rs
unfolding record_bytes
length_record_bytes start [] = refl
length_record_bytes start (r ∷ rs) = let q = length_record_bytes (start + length r.text) rs in omega arith

-- four bytes hold what is left of a number by 2^32
pub u32_low : (n : ℕ) → u32 (n % 4294967296) ≡ u32 n
u32_low n =
    let q : ℕ = n / 4294967296 in
    let r : ℕ = n % 4294967296 in
    let b : r / 256 % 256 ≡ n / 256 % 256 = byte (65536 * q) (r / 256) (n / 256) (omega arith) in
    let c : r / 65536 % 256 ≡ n / 65536 % 256 = byte (256 * q) (r / 65536) (n / 65536) (omega arith) in
    let d : r / 16777216 % 256 ≡ n / 16777216 % 256 = byte q (r / 16777216) (n / 16777216) (omega arith) in
    let a : r % 256 ≡ n % 256 = omega arith in
    rw (a, b, c, d)
  where
    byte : (k low m : ℕ) → m ≡ 256 * k + low → low % 256 ≡ m % 256
    byte k low m e = sym (ap (λ (x : ℕ). x % 256) e ∙ mul-add-mod_self_left 256 k low)
