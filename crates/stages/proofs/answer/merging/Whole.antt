-- Whole bytes behind others: they are copied as they are.
use Rattle.std.specs.Prelude.{◌+◌, ◌*◌, ◌-◌, ◌/◌, ◌%◌, ◌^◌, ◌∷◌, ◌++◌}
use Rattle.std.proofs.Common.{◌≡◌, ◌<◌, ◌≤◌, set, sym, refl, ap, ◌∙◌, zero-add, add-one, arith, length-append, length-drop, length-take-le, get_or-drop, take-suc, get_or-append-add}
use lib.ListN.{get_or-append}
use lib.Seq.{sets}
use Rattle.definition.specs.Prelude.{ℕ, List, [], length, get_or, take, drop}
use Rattle.definition.specs.Basics.{tab}
use Rattle.definition.specs.Image.{bytes_for}
use Rattle.definition.specs.Tree.{byte_of, packed}
use Rattle.laws.specs.Lists.{length_tab, get_or_tab, tab_add, tab_shift, tab_ext, tab_get_or}
use Rattle.laws.specs.Sets.{sets_append}
use Rattle.prepared.specs.Bits.{length_packed, byte_of_bits}
use Rattle.stages.specs.answer.literal_bits.Put.{bit_of, bits_from}
use Rattle.stages.specs.answer.literal_bits.Places.{Small, bit_of_at}
use Rattle.stages.specs.answer.literal_bits.Worth.{worth_ext}
use Rattle.laws.specs.Writing.{and_then}
use Rattle.stages.specs.answer.merging.Literals.{AppendIs}

-- one byte more of those that are copied
pub copy_next : (l : List ℕ) (at : ℕ) (s : List ℕ) (from i : ℕ) (m : List ℕ) → from + i < length s → m ≡ sets l at (take i (drop from s))
    → set m (at + i) (get_or s (from + i) 0) ≡ sets l at (take (i + 1) (drop from s))
copy_next l at s from i m h e =
    let left : length (drop from s) ≡ length s - from = length-drop from s in
    let one : take (i + 1) (drop from s) ≡ take i (drop from s) ++ (get_or s (from + i) 0 ∷ []) =
    ap (λ (k : ℕ). take k (drop from s)) (add-one i) ∙ take-suc (drop from s) i 0 (omega arith) ∙ ap (λ (x : ℕ). take i (drop from s) ++ (x ∷ [])) (get_or-drop from s i 0) in
    and_then l at i (take i (drop from s)) (get_or s (from + i) 0 ∷ []) e (length-take-le i (drop from s) (omega arith)) refl ∙ ap (sets l at) (sym one)

module _ (bits s : List ℕ) (q f m : ℕ) (len : length bits ≡ 8 * q) where
  abbrev all : List ℕ
  all = bits ++ bits_from s (8 * f) (8 * m)

  all_long : length all ≡ 8 * q + 8 * m
  all_long =
      let l = length_tab (bit_of s) (8 * f) (8 * m) in
      length-append bits (bits_from s (8 * f) (8 * m)) ∙ (omega arith)

  old_byte : (i : ℕ) → i < q → byte_of all i ≡ byte_of bits i
  old_byte i h =
      worth_ext (λ j. get_or all (8 * i + j) 0) (λ j. get_or bits (8 * i + j) 0) 8
      (λ j l. get_or-append bits (bits_from s (8 * f) (8 * m)) 0 (8 * i + j) (omega arith))

  new_byte : Small s → (i : ℕ) → i < m → byte_of all (0 + q + i) ≡ get_or s (f + i) 0
  new_byte small i h =
      worth_ext (λ j. get_or all (8 * (0 + q + i) + j) 0) (λ j. get_or s (f + i) 0 / 2 ^ j % 2) 8 bit
      ∙ byte_of_bits (get_or s (f + i) 0) (small (f + i))
    where
      bit : (j : ℕ) → j < 8 → get_or all (8 * (0 + q + i) + j) 0 ≡ get_or s (f + i) 0 / 2 ^ j % 2
      bit j l =
          let e : 8 * (0 + q + i) + j ≡ length bits + (8 * i + j) = omega arith in
          let g : 8 * f + (8 * i + j) ≡ 8 * (f + i) + j = omega arith in
          ap (λ (x : ℕ). get_or all x 0) e
          ∙ get_or-append-add bits (bits_from s (8 * f) (8 * m)) (8 * i + j) 0
          ∙ get_or_tab (bit_of s) (8 * f) (8 * m) (8 * i + j) 0 (omega arith)
          ∙ ap (bit_of s) g
          ∙ bit_of_at s (f + i) j l

  pub packed_whole : Small s → f + m ≤ length s → packed all ≡ packed bits ++ take m (drop f s)
  unfolding packed
  packed_whole small fits =
      let l = all_long in
      let a : bytes_for (length all) ≡ q + m = omega arith in
      let b : bytes_for (length bits) ≡ q = omega arith in
      rw (a, b)
      (tab_add (byte_of all) 0 q m
      ∙ ap (λ (x : List ℕ). x ++ tab (byte_of all) (0 + q) m) (tab_ext (byte_of all) (byte_of bits) 0 q (λ i _ h. old_byte i (omega arith)))
      ∙ ap (λ (x : List ℕ). tab (byte_of bits) 0 q ++ x)
      (tab_shift (byte_of all) (λ i. get_or s i 0) (0 + q) f m (new_byte small) ∙ tab_get_or s 0 f m fits))

-- whole bytes copied behind whole bytes
pub copied : (entry after : List ℕ) (k : ℕ) (s : List ℕ) (from n : ℕ) → k % 8 ≡ 0 → from % 8 ≡ 0 → n % 8 ≡ 0 → from / 8 + n / 8 ≤ length s
    → Small s → after ≡ sets entry (k / 8) (take (n / 8) (drop (from / 8) s)) → AppendIs 0 k s from n entry after
copied entry after k s from n ka fa na fits small put base bits b len e room reach within =
    let q : ℕ = k / 8 in
    let f : ℕ = from / 8 in
    let m : ℕ = n / 8 in
    let new = take m (drop f s) in
    let l : length (packed bits) ≡ q = length_packed bits ∙ (omega arith) in
    let p : 8 * f ≡ from = omega arith in
    let r : 8 * m ≡ n = omega arith in
    put
    ∙ ap (λ (x : List ℕ). sets x q new) e
    ∙ ap (λ (x : ℕ). sets (sets base 0 (packed bits)) x new) (sym (zero-add (length (packed bits)) ∙ l))
    ∙ sets_append base 0 (packed bits) new
    ∙ ap (sets base 0) (sym (packed_whole bits s q f m (omega arith) small fits))
    ∙ ap (λ (x : ℕ). sets base 0 (packed (bits ++ bits_from s x (8 * m)))) p
    ∙ ap (λ (x : ℕ). sets base 0 (packed (bits ++ bits_from s from x))) r
