-- What stands in an answer's bytes, read at its place: numbers, texts, bounds.
use Rattle.std.specs.Prelude.{◌≡◌, ◌∷◌, ◌++◌, if◌then◌else◌}
use Rattle.std.proofs.Math.Path.{refl, ap₂}
use Rattle.std.proofs.Common.{sym, ap, ◌∙◌, add_assoc, arith, append_assoc, length-append, length-drop, drop-drop}
use Prim.Native.Nat.{ℕ, zero, suc, ◌+◌, ◌*◌, ◌-◌, ◌^◌, ◌≤◌, ◌<◌}
use Rattle.std.proofs.Math.Seq.{take-append_seam, drop-nil}
use Rattle.definition.specs.Prelude.{Bool, true, false, List, [], length, take, drop}
use Rattle.definition.specs.Basics.{is_empty, sum, tab}
use Rattle.definition.specs.Image.{u32_at, padded, bytes_at, tables}
use Rattle.definition.specs.Tree.{u32}
use Rattle.definition.specs.Text.{Part}
use Rattle.definition.specs.Ranges.{Usb}
use Rattle.definition.specs.Answer.{text_bytes, x_bytes, usb_bytes, text_at, bound_at, untwos}
use Rattle.laws.specs.Lists.{length_tab, tab_ext}
use Rattle.prepared.specs.Bytes.{Holds, holds_left, holds_right, holds_get_or, u32_at_holds}
use Rattle.answer_facts.specs.read.Statement.{shown_bound}
use Rattle.answer_facts.specs.read.Items.{Stands}

-- ---- places

-- the number at place j of what stands at place i
pub u32_at_in : (s : List ℕ) (i : ℕ) (m : List ℕ) (j k : ℕ) → Holds s i m → i + j ≡ k → j + 4 ≤ length m → u32_at s k ≡ u32_at m j
u32_at_in s i m j k h e l =
    rw (
      ← e,
      add_assoc i j 1,
      add_assoc i j 2,
      add_assoc i j 3,
      holds_get_or s i m j 0 h (omega arith),
      holds_get_or s i m (j + 1) 0 h (omega arith),
      holds_get_or s i m (j + 2) 0 h (omega arith),
      holds_get_or s i m (j + 3) 0 h (omega arith),
    )

-- what stands after a first part
pub holds_next : (s : List ℕ) (i : ℕ) (a b : List ℕ) (k : ℕ) → Holds s i (a ++ b) → i + length a ≡ k → Holds s k b
holds_next s i a b k h e = rw e at (holds_right s i a b h)

-- four parts, one after the other
pub four_parts : (s : List ℕ) (i j k l : ℕ) (a b c d : List ℕ) → i + length a ≡ j → j + length b ≡ k → k + length c ≡ l
    → Holds s i (a ++ b ++ c ++ d) → Holds s i a × Holds s j b × Holds s k c × Holds s l d
four_parts s i j k l a b c d p q r h =
    let h₁ : Holds s i (a ++ (b ++ (c ++ d))) = rw (← append_assoc a b (c ++ d), ← append_assoc (a ++ b) c d) h in
    let h₂ = holds_next s i a (b ++ (c ++ d)) j h₁ p in
    let h₃ = holds_next s j b (c ++ d) k h₂ q in
    (holds_left s i a (b ++ (c ++ d)) h₁, holds_left s j b (c ++ d) h₂, holds_left s k c d h₃, holds_next s k c d l h₃ r)

-- a text that is not empty ends in the text around it
pub holds_bound : (s : List ℕ) (i : ℕ) (m : List ℕ) → Holds s i m → 0 < length m → i + length m ≤ length s
holds_bound s i m (r, e) l =
    let q : length s - i ≡ length m + length r = sym (length-drop i s) ∙ ap length e ∙ length-append m r in
    omega arith

-- ---- a part of what bytes are read as

padded_front : (n m : ℕ) (s : List ℕ) → n ≤ m → padded n s ≡ take n (padded m s)
unfolding padded
padded_front zero m s l = refl
padded_front (suc n) zero s l = absurd (omega arith)
padded_front (suc n) (suc m) [] l = ap (λ (r : List ℕ). 0 ∷ r) (padded_front n m [] (omega arith))
padded_front (suc n) (suc m) (b ∷ s) l = ap (λ (r : List ℕ). b ∷ r) (padded_front n m s (omega arith))

padded_part : (k n m : ℕ) (s : List ℕ) → k + n ≤ m → padded n (drop k s) ≡ take n (drop k (padded m s))
unfolding padded
padded_part zero n m s l = padded_front n m s (omega arith)
padded_part (suc k) n zero s l = absurd (omega arith)
padded_part (suc k) n (suc m) [] l = ap (padded n) (sym (drop-nil k)) ∙ padded_part k n m [] (omega arith)
padded_part (suc k) n (suc m) (b ∷ s) l = padded_part k n m s (omega arith)

bytes_in_lem : (s : List ℕ) (at : ℕ) (txt : List ℕ) → bytes_at s at (length txt) ≡ txt → (k : ℕ) (m : List ℕ) → Holds txt k m → 0 < length m
    → bytes_at s (at + k) (length m) ≡ m
bytes_in_lem s at txt e k m h l =
    let b = holds_bound txt k m h l in
    ap (padded (length m)) (sym (drop-drop k at s)) ∙ padded_part k (length m) (length txt) (drop at s) b
    ∙ rw (e, h.1) (take-append_seam m h.0)

-- ---- texts and bounds

pub length_text : (base : ℕ) (p : Part) → length (text_bytes base p) ≡ 8
length_text base p = go (is_empty p.bytes)
  where
    go : (b : Bool) → length (if b then u32 0 ++ u32 0 else u32 (base + p.at) ++ u32 (length p.bytes)) ≡ 8
    go true = refl
    go false = refl

-- the two numbers of a text that is not empty, whose bytes lie in the text around it
module _ (txt : List ℕ) (small : length txt < 2 ^ 32) (s : List ℕ) (i base at : ℕ) (m : List ℕ) (some : 0 < length m) (st : Holds (drop base txt) at m)
    (h : Holds s i (u32 (base + at) ++ u32 (length m))) where
  text_within : Holds txt (base + at) m
  text_within = rw (drop-drop at base txt) at st

  text_ends : base + at + length m ≤ length txt
  text_ends = holds_bound txt (base + at) m text_within some

  start_number : u32_at s i ≡ base + at
  start_number = let e = text_ends in u32_at_holds s i (base + at) (holds_left s i (u32 (base + at)) (u32 (length m)) h) (omega arith)

  length_number : u32_at s (i + 4) ≡ length m
  length_number = let e = text_ends in u32_at_holds s (i + 4) (length m) (holds_right s i (u32 (base + at)) (u32 (length m)) h) (omega arith)

-- the numbers of a text name a part of the text around it
pub text_lies : (txt : List ℕ) → length txt < 2 ^ 32 → (s : List ℕ) (i base : ℕ) (p : Part) → Stands (drop base txt) p → Holds s i (text_bytes base p)
    → u32_at s i + u32_at s (i + 4) ≤ length txt
text_lies txt small s i base p st h = go p.bytes st h
  where
    go : (bytes : List ℕ) → Holds (drop base txt) p.at bytes → Holds s i (text_bytes base (record { at = p.at; bytes = bytes }))
        → u32_at s i + u32_at s (i + 4) ≤ length txt
    go [] st h =
        let first : u32_at s i ≡ 0 = u32_at_holds s i 0 (holds_left s i (u32 0) (u32 0) h) (omega arith) in
        let second : u32_at s (i + 4) ≡ 0 = u32_at_holds s (i + 4) 0 (holds_right s i (u32 0) (u32 0) h) (omega arith) in
        omega (arith, first, second)
    go (b ∷ bytes) st h =
        let first = start_number txt small s i base p.at (b ∷ bytes) (omega arith) st h in
        let second = length_number txt small s i base p.at (b ∷ bytes) (omega arith) st h in
        let ends = text_ends txt small s i base p.at (b ∷ bytes) (omega arith) st h in
        omega (arith, first, second, ends)

module _ (image txt : List ℕ) (read : bytes_at image (tables image).text (length txt) ≡ txt) (small : length txt < 2 ^ 32) (s : List ℕ) where
  pub text_read : (i base : ℕ) (p : Part) → Stands (drop base txt) p → Holds s i (text_bytes base p) → text_at image s i ≡ p.bytes
  unfolding padded
  text_read i base p st h = go p.bytes st h
    where
      go : (bytes : List ℕ) → Holds (drop base txt) p.at bytes → Holds s i (text_bytes base (record { at = p.at; bytes = bytes })) → text_at image s i ≡ bytes
      go [] st h = rw (u32_at_in s i (u32 0 ++ u32 0) 4 (i + 4) h refl (omega arith))
      go (b ∷ bytes) st h =
          let m : List ℕ = b ∷ bytes in
          ap₂ (λ a n. bytes_at image ((tables image).text + a) n) (start_number txt small s i base p.at m (omega arith) st h)
          (length_number txt small s i base p.at m (omega arith) st h)
          ∙ bytes_in_lem image (tables image).text txt read (base + p.at) m (text_within txt small s i base p.at m (omega arith) st h) (omega arith)

  pub bound_read : (i base : ℕ) (u : Usb) → Stands (drop base txt) u.s → Holds s i (usb_bytes base u) → bound_at image s i ≡ shown_bound u
  bound_read i base u st h =
      let t : text_at image s i ≡ u.s.bytes = text_read i base u.s st (holds_left s i (text_bytes base u.s) (x_bytes u.x) h) in
      let x : Holds s (i + 8) (x_bytes u.x) = holds_next s i (text_bytes base u.s) (x_bytes u.x) (i + 8) h (rw length_text) in
      let l : length (x_bytes u.x) ≡ 16 = length_tab _ 0 16 in
      let words : tab (λ j. u32_at s (i + 8 + 4 * j) * 2 ^ (32 * j)) 0 4 ≡ tab (λ j. u32_at (x_bytes u.x) (4 * j) * 2 ^ (32 * j)) 0 4 =
      tab_ext _ _ 0 4 λ j a b. ap (λ (n : ℕ). n * 2 ^ (32 * j)) (u32_at_in s (i + 8) (x_bytes u.x) (4 * j) (i + 8 + 4 * j) x refl (omega arith)) in
      λ k. record { text = t k; x = untwos (sum (words k)) }
