-- The tables of an image: numbers that are written again as they were read, and a list cut into parts.
use Rattle.std.specs.Prelude.{◌≡◌, ◌≤◌, ◌<◌, ◌+◌, ◌*◌, ◌∷◌, ◌++◌}
use Rattle.std.proofs.Math.Path.{refl}
use Rattle.std.proofs.Common.{sym, ap₂, ◌∙◌, mul-zero, add-zero, arith, take-append-drop, length-take-le}
use Rattle.std.proofs.Math.ListN.{length-drop}
use Rattle.definition.specs.Prelude.{ℕ, zero, suc, List, [], map, length, drop}
use Rattle.definition.specs.Basics.{joined, sum, tab}
use Rattle.definition.specs.Image.{u32_at, parts}
use Rattle.definition.specs.Tree.{u32}
use Rattle.prepared.specs.Statement.{Bytes}
use Rattle.prepared.specs.Bytes.{u32_u32_at}
use Rattle.prepared.specs.back.Cuts.{cut, cut_add, table_cut}

module _ (s : List ℕ) (bytes : Bytes s) where
  -- one, two and three numbers
  one : (i : ℕ) → i + 4 ≤ length s → u32 (u32_at s i) ≡ cut s i 4
  one i h = u32_u32_at s i bytes h

  two : (i : ℕ) → i + 8 ≤ length s → u32 (u32_at s i) ++ u32 (u32_at s (i + 4)) ≡ cut s i 8
  two i h = ap₂ ◌++◌ (one i (omega arith)) (one (i + 4) (omega arith)) ∙ sym (cut_add s i 4 4)

  three : (i : ℕ) → i + 12 ≤ length s → u32 (u32_at s i) ++ u32 (u32_at s (i + 4)) ++ u32 (u32_at s (i + 8)) ≡ cut s i 12
  three i h = ap₂ ◌++◌ (two i (omega arith)) (one (i + 8) (omega arith)) ∙ sym (cut_add s i 8 4)

  -- tables with so many numbers a row
  rows : (g : ℕ → List ℕ) (base w n : ℕ) → ((i : ℕ) → i < n → g i ≡ cut s (base + w * i) w) → joined (tab g 0 n) ≡ cut s base (w * n)
  rows g base w n h = rw (mul-zero, add-zero) at (table_cut s g base w 0 n (λ i l. h i (omega arith)))

  pub singles : (base n : ℕ) → base + 4 * n ≤ length s → joined (tab (λ i. u32 (u32_at s (base + 4 * i))) 0 n) ≡ cut s base (4 * n)
  singles base n h = rows _ base 4 n (λ i l. one (base + 4 * i) (omega arith))

  pub pairs : (base n : ℕ) → base + 8 * n ≤ length s
      → joined (tab (λ i. u32 (u32_at s (base + 8 * i)) ++ u32 (u32_at s (base + 8 * i + 4))) 0 n) ≡ cut s base (8 * n)
  pairs base n h = rows _ base 8 n (λ i l. two (base + 8 * i) (omega arith))

  pub triples : (base n : ℕ) → base + 12 * n ≤ length s
      → joined (tab (λ i. u32 (u32_at s (base + 12 * i)) ++ u32 (u32_at s (base + 12 * i + 4)) ++ u32 (u32_at s (base + 12 * i + 8))) 0 n)
      ≡ cut s base (12 * n)
  triples base n h = rows _ base 12 n (λ i l. three (base + 12 * i) (omega arith))

pub map_tab : {A B : Type 0} (g : A → B) (f : ℕ → A) (from n : ℕ) → map g (tab f from n) ≡ tab (λ i. g (f i)) from n
unfolding tab
map_tab g f from zero = refl
map_tab g f from (suc n) = rw (map_tab g f (suc from) n)

-- parts that make up the list
module _ {A : Type 0} where
  pub joined_parts : (ns : List ℕ) (s : List A) → sum ns ≡ length s → joined (parts ns s) ≡ s
  unfolding joined parts sum
  joined_parts [] [] h = refl
  joined_parts [] (a ∷ s) h = absurd (omega arith)
  joined_parts (n ∷ ns) s h = rw (joined_parts ns (drop n s) (rw length-drop (omega arith))) (take-append-drop n s)

  pub length_parts : (ns : List ℕ) (s : List A) → sum ns ≡ length s → map length (parts ns s) ≡ ns
  unfolding parts sum
  length_parts [] s h = refl
  length_parts (n ∷ ns) s h = rw (length-take-le n s (omega arith), length_parts ns (drop n s) (rw length-drop (omega arith)))
