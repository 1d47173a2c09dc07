-- The lines of the concatenations: what is still to come, and how it begins.
use Rattle.std.specs.Prelude.{◌+◌, ◌*◌, ◌-◌, ◌∷◌, ◌++◌}
use mathlib.Core.Path.{◌≡◌, ap, ◌∙◌}
use mathlib.Core.List.{append_assoc}
use Prim.Native.Nat.{◌≤◌, ◌<◌}
use native.Mathlib.Numerals.{add-one}
use native.Mathlib.Omega.{arith}
use lib.Seq.{take_at, drop_at, take_all}
use lib.ListN.{drop_of_length-le}
use borrow.Author.Tests.{leb-true, leb-false}
use Rattle.laws.specs.Lists.{length_tab, tab_add}
use Rattle.laws.specs.Tests.{by_test}
use Rattle.definition.specs.Prelude.{ℕ, suc, List, [], map, length, take, drop, leb}
use Rattle.definition.specs.Basics.{tab, joined}
use Rattle.definition.specs.Image.{u32_at}
use Rattle.definition.specs.Answer.{concat_at, field_at}
use Rattle.definition.specs.Listing.{field_line, concat_lines}
use Rattle.listing.specs.group.Line.{group_line}
use Rattle.listing.specs.Outcomes.{stop_of}

-- ---- parts of a table

module _ {A : Type 0} (f : ℕ → A) where
  tab_cut : (k n m : ℕ) → n ≤ m → (take n (tab f k m) ≡ tab f k n) × (drop n (tab f k m) ≡ tab f (k + n) (m - n))
  tab_cut k n m h =
      let e : m ≡ n + (m - n) = omega arith in
      let whole : tab f k m ≡ tab f k n ++ tab f (k + n) (m - n) = ap (tab f k) e ∙ tab_add f k n (m - n) in
      (rw whole (take_at (tab f k n) (tab f (k + n) (m - n)) n (length_tab f k n)), rw whole (drop_at (tab f k n) (tab f (k + n) (m - n)) n (length_tab f k n)))

  tab_past : (k n m j : ℕ) → m < n → (take n (tab f k m) ≡ tab f k m) × (drop n (tab f k m) ≡ tab f j 0)
  unfolding tab
  tab_past k n m j h =
      let b : length (tab f k m) ≤ n = omega (arith, length_tab f k m) in
      (take_all n (tab f k m) b, drop_of_length-le (tab f k m) b)

  -- the first `size` from k, and the others, of those before `count`
  tab_stop : (k size count : ℕ) → k ≤ count →
      (take size (tab f k (count - k)) ≡ tab f k (stop_of k size count - k)) × (drop size (tab f k (count - k)) ≡ tab f (stop_of k size count) (count - stop_of k size count))
  tab_stop k size count h =
      by_test (leb size (count - k)) (λ t. rw t (fits (leb-true size (count - k) t))) λ t. rw t (past (leb-false size (count - k) t))
    where
      fits : size ≤ count - k → (take size (tab f k (count - k)) ≡ tab f k (k + size - k)) × (drop size (tab f k (count - k)) ≡ tab f (k + size) (count - (k + size)))
      fits b =
          let e : k + size - k ≡ size = omega arith in
          let g : count - (k + size) ≡ count - k - size = omega arith in
          rw (e, g) (tab_cut k size (count - k) b)

      past : count - k < size → (take size (tab f k (count - k)) ≡ tab f k (count - k)) × (drop size (tab f k (count - k)) ≡ tab f count (count - count))
      past b =
          let e : count - count ≡ 0 = omega arith in
          rw e (tab_past k size (count - k) count b)

  tab_first : (k n : ℕ) → k < n → tab f k (n - k) ≡ f k ∷ tab f (k + 1) (n - (k + 1))
  unfolding tab
  tab_first k n h =
      let e : n - k ≡ suc (n - (k + 1)) = omega arith in
      rw (e, add-one k)

  tab_none : (k n : ℕ) → n ≤ k → tab f k (n - k) ≡ []
  unfolding tab
  tab_none k n h = let e : n - k ≡ 0 = omega arith in rw e

pub stop_within : (k size count : ℕ) → k ≤ count → stop_of k size count ≤ count
stop_within k size count h =
    by_test (leb size (count - k)) (λ t. rw t (omega (arith, leb-true size (count - k) t))) λ t. rw t (omega arith)

-- ---- the lines that are still to come

abbrev pub field_lines : List ℕ → List ℕ → ℕ → ℕ → List ℕ
field_lines image s k to = joined (map field_line (tab (field_at image s) k (to - k)))

pub field_next : (image s : List ℕ) (k to : ℕ) → k < to → field_lines image s k to ≡ field_line (field_at image s k) ++ field_lines image s (k + 1) to
unfolding joined
field_next image s k to h = ap (λ fs. joined (map field_line fs)) (tab_first (field_at image s) k to h)

pub fields_none : (image s : List ℕ) (k to : ℕ) → to ≤ k → field_lines image s k to ≡ []
unfolding joined
fields_none image s k to h = ap (λ fs. joined (map field_line fs)) (tab_none (field_at image s) k to h)

abbrev pub groups_from : List ℕ → List ℕ → ℕ → ℕ → ℕ → ℕ → List ℕ
groups_from image s groups fields i k = concat_lines i (tab (concat_at s) i (groups - i)) (tab (field_at image s) k (fields - k))

module _ (image s : List ℕ) (groups fields i k : ℕ) where
  pub group_next : (to : ℕ) → i < groups → k ≤ fields → to ≡ stop_of k (u32_at s (32 + 20 * i)) fields
      → groups_from image s groups fields i k ≡ (group_line i (concat_at s i) ++ field_lines image s k to) ++ groups_from image s groups fields (i + 1) to
  unfolding concat_lines
  group_next to h b e =
      let (p, q) = tab_stop (field_at image s) k (u32_at s (32 + 20 * i)) fields b in
      ap (λ gs. concat_lines i gs (tab (field_at image s) k (fields - k))) (tab_first (concat_at s) i groups h)
      ∙ rw (p, q, ← e, ← add-one i, append_assoc)

  pub groups_none : groups ≤ i → groups_from image s groups fields i k ≡ []
  unfolding concat_lines
  groups_none h = ap (λ gs. concat_lines i gs (tab (field_at image s) k (fields - k))) (tab_none (concat_at s) i groups h)

pub groups_all : (image s : List ℕ) (groups fields : ℕ) → groups ≡ u32_at s 0 → fields ≡ u32_at s 4
    → groups_from image s groups fields 0 0 ≡ concat_lines 0 (tab (concat_at s) 0 (u32_at s 0)) (tab (field_at image s) 0 (u32_at s 4))
groups_all image s groups fields e f =
    let a : groups - 0 ≡ u32_at s 0 = omega arith in
    let b : fields - 0 ≡ u32_at s 4 = omega arith in
    rw (a, b)
