-- Laws of the lists that the definitions are written with: tables of values, joined lists, sums, and tests of all elements.
use Rattle.std.specs.Prelude.{◌≡◌, ◌&&◌, ◌∷◌, ◌++◌}
use Rattle.std.proofs.Math.Path.{refl, ap}
use Rattle.std.proofs.Common.{sym, ◌∙◌, zero-add, add_assoc, append_assoc}
use Prim.Native.Nat.{ℕ, zero, suc, ◌+◌, ◌≤◌, ◌<◌}
use Rattle.std.proofs.Math.Nat.{suc-add, add-suc, add-zero}
use native.Mathlib.Omega.{arith}
use Rattle.std.proofs.Math.ListN.{length-append}
use Rattle.std.proofs.Math.Seq.{drop-cons}
use Rattle.definition.specs.Prelude.{Bool, true, false, List, [], map, length, get_or, take, drop, leb}
use Rattle.definition.specs.Basics.{sum, all, joined, tab}
use Rattle.laws.specs.Tests.{and_iff, leb_iff}

module _ {A : Type 0} where
  -- ---- tables of values

  pub length_tab : (f : ℕ → A) (from n : ℕ) → length (tab f from n) ≡ n
  unfolding tab
  length_tab f from zero = refl
  length_tab f from (suc n) = ap suc (length_tab f (suc from) n)

  pub tab_add : (f : ℕ → A) (from n m : ℕ) → tab f from (n + m) ≡ tab f from n ++ tab f (from + n) m
  unfolding tab
  tab_add f from zero m = rw (zero-add, add-zero)
  tab_add f from (suc n) m = rw (suc-add, tab_add f (suc from) n m, suc-add, add-suc)

  -- at equal values, whatever the two places
  pub tab_shift : (f g : ℕ → A) (from at n : ℕ) → ((i : ℕ) → i < n → f (from + i) ≡ g (at + i)) → tab f from n ≡ tab g at n
  unfolding tab
  tab_shift f g from at zero h = refl
  tab_shift f g from at (suc n) h =
      let first : f from ≡ g at = rw (← add-zero from, ← add-zero at) (h 0 (omega arith)) in
      let rest : tab f (suc from) n ≡ tab g (suc at) n =
      tab_shift f g (suc from) (suc at) n λ i l. rw (suc-add, ← add-suc, suc-add, ← add-suc) (h (suc i) (omega arith)) in
      cc

  pub tab_ext : (f g : ℕ → A) (from n : ℕ) → ((i : ℕ) → from ≤ i → i < from + n → f i ≡ g i) → tab f from n ≡ tab g from n
  tab_ext f g from n h = tab_shift f g from from n λ i l. h (from + i) (omega arith) (omega arith)

  pub get_or_tab : (f : ℕ → A) (from n i : ℕ) (d : A) → i < n → get_or (tab f from n) i d ≡ f (from + i)
  unfolding tab
  get_or_tab f from zero i d h = absurd (omega arith)
  get_or_tab f from (suc n) zero d h = rw add-zero
  get_or_tab f from (suc n) (suc i) d h = get_or_tab f (suc from) n i d (omega arith) ∙ rw (suc-add, add-suc)

  -- a part of a list, element by element
  pub tab_get_or : (s : List A) (d : A) (from n : ℕ) → from + n ≤ length s → tab (λ i. get_or s i d) from n ≡ take n (drop from s)
  unfolding tab
  tab_get_or s d from zero h = refl
  tab_get_or s d from (suc n) h =
      let l : from < length s = omega arith in
      rw (tab_get_or s d (suc from) n (omega arith), drop-cons s from d l)

  -- ---- joined lists

  pub joined_append : (k l : List (List A)) → joined (k ++ l) ≡ joined k ++ joined l
  unfolding joined
  joined_append [] l = refl
  joined_append (x ∷ k) l = rw (joined_append k l, append_assoc)

  pub length_joined : (l : List (List A)) → length (joined l) ≡ sum (map length l)
  unfolding joined sum
  length_joined [] = refl
  length_joined (x ∷ l) = length-append x (joined l) ∙ ap (λ (n : ℕ). length x + n) (length_joined l)

  -- ---- tests of all elements

  pub all_append : (p : A → Bool) (k l : List A) → all p (k ++ l) ≡ (all p k && all p l)
  unfolding all
  all_append p [] l = refl
  all_append p (x ∷ k) l = go (p x) (all_append p k l)
    where
      go : (b : Bool) → all p (k ++ l) ≡ (all p k && all p l) → (b && all p (k ++ l)) ≡ (b && all p k && all p l)
      go true e = e
      go false e = refl

  pub all_joined : (p : A → Bool) (l : List (List A)) → all p (joined l) ≡ all (all p) l
  unfolding joined all
  all_joined p [] = refl
  all_joined p (x ∷ l) = rw (all_append, all_joined p l)

  -- a test of all elements, from one that they pass
  pub all_of : (p q : A → Bool) (l : List A) → ((a : A) → p a ≡ true → q a ≡ true) → all p l ≡ true → all q l ≡ true
  unfolding all
  all_of p q [] h t = refl
  all_of p q (x ∷ l) h t =
      let (a, b) = (and_iff (p x) (all p l)).0 t in
      (and_iff (q x) (all q l)).1 (h x a, all_of p q l h b)

  pub all_get_d : (p : A → Bool) (l : List A) (i : ℕ) (d : A) → all p l ≡ true → i < length l → p (get_or l i d) ≡ true
  unfolding all
  all_get_d p [] i d t h = absurd (omega arith)
  all_get_d p (x ∷ l) zero d t h = ((and_iff (p x) (all p l)).0 t).0
  all_get_d p (x ∷ l) (suc i) d t h = all_get_d p l i d ((and_iff (p x) (all p l)).0 t).1 (omega arith)

  -- the other way: element by element
  pub all_by : (p : A → Bool) (l : List A) (d : A) → ((i : ℕ) → i < length l → p (get_or l i d) ≡ true) → all p l ≡ true
  unfolding all
  all_by p [] d h = refl
  all_by p (x ∷ l) d h =
      (and_iff (p x) (all p l)).1 (h 0 (omega arith), all_by p l d λ i b. h (suc i) (omega arith))

  -- each part is no longer than the whole
  pub all_parts : (p : ℕ → Bool) (n : ℕ) (l : List (List A)) → ((m : ℕ) → m ≤ n → p m ≡ true) → length (joined l) ≤ n
      → all (λ x. p (length x)) l ≡ true
  unfolding joined all
  all_parts p n [] h b = refl
  all_parts p n (x ∷ l) h b =
      let e = length-append x (joined l) in
      (and_iff (p (length x)) (all (λ x. p (length x)) l)).1
      (h (length x) (omega arith), all_parts p n l h (omega arith))

  -- one part or more, of one element or more each
  pub joined_some : (l : List (List A)) → 1 ≤ length l → all (λ x. leb 1 (length x)) l ≡ true → 1 ≤ length (joined l)
  unfolding joined all
  joined_some [] h t = absurd (omega arith)
  joined_some (x ∷ l) h t =
      let e = length-append x (joined l) in
      let f : 1 ≤ length x = (leb_iff 1 (length x)).0 ((and_iff (leb 1 (length x)) (all (λ x. leb 1 (length x)) l)).0 t).0 in
      omega arith

-- ---- tests of a part, and of a table

module _ {A : Type 0} (p : A → Bool) where
  pub all_take : (n : ℕ) (l : List A) → all p l ≡ true → all p (take n l) ≡ true
  unfolding all
  all_take zero l h = refl
  all_take (suc n) [] h = refl
  all_take (suc n) (a ∷ l) h = let (q, r) = (and_iff (p a) (all p l)).0 h in (and_iff _ _).1 (q, all_take n l r)

  pub all_drop : (n : ℕ) (l : List A) → all p l ≡ true → all p (drop n l) ≡ true
  unfolding all
  all_drop zero l h = h
  all_drop (suc n) [] h = refl
  all_drop (suc n) (a ∷ l) h = all_drop n l ((and_iff (p a) (all p l)).0 h).1

  pub all_tab : (f : ℕ → A) → ((i : ℕ) → p (f i) ≡ true) → (from n : ℕ) → all p (tab f from n) ≡ true
  unfolding all tab
  all_tab f h from zero = refl
  all_tab f h from (suc n) = (and_iff _ _).1 (h from, all_tab f h (suc from) n)

-- ---- along a map

module _ {A B : Type 0} where
  pub all_map : (p : B → Bool) (f : A → B) (l : List A) → all p (map f l) ≡ all (λ a. p (f a)) l
  unfolding all
  all_map p f [] = refl
  all_map p f (x ∷ l) = rw (all_map p f l)

pub sum_append : (k l : List ℕ) → sum (k ++ l) ≡ sum k + sum l
unfolding sum
sum_append [] l = sym (zero-add (sum l))
sum_append (x ∷ k) l = rw (sum_append k l, add_assoc)

pub sum_tab_add : (g : ℕ → ℕ) (from n m : ℕ) → sum (tab g from (n + m)) ≡ sum (tab g from n) + sum (tab g (from + n) m)
sum_tab_add g from n m = ap sum (tab_add g from n m) ∙ sum_append (tab g from n) (tab g (from + n) m)

pub sum_tab_zero : (g : ℕ → ℕ) (from n : ℕ) → ((i : ℕ) → from ≤ i → g i ≡ 0) → sum (tab g from n) ≡ 0
unfolding sum tab
sum_tab_zero g from zero h = refl
sum_tab_zero g from (suc n) h = rw (h from (omega arith), sum_tab_zero g (suc from) n (λ i l. h i (omega arith)))

-- two lists that are as long in front
pub append_split : {A : Type 0} (a b c d : List A) → length a ≡ length b → a ++ c ≡ b ++ d → (a ≡ b) × (c ≡ d)
append_split [] [] c d l e = (refl, e)
append_split [] (y ∷ b) c d l e = absurd (omega arith)
append_split (x ∷ a) [] c d l e = absurd (omega arith)
append_split {A} (x ∷ a) (y ∷ b) c d l e =
    let first : x ≡ y = cc in
    let rest : a ++ c ≡ b ++ d = cc in
    let (p, q) = append_split a b c d (omega arith) rest in
    (cc, q)
