-- A component's items: without those behind a starting value's colon, and without its range.
use Rattle.std.specs.Prelude.{◌+◌, ◌∷◌, ◌++◌}
use Rattle.std.proofs.Common.{◌≡◌, ◌≤◌, sym, refl, ap, ◌∙◌, suc-add, arith, length-append}
use Rattle.definition.specs.Prelude.{ℕ, zero, suc, true, false, Option, none, some, List, [], length, drop, eqb}
use Rattle.definition.specs.Text.{Item, items, is_token}
use Rattle.definition.specs.Component.{Split, split_range, Prefix, beyond, split_colon, prefix_of, parse_component}
use Rattle.laws.specs.Tests.{by_test}
use Rattle.stages.specs.component.Parse.{parse_items, StageItems}
use Rattle.stages.proofs.Cases.{none_some, some_is}

-- ---- the colon

pub record Colon (is : List Item) (p : Prefix) : Type 0 where
  pub sign : Item
  pub token : is_token 58 sign ≡ true
  pub parts : is ≡ p.before ++ (sign ∷ p.after)

-- one item more before it
colon_beyond : (i : Item) (is : List Item) (o : Option Prefix) (p : Prefix) → ((q : Prefix) → o ≡ some q → Colon is q) → beyond i o ≡ some p → Colon (i ∷ is) p
colon_beyond i is none p f h = none_some h
colon_beyond i is (some q) p f h =
    let c = f q refl in
    let e : record { before = i ∷ q.before; after = q.after } ≡ p = some_is h in
    record { sign = c.sign; token = c.token; parts = ap (λ l. i ∷ l) c.parts ∙ ap (λ (x : Prefix). x.before ++ (c.sign ∷ x.after)) e }

colon_here : (i : Item) (is : List Item) (p : Prefix) → is_token 58 i ≡ true → some (record { before = []; after = is }) ≡ some p → Colon (i ∷ is) p
colon_here i is p t h =
    record { sign = i; token = t; parts = ap (λ (x : Prefix). x.before ++ (i ∷ x.after)) (some_is h) }

-- a colon that is found stands between the items before it and those after
pub colon_parts : (is : List Item) (p : Prefix) → split_colon is ≡ some p → Colon is p
unfolding split_colon
colon_parts [] p h = none_some h
colon_parts (i ∷ []) p h =
    by_test (is_token 58 i) (λ t. colon_here i [] p t (rw t at h)) (λ t. none_some (rw t at h))
colon_parts (i ∷ j ∷ rest) p h =
    by_test (is_token 58 i)
    (λ t. by_test (is_token 58 j)
    (λ u. colon_beyond i (j ∷ rest) (beyond j (split_colon rest)) p
    (λ q. colon_beyond j rest (split_colon rest) q (λ q'. colon_parts rest q')) (rw (t, u) at h))
    (λ u. colon_here i (j ∷ rest) p t (rw (t, u) at h)))
    (λ t. colon_beyond i (j ∷ rest) (split_colon (j ∷ rest)) p (λ q. colon_parts (j ∷ rest) q) (rw t at h))

-- ---- the range

-- items dropped before it
pub drop_range : (n : ℕ) (is : List Item) → n ≤ length (split_range is).mid
    → split_range (drop n is) ≡ record { mid = drop n (split_range is).mid; range = (split_range is).range }
unfolding split_range
drop_range zero is l = refl
drop_range (suc n) [] l = absurd (omega (arith, l))
drop_range (suc n) (i ∷ []) l = by_test (eqb i.kind 3) (λ t. absurd (let k = rw t at l in omega (arith, k))) (λ t. rw t (go n (rw t at l)))
  where
    go : (n : ℕ) → suc n ≤ 1 → split_range (drop n []) ≡ record { mid = drop n []; range = none }
    go zero k = refl
    go (suc n) k = absurd (omega (arith, k))
drop_range (suc n) (i ∷ j ∷ rest) l = drop_range n (j ∷ rest) (let k = l in omega (arith, k))

drop_before : (xs ys : List Item) (i : Item) → drop (length xs + 1) (xs ++ (i ∷ ys)) ≡ ys
drop_before [] ys i = refl
drop_before (x ∷ xs) ys i = rw (suc-add (length xs) 1) (drop_before xs ys i)

-- ---- stage 1 reads the items behind a starting value's colon

pub stage_items : StageItems
stage_items false u = refl
stage_items true u = go (prefix_of u) refl
  where
    go : (o : Option Prefix) → prefix_of u ≡ o
        → parse_component (elim o [ none ↦ (split_range (items 0 u.recs)).mid | some p ↦ p.after ]) (split_range (items 0 u.recs)).range u.bits
        ≡ parse_items (elim o [ none ↦ items 0 u.recs | some p ↦ drop (length p.before + 1) (items 0 u.recs) ]) u.bits
    go none e = refl
    go (some p) e =
        let is = items 0 u.recs in
        let c = colon_parts (split_range is).mid p e in
        let n : length p.before + 1 ≤ length (split_range is).mid =
        (let m = ap {A = List Item} length c.parts ∙ length-append p.before (c.sign ∷ p.after) in omega (arith, m)) in
        let d : drop (length p.before + 1) (split_range is).mid ≡ p.after = ap (drop (length p.before + 1)) c.parts ∙ drop_before p.before p.after c.sign in
        sym (ap (λ (s : Split). parse_component s.mid s.range u.bits) (drop_range (length p.before + 1) is n)
        ∙ ap (λ m. parse_component m (split_range is).range u.bits) d)

-- the items before the range are some of all
pub mid_length : (is : List Item) → length (split_range is).mid ≤ length is
unfolding split_range
mid_length [] = omega arith
mid_length (i ∷ []) = by_test (eqb i.kind 3) (λ t. rw t (omega arith)) (λ t. rw t (omega arith))
mid_length (i ∷ j ∷ rest) = let k = mid_length (j ∷ rest) in omega (arith, k)
