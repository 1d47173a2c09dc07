-- The walks of 50 and 51: what is left of the list says what all of it says. Each walk has a turn, ways to stop, and an end.
use Rattle.std.specs.Prelude.{◌+◌, ◌-◌, ◌&&◌, ◌∷◌, if◌then◌else◌}
use mathlib.Core.Path.{◌≡◌, refl, sym, ap, ◌∙◌}
use Prim.Native.Nat.{◌≤◌, ◌<◌}
use native.Mathlib.Omega.{arith}
use borrow.Author.Tests.{eqb-true, ltb-true, ltb-false}
use Rattle.std.specs.Bool.{MatchBool}
use Rattle.std.specs.List.{range_with_len, AllWithin, HoldsAt}
use Rattle.std.proofs.lemmas.List.FromFn.{length-range_with_len, get_or-range_with_len}
use Rattle.definition.specs.Prelude.{length, ℕ, zero, suc, Bool, true, false, List, [], drop, ltb, eqb}
use Rattle.definition.specs.Basics.{all, tab}
use Rattle.definition.specs.Tokens.{Token, single, opener, closer, kind_at, text_at, token_of, token_at, count, tokens, tokens_right, nested}
use Rattle.laws.specs.Tests.{by_test, and_iff, eqb_apart}
use Rattle.token_facts.specs.Flat.{after, none_empty_in}
use Rattle.token_facts.specs.Lists.{all_tab_by, all_tab_at}
use Rattle.token_stream.specs.list.Kinds.{after_kind}
use Rattle.token_stream.specs.list.Tokens.{tokens_from, after_token, leaf_of, opener_of, closer_of_lem}
use Rattle.token_stream.proofs.list.Dividers.{divider, dividing, divider_token, tokens_end}

-- ---- 50, token by token

-- what `all` over 0..n tells
pub each_told : (p : ℕ → Bool) (n : ℕ) (r : Bool)
    → MatchBool r (AllWithin (λ k. p k ≡ true) (range_with_len 0 n) 0 (length (range_with_len 0 n)))
    ((k : ℕ) × (k < length (range_with_len 0 n)) × HoldsAt (λ k. p k ≡ false) (range_with_len 0 n) k) → r ≡ all p (tab (λ k. k) 0 n)
each_told p n true whole =
    sym (all_tab_by p (λ k. k) 0 n λ k l. rw (get_or-range_with_len 0 n k 0 l) at (whole k 0 (omega arith) (omega (arith, length-range_with_len 0 n))))
each_told p n false (k, low, stops) =
    let l : k < n = omega (arith, length-range_with_len 0 n) in
    by_test (all p (tab (λ k. k) 0 n))
    (λ t.
    let right = all_tab_at p (λ k. k) 0 n t k l in
    let wrong = rw (get_or-range_with_len 0 n k 0 l) at (stops 0) in
    cc)
    λ f. sym f

-- ---- 50, nesting

nested_closer : (d : ℕ) (ts : List Token) → eqb d 0 ≡ false → nested d (closer ∷ ts) ≡ nested (d - 1) ts
unfolding nested
nested_closer zero ts h = sym h ∙ cc
nested_closer (suc d) ts h =
    let e : suc d - 1 ≡ d = omega arith in
    rw e

nested_of : (kind : ℕ) (s : List ℕ) (d : ℕ) (ts : List Token) → (eqb kind 7 && eqb d 0) ≡ false
    → nested d (token_of kind s ∷ ts) ≡ nested (after_kind d kind) ts
unfolding nested
nested_of kind s d ts h =
    by_test (eqb kind 7)
    (λ t.
    ap (λ (x : Token). nested d (x ∷ ts)) (closer_of_lem kind s (eqb-true kind 7 t)) ∙ nested_closer d ts (rw t at h) ∙ rw t)
    λ f.
    by_test (ltb 2 kind)
    (λ t. ap (λ (x : Token). nested d (x ∷ ts)) (opener_of kind s (ltb-true 2 kind t) (eqb_apart kind 7 f)) ∙ rw (f, t))
    λ g.
    let low = ltb-false 2 kind g in
    let (a, e, _) = leaf_of kind s (omega arith) in
    ap (λ (x : Token). nested d (x ∷ ts)) e ∙ rw (f, g)

nested_zero : (ts : List Token) → nested 0 (closer ∷ ts) ≡ false
unfolding nested
nested_zero ts = refl

nested_none : (d : ℕ) → nested d [] ≡ eqb d 0
unfolding nested
nested_none d = refl

module _ (list text : List ℕ) (k d : ℕ) where
  pub nested_turn : {d' : ℕ} → k < count list → (eqb (kind_at list k) 7 && eqb d 0) ≡ false → d' ≡ after_kind d (kind_at list k)
      → nested d' (drop (k + 1) (tokens list text)) ≡ nested d (drop k (tokens list text))
  nested_turn h t e =
      ap (λ (x : ℕ). nested x (drop (k + 1) (tokens list text))) e
      ∙ sym (nested_of (kind_at list k) (text_at list text k) d (drop (k + 1) (tokens list text)) t)
      ∙ sym (ap (nested d) (tokens_from list text k h))

  pub nested_stop : k < count list → (eqb (kind_at list k) 7 && eqb d 0) ≡ true → false ≡ nested d (drop k (tokens list text))
  nested_stop h t = sym (ap (nested d) (tokens_from list text k h) ∙ go (kind_at list k) (text_at list text k) d t)
    where
      go : (kind : ℕ) (s : List ℕ) (d : ℕ) → (eqb kind 7 && eqb d 0) ≡ true
          → nested d (token_of kind s ∷ drop (k + 1) (tokens list text)) ≡ false
      go kind s d t =
          let (a, b) = (and_iff (eqb kind 7) (eqb d 0)).0 t in
          ap (λ (x : Token). nested d (x ∷ drop (k + 1) (tokens list text))) (closer_of_lem kind s (eqb-true kind 7 a))
          ∙ ap (λ (x : ℕ). nested x (closer ∷ drop (k + 1) (tokens list text))) (eqb-true d 0 b)
          ∙ nested_zero (drop (k + 1) (tokens list text))

  pub nested_end : count list ≤ k → eqb d 0 ≡ nested d (drop k (tokens list text))
  nested_end h = sym (ap (nested d) (tokens_end list text k h) ∙ nested_none d)

-- ---- 51

empty_of : (d : ℕ) (b : Bool) (t : Token) (ts : List Token)
    → none_empty_in d b (t ∷ ts) ≡ (if divider d t then b && none_empty_in d false ts else none_empty_in (after d t) true ts)
unfolding none_empty_in
empty_of d b (single a) ts = refl
empty_of d b (opener k) ts = refl
empty_of d b closer ts = refl

empty_none : (d : ℕ) (b : Bool) → none_empty_in d b [] ≡ b
unfolding none_empty_in
empty_none d b = refl

module _ (list text : List ℕ) (k d : ℕ) (b : Bool) where
  abbrev rest : List Token
  rest = drop (k + 1) (tokens list text)

  -- the rest, whether token k divides or not
  abbrev onward : Bool → Bool
  onward x = if x then b && none_empty_in d false rest else none_empty_in (after_kind d (kind_at list k)) true rest

  empty_from : tokens_right list text ≡ true → k < count list → none_empty_in d b (drop k (tokens list text)) ≡ onward (dividing list text k d)
  empty_from r h =
      ap (none_empty_in d b) (tokens_from list text k h) ∙ empty_of d b (token_at list text k) rest
      ∙ ap (λ (x : Bool). if x then b && none_empty_in d false rest else none_empty_in (after d (token_at list text k)) true rest)
      (sym (divider_token list text d k r h))
      ∙ ap (λ (x : ℕ). if dividing list text k d then b && none_empty_in d false rest else none_empty_in x true rest) (after_token list text d k)

  pub empty_divider : {d' : ℕ} {b' : Bool} → tokens_right list text ≡ true → k < count list → dividing list text k d ≡ true → b ≡ true
      → d' ≡ d → b' ≡ false → none_empty_in d' b' rest ≡ none_empty_in d b (drop k (tokens list text))
  empty_divider r h t s e f =
      cc (empty_from r h ∙ ap onward t
      ∙ ap (λ (x : Bool). x && none_empty_in d false rest) s)

  pub empty_other : {d' : ℕ} {b' : Bool} → tokens_right list text ≡ true → k < count list → dividing list text k d ≡ false
      → d' ≡ after_kind d (kind_at list k) → b' ≡ true → none_empty_in d' b' rest ≡ none_empty_in d b (drop k (tokens list text))
  empty_other r h t e f =
      cc (empty_from r h ∙ ap onward t)

  pub empty_stop : tokens_right list text ≡ true → k < count list → dividing list text k d ≡ true → b ≡ false
      → false ≡ none_empty_in d b (drop k (tokens list text))
  empty_stop r h t s =
      sym
      (empty_from r h ∙ ap onward t
      ∙ ap (λ (x : Bool). x && none_empty_in d false rest) s)

  pub empty_end : count list ≤ k → b ≡ none_empty_in d b (drop k (tokens list text))
  empty_end h = sym (ap (none_empty_in d b) (tokens_end list text k h) ∙ empty_none d b)
