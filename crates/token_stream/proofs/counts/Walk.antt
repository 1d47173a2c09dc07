-- The walk of 52: what was added up and what is left give what the whole list gives. A turn, a stop over a limit, and the end.
use Rattle.std.specs.Prelude.{◌+◌, ◌&&◌, ◌∷◌}
use mathlib.Core.Path.{◌≡◌, refl, sym, ap, ◌∙◌}
use Prim.Native.Nat.{◌≤◌, ◌<◌}
use native.Mathlib.Nat.{add-zero, add_assoc}
use native.Mathlib.Omega.{arith}
use borrow.Author.Tests.{lt-ltb, ltb-true, le-leb, leb-true, leb-false, lt-leb}
use Rattle.definition.specs.Prelude.{ℕ, max, Bool, true, false, List, [], drop, leb, ltb}
use Rattle.definition.specs.Limits.{limits}
use Rattle.definition.specs.Tokens.{Token, kind_at, token_at, count, tokens}
use Rattle.laws.specs.Tests.{by_test, and_iff}
use Rattle.token_facts.specs.Flat.{after, weigh, deepest}
use Rattle.token_stream.specs.list.Kinds.{after_kind}
use Rattle.token_stream.specs.list.Tokens.{tokens_from, after_token}
use Rattle.token_stream.specs.counts.Counting.{Sums, sum_of, token_tally, list_tally, within, within_in, counts_in}
use Rattle.token_stream.proofs.list.Dividers.{tokens_end}

-- ---- the limits

pub record Held (t : Sums) (d : ℕ) : Type 0 where
  pub semicolons : t.semicolons < limits.concatenations
  pub dividers : t.dividers < limits.components
  pub records : t.records ≤ limits.records
  pub bytes : t.bytes ≤ limits.text
  pub depth : d ≤ limits.depth

module _ (t : Sums) (d : ℕ) where
  abbrev divided : Bool
  divided = ltb t.semicolons limits.concatenations && ltb t.dividers limits.components

  abbrev filled : Bool
  filled = leb t.records limits.records && leb t.bytes limits.text

  pub held : within t d ≡ true → Held t d
  held h =
      let (p, deep) = (and_iff (divided && filled) (leb d limits.depth)).0 h in
      let (q, f) = (and_iff divided filled).0 p in
      let (s, v) = (and_iff (ltb t.semicolons limits.concatenations) (ltb t.dividers limits.components)).0 q in
      let (r, b) = (and_iff (leb t.records limits.records) (leb t.bytes limits.text)).0 f in
      record {
        semicolons = ltb-true t.semicolons limits.concatenations s;
        dividers = ltb-true t.dividers limits.components v;
        records = leb-true t.records limits.records r;
        bytes = leb-true t.bytes limits.text b;
        depth = leb-true d limits.depth deep;
      }

  within_held : Held t d → within t d ≡ true
  within_held h =
      rw (
        lt-ltb t.semicolons limits.concatenations h.semicolons,
        lt-ltb t.dividers limits.components h.dividers,
        le-leb t.records limits.records h.records,
        le-leb t.bytes limits.text h.bytes,
        le-leb d limits.depth h.depth,
      )

-- ---- sums and depths

sum_assoc : (a b c : Sums) → sum_of (sum_of a b) c ≡ sum_of a (sum_of b c)
sum_assoc a b c = simp add_assoc

tally_cons : (d : ℕ) (t : Token) (ts : List Token) → list_tally d (t ∷ ts) ≡ sum_of (token_tally d t ts) (list_tally (after d t) ts)
unfolding weigh
tally_cons d t ts = refl

tally_none : (d : ℕ) (t : Sums) → sum_of t (list_tally d []) ≡ t
unfolding weigh
tally_none d t = simp add-zero

deepest_least : (d : ℕ) (ts : List Token) → d ≤ deepest d ts
unfolding deepest
deepest_least d [] = omega arith
deepest_least d (t ∷ ts) = omega arith

deepest_cons : (d : ℕ) (t : Token) (ts : List Token) → d ≤ limits.depth
    → leb (deepest d (t ∷ ts)) limits.depth ≡ leb (deepest (after d t) ts) limits.depth
unfolding deepest
deepest_cons d t ts h = go (deepest (after d t) ts)
  where
    go : (x : ℕ) → leb (max d x) limits.depth ≡ leb x limits.depth
    go x =
        by_test (leb x limits.depth)
        (λ t. let l = leb-true x limits.depth t in rw t (le-leb (max d x) limits.depth (omega arith)))
        (λ t. let l = leb-false x limits.depth t in rw t (lt-leb (max d x) limits.depth (omega arith)))

deepest_none : (d : ℕ) → deepest d [] ≡ d
unfolding deepest
deepest_none d = refl

-- a sum that is over a limit is over it with what is added, and so with the depth
over : (t x w : Sums) (d e f : ℕ) → sum_of t x ≡ w → d ≤ e → leb e limits.depth ≡ leb f limits.depth
    → within t d ≡ false → within w f ≡ false
over t x w d e f q h g o =
    by_test (within w f)
    (λ i.
    let k = held w f i in
    let deep : e ≤ limits.depth = leb-true e limits.depth (g ∙ le-leb f limits.depth k.depth) in
    let i' : within t d ≡ true = within_held t d (record {
      semicolons = omega (arith, ap (λ (s : Sums). s.semicolons) q, k.semicolons);
      dividers = omega (arith, ap (λ (s : Sums). s.dividers) q, k.dividers);
      records = omega (arith, ap (λ (s : Sums). s.records) q, k.records);
      bytes = omega (arith, ap (λ (s : Sums). s.bytes) q, k.bytes);
      depth = omega arith;
    }) in
    i ∙ sym i' ∙ o)
    (λ i. i)

-- ---- the walk

-- d groups being open before token k, and t the sums of the tokens before it
pub record Walked (list text : List ℕ) (k d : ℕ) (t : Sums) : Type 0 where
  pub now : within t d ≡ true
  pub sums : sum_of t (list_tally d (drop k (tokens list text))) ≡ list_tally 0 (tokens list text)
  pub depths : leb (deepest d (drop k (tokens list text))) limits.depth ≡ leb (deepest 0 (tokens list text)) limits.depth

module _ (list text : List ℕ) where
  module _ (k d : ℕ) (t : Sums) (w : Walked list text k d t) where
    module _ {d' : ℕ} {t' : Sums} (h : k < count list) (e : d' ≡ after_kind d (kind_at list k))
        (f : t' ≡ sum_of t (token_tally d (token_at list text k) (drop (k + 1) (tokens list text)))) where
      abbrev rest : List Token
      rest = drop (k + 1) (tokens list text)

      next : after d (token_at list text k) ≡ d'
      next = after_token list text d k ∙ sym e

      sums_turn : sum_of t' (list_tally d' rest) ≡ list_tally 0 (tokens list text)
      sums_turn =
          ap (λ (s : Sums). sum_of s (list_tally d' rest)) f ∙ sum_assoc t (token_tally d (token_at list text k) rest) (list_tally d' rest)
          ∙ ap (λ (x : ℕ). sum_of t (sum_of (token_tally d (token_at list text k) rest) (list_tally x rest))) (sym next)
          ∙ ap (sum_of t) (sym (tally_cons d (token_at list text k) rest))
          ∙ ap (λ (l : List Token). sum_of t (list_tally d l)) (sym (tokens_from list text k h)) ∙ w.sums

      depths_turn : leb (deepest d' rest) limits.depth ≡ leb (deepest 0 (tokens list text)) limits.depth
      depths_turn =
          ap (λ (x : ℕ). leb (deepest x rest) limits.depth) (sym next)
          ∙ sym (deepest_cons d (token_at list text k) rest (held t d w.now).depth)
          ∙ ap (λ (l : List Token). leb (deepest d l) limits.depth) (sym (tokens_from list text k h)) ∙ w.depths

      pub walked_turn : within t' d' ≡ true → Walked list text (k + 1) d' t'
      walked_turn i = record { now = i; sums = sums_turn; depths = depths_turn }

      pub walked_over : within t' d' ≡ false → within_in (tokens list text) ≡ false
      walked_over i =
          over t' (list_tally d' rest) (list_tally 0 (tokens list text)) d' (deepest d' rest) (deepest 0 (tokens list text)) sums_turn
          (deepest_least d' rest) depths_turn i

    module _ (h : count list ≤ k) where
      total : t ≡ list_tally 0 (tokens list text)
      total = sym (tally_none d t) ∙ ap (λ (l : List Token). sum_of t (list_tally d l)) (sym (tokens_end list text k h)) ∙ w.sums

      deep : leb d limits.depth ≡ leb (deepest 0 (tokens list text)) limits.depth
      deep =
          ap (λ (x : ℕ). leb x limits.depth) (sym (deepest_none d))
          ∙ ap (λ (l : List Token). leb (deepest d l) limits.depth) (sym (tokens_end list text k h)) ∙ w.depths

      pub walked_end : within_in (tokens list text) ≡ true
      walked_end =
          ap (λ (s : Sums). within s (deepest 0 (tokens list text))) (sym total)
          ∙ ap (λ (x : Bool). ltb t.semicolons limits.concatenations && ltb t.dividers limits.components
          && (leb t.records limits.records && leb t.bytes limits.text) && x) (sym deep)
          ∙ w.now

      pub walked_counts : record { c = t.semicolons + 1; n = t.dividers + 1; r = t.records; t = t.bytes; b = 0 }
          ≡ counts_in (tokens list text)
      walked_counts =
          ap (λ (s : Sums). record { c = s.semicolons + 1; n = s.dividers + 1; r = s.records; t = s.bytes; b = 0 }) total
