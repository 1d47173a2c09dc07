-- The skip of an opener, token by token.
use Rattle.std.specs.Prelude.{◌+◌, ◌&&◌, ◌∷◌, if◌then◌else◌}
use mathlib.Core.Path.{◌≡◌, refl, sym, ◌∙◌}
use mathlib.Core.Logic.{◌≢◌}
use Prim.Native.Nat.{◌≤◌, ◌<◌}
use native.Mathlib.Nat.{add-zero}
use native.Mathlib.Omega.{arith}
use Rattle.std.specs.Int.{from_bool}
use lib.Seq.{slice, slice_empty}
use borrow.Author.Tests.{eqb-true, eq-eqb, ltb-true, ltb-false}
use Rattle.definition.specs.Prelude.{ℕ, zero, suc, Bool, true, false, not, List, ltb, eqb}
use Rattle.definition.specs.Tokens.{Token, single, opener, closer, kind_at, token_at, tokens, count}
use Rattle.laws.specs.Tests.{by_test, and_iff, eqb_iff, eqb_apart}
use Rattle.token_facts.specs.Flat.{after, inner}
use Rattle.token_facts.specs.Records.{closed}
use Rattle.token_stream.specs.list.Kinds.{after_kind, joined_by}
use Rattle.token_stream.specs.list.Tokens.{goes_on, tokens_slice, leaf_token, opener_token, closer_token, after_token, joins_token}

inner_next : (d : ℕ) (t : Token) (ts : List Token) → (t ≡ closer → d ≢ 0)
    → inner d (t ∷ ts) ≡ (if goes_on t ts then 0 else 1) + inner (after d t) ts
unfolding inner
inner_next d (single a) ts h = refl
inner_next d (opener k) ts h = refl
inner_next zero closer ts h = absurd (h refl refl)
inner_next (suc d) closer ts h = rw closed

module _ (list text : List ℕ) (j e : ℕ) (h : j < e) (g : e ≤ count list) where
  -- only kind 7 closes
  closes : token_at list text j ≡ closer → kind_at list j ≡ 7
  closes q =
      by_test (eqb (kind_at list j) 7) (λ t. (eqb_iff (kind_at list j) 7).0 t) λ t.
      by_test (ltb 2 (kind_at list j))
      (λ u.
      let is = opener_token list text j (ltb-true 2 (kind_at list j) u) (eqb_apart (kind_at list j) 7 t) in
      let z : ◌≡◌ {A = ℕ} 0 1 = cc in
      absurd (omega arith))
      (λ u.
      let low = ltb-false 2 (kind_at list j) u in
      let (a, is, _) = leaf_token list text j (omega arith) in
      let z : ◌≡◌ {A = ℕ} 0 1 = cc in
      absurd (omega arith))

  pub skip_next : (d d' r r' whole : ℕ) → d' ≡ after_kind d (kind_at list j) → (eqb (kind_at list j) 7 && eqb d 0) ≡ false
      → r' ≡ r + (if joined_by list j e then 0 else 1) → r + inner d (slice j e (tokens list text)) ≡ whole
      → r' + inner d' (slice (j + 1) e (tokens list text)) ≡ whole
  skip_next d d' r r' whole p o q w =
      go (token_at list text j) (slice (j + 1) e (tokens list text)) (joined_by list j e) (joins_token list text j e h g)
      (p ∙ sym (after_token list text d j)) (λ c. apart (closes c)) q (rw (tokens_slice list text j e h g) at w)
    where
      apart : kind_at list j ≡ 7 → d ≢ 0
      apart k z = let t : true ≡ false = rw (eq-eqb (kind_at list j) 7 k, eq-eqb d 0 z) at o in cc

      go : (t : Token) (ts : List Token) (b : Bool) → b ≡ goes_on t ts → d' ≡ after d t → (t ≡ closer → d ≢ 0)
          → r' ≡ r + (if b then 0 else 1) → r + inner d (t ∷ ts) ≡ whole → r' + inner d' ts ≡ whole
      go t ts b s p o q w =
          let n = inner_next d t ts o in
          let x : ◌≡◌ {A = ℕ} (if b then 0 else 1) (if goes_on t ts then 0 else 1) = rw s in
          rw p (omega arith)

  pub skip_closer : (d r whole : ℕ) → (eqb (kind_at list j) 7 && eqb d 0) ≡ true → r + inner d (slice j e (tokens list text)) ≡ whole → r ≡ whole
  unfolding inner
  skip_closer d r whole t w =
      let (k, z) = (and_iff (eqb (kind_at list j) 7) (eqb d 0)).0 t in
      sym (add-zero r)
      ∙ rw (eqb-true d 0 z, tokens_slice list text j e h g, closer_token list text j (eqb-true (kind_at list j) 7 k)) at w

pub skip_end : (list text : List ℕ) (d r e j whole : ℕ) → j ≡ e → r + inner d (slice j e (tokens list text)) ≡ whole → r ≡ whole
unfolding inner
skip_end list text d r e j whole q w = sym (add-zero r) ∙ rw (q, slice_empty e (tokens list text)) at w

-- the record that ends with a token, if one does
pub ends : (b : Bool) {x : ℕ} → x ≡ from_bool (not b) → (x ≡ (if b then 0 else 1)) × (x ≤ 1)
ends true e = (e, omega arith)
ends false e = (e, omega arith)
