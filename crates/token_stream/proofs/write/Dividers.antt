-- Dividers, token by token: forwards to the semicolon that ends a concatenation, backwards to the comma that begins a component.
use Rattle.std.specs.Prelude.{◌+◌, ◌-◌, ◌&&◌, ◌∷◌}
use mathlib.Core.Path.{◌≡◌, refl, sym, ap, ◌∙◌}
use Prim.Native.Nat.{◌≤◌, ◌<◌}
use native.Mathlib.Omega.{arith}
use lib.ListN.{drop_of_length-le}
use lib.Seq.{slice, slice_empty}
use borrow.Author.Tests.{ltb-true, ltb-false}
use Rattle.definition.specs.Prelude.{ℕ, suc, Bool, true, false, List, reverse, length, drop, ltb, eqb}
use Rattle.definition.specs.Characters.{char}
use Rattle.definition.specs.Tokens.{Token, single, opener, closer, kind_at, token_at, count, tokens, tokens_right}
use Rattle.laws.specs.Tests.{by_test, and_iff, eqb_iff, eqb_apart}
use Rattle.token_facts.specs.Flat.{after, to_semicolon, to_comma}
use Rattle.token_stream.specs.list.Kinds.{after_kind, before_kind, divides_by}
use Rattle.token_stream.specs.list.Tokens.{punct_is, length_tokens, tokens_from, tokens_back, after_token, divides_token}
use Rattle.token_stream.specs.list.Tokens.{leaf_token, opener_token, closer_token}

-- how many groups are open before a token
abbrev before_token : ℕ → Token → ℕ
before_token d (single a) = d
before_token d (opener k) = d - 1
before_token d closer = suc d

before_token_lem : (list text : List ℕ) (d k : ℕ) → before_token d (token_at list text k) ≡ before_kind d (kind_at list k)
before_token_lem list text d k =
    let kind = kind_at list k in
    by_test (eqb kind 7)
    (λ t. ap (before_token d) (closer_token list text k ((eqb_iff kind 7).0 t)) ∙ rw t)
    (λ t. by_test (ltb 2 kind)
    (λ u. ap (before_token d) (opener_token list text k (ltb-true 2 kind u) (eqb_apart kind 7 t)) ∙ rw (t, u))
    (λ u. let low : kind < 3 = omega (arith, ltb-false 2 kind u) in
    let (a, e, _) = leaf_token list text k low in
    ap (before_token d) e ∙ rw (t, u)))

no_divider : (x : Bool) → (x && false) ≡ true → false ≡ true
no_divider x h = ((and_iff x false).0 h).1

-- ---- one token

semicolon_here : (d : ℕ) (t : Token) (ts : List Token) → (eqb d 0 && punct_is char.semicolon t) ≡ true → to_semicolon d (t ∷ ts) ≡ 0
unfolding to_semicolon
semicolon_here d (single a) ts h = rw h
semicolon_here d (opener k) ts h = cc (no_divider (eqb d 0) h)
semicolon_here d closer ts h = cc (no_divider (eqb d 0) h)

semicolon_next : (d : ℕ) (t : Token) (ts : List Token) → (eqb d 0 && punct_is char.semicolon t) ≡ false
    → to_semicolon d (t ∷ ts) ≡ suc (to_semicolon (after d t) ts)
unfolding to_semicolon
semicolon_next d (single a) ts h = rw h
semicolon_next d (opener k) ts h = refl
semicolon_next d closer ts h = refl

comma_here : (d : ℕ) (t : Token) (ts : List Token) → (eqb d 0 && punct_is char.comma t) ≡ true → to_comma d (t ∷ ts) ≡ 0
unfolding to_comma
comma_here d (single a) ts h = rw h
comma_here d (opener k) ts h = cc (no_divider (eqb d 0) h)
comma_here d closer ts h = cc (no_divider (eqb d 0) h)

comma_next : (d : ℕ) (t : Token) (ts : List Token) → (eqb d 0 && punct_is char.comma t) ≡ false
    → to_comma d (t ∷ ts) ≡ suc (to_comma (before_token d t) ts)
unfolding to_comma
comma_next d (single a) ts h = rw h
comma_next d (opener k) ts h = refl
comma_next d closer ts h = refl

-- ---- one token of a list

module _ (list text : List ℕ) (right : tokens_right list text ≡ true) where
  -- from token e on, d groups being open; r is what the code asked of the token, and d' are open after it
  pub end_here : (d e : ℕ) {r : Bool} → e < count list → r ≡ divides_by list text e d char.semicolon → r ≡ true
      → to_semicolon d (drop e (tokens list text)) ≡ 0
  end_here d e h told g =
      ap (to_semicolon d) (tokens_from list text e h)
      ∙ semicolon_here d (token_at list text e) (drop (e + 1) (tokens list text))
      (sym (told ∙ divides_token list text char.semicolon d e right h) ∙ g)

  pub end_next : (d e : ℕ) {r : Bool} {d' : ℕ} → e < count list → r ≡ divides_by list text e d char.semicolon → r ≡ false
      → d' ≡ after_kind d (kind_at list e) → to_semicolon d (drop e (tokens list text)) ≡ suc (to_semicolon d' (drop (e + 1) (tokens list text)))
  end_next d e {r} {d'} h told g f =
      let rest = drop (e + 1) (tokens list text) in
      let now_open : after d (token_at list text e) ≡ d' = after_token list text d e ∙ sym f in
      ap (to_semicolon d) (tokens_from list text e h)
      ∙ semicolon_next d (token_at list text e) rest (sym (told ∙ divides_token list text char.semicolon d e right h) ∙ g)
      ∙ ap (λ n. suc (to_semicolon n rest)) now_open

  pub end_last : (d e : ℕ) → count list ≤ e → to_semicolon d (drop e (tokens list text)) ≡ 0
  unfolding to_semicolon
  end_last d e h =
      let past : length (tokens list text) ≤ e = let n = length_tokens list text in omega arith in
      ap (to_semicolon d) (drop_of_length-le (tokens list text) past)

  -- from token s back to a; d' are open before the token before s
  pub start_here : (d a s : ℕ) {r : Bool} → a < s → s ≤ count list → r ≡ divides_by list text (s - 1) d char.comma → r ≡ true
      → to_comma d (reverse (slice a s (tokens list text))) ≡ 0
  start_here d a s h k told g =
      ap (to_comma d) (tokens_back list text a s h k)
      ∙ comma_here d (token_at list text (s - 1)) (reverse (slice a (s - 1) (tokens list text)))
      (sym (told ∙ divides_token list text char.comma d (s - 1) right (omega arith)) ∙ g)

  pub start_next : (d a s : ℕ) {r : Bool} {d' : ℕ} → a < s → s ≤ count list → r ≡ divides_by list text (s - 1) d char.comma → r ≡ false
      → d' ≡ before_kind d (kind_at list (s - 1))
      → to_comma d (reverse (slice a s (tokens list text))) ≡ suc (to_comma d' (reverse (slice a (s - 1) (tokens list text))))
  start_next d a s {r} {d'} h k told g f =
      let rest = reverse (slice a (s - 1) (tokens list text)) in
      let now_open : before_token d (token_at list text (s - 1)) ≡ d' = before_token_lem list text d (s - 1) ∙ sym f in
      ap (to_comma d) (tokens_back list text a s h k)
      ∙ comma_next d (token_at list text (s - 1)) rest (sym (told ∙ divides_token list text char.comma d (s - 1) right (omega arith)) ∙ g)
      ∙ ap (λ n. suc (to_comma n rest)) now_open

  pub start_last : (d a s : ℕ) → a ≡ s → to_comma d (reverse (slice a s (tokens list text))) ≡ 0
  unfolding to_comma
  start_last d a s e = rw (e, slice_empty s (tokens list text))
