-- Laws of the tokens of a list: one by one, from the front and from the back, and by the numbers of an entry.
use Rattle.std.specs.Prelude.{◌≡◌, refl, ◌≢◌, ◌≤◌, ◌<◌, ◌+◌, ◌-◌, ◌%◌, ◌&&◌, ◌∷◌}
use Rattle.std.proofs.Common.{sym, ap, ◌∙◌, zero-add, add-zero, add-one, arith, le-ltb, ltb-true, ltb-false, eqb-true, eq-eqb, ne_eqb, drop-cons, take-suc, get_or-drop, length-take-le}
use Rattle.std.proofs.lemmas.List.{reverse-append, drop-append-le}
use Rattle.std.proofs.Math.Seq.{slice, slice-cons, slice_empty}
use Rattle.definition.specs.Prelude.{ℕ, zero, suc, Bool, true, false, List, [], reverse, length, get_or, take, drop, leb, ltb, eqb}
use Rattle.definition.specs.Basics.{all, tab}
use Rattle.definition.specs.TokenStream.{Leaf, ident, punct, literal, leaf_text, is_punct}
use Rattle.definition.specs.Tokens.{Token, single, opener, closer, kind_at, text_start, text_length, text_at, token_of, token_at, count, tokens, token_right, tokens_right, nested}
use Rattle.laws.specs.Tests.{by_test, and_iff, leb_iff, eqb_apart, tested}
use Rattle.laws.specs.Lists.{length_tab, get_or_tab}
use Rattle.laws.specs.Padded.{get_or_padded}
use Rattle.token_facts.specs.Flat.{after, starts_ident, joins}
use Rattle.token_facts.specs.Lists.{all_tab_at}
use Rattle.token_stream.specs.list.Kinds.{after_kind, divides_by, joined_by}

abbrev pub punct_is : ℕ → Token → Bool
punct_is b (single a) = is_punct b a
punct_is b (opener k) = false
punct_is b closer = false

abbrev pub goes_on : Token → List Token → Bool
goes_on (single a) ts = joins a ts
goes_on (opener k) ts = false
goes_on closer ts = false

-- ---- a token of a kind and a text

module _ (kind : ℕ) (s : List ℕ) where
  pub leaf_of : kind < 3 → (a : Leaf) × (token_of kind s ≡ single a) × (leaf_text a ≡ s)
  leaf_of h =
      by_test (eqb kind 0) (λ t. (ident s, rw t, refl)) λ f₀.
      by_test (eqb kind 1) (λ t. (punct s, rw (f₀, t), refl)) λ f₁.
      let n₀ = eqb_apart kind 0 f₀ in
      let n₁ = eqb_apart kind 1 f₁ in
      (literal s, rw (f₀, f₁, eq-eqb kind 2 (omega arith)), refl)

  pub opener_of : 2 < kind → kind ≢ 7 → token_of kind s ≡ opener (kind - 2)
  opener_of h g = rw (ne_eqb kind 0 (omega arith), ne_eqb kind 1 (omega arith), ne_eqb kind 2 (omega arith), ne_eqb kind 7 g)

  pub closer_of_lem : kind ≡ 7 → token_of kind s ≡ closer
  closer_of_lem h = rw h

  pub after_of : (d : ℕ) → after d (token_of kind s) ≡ after_kind d kind
  after_of d =
      by_test (eqb kind 7) (λ t. ap (after d) (closer_of_lem (eqb-true kind 7 t)) ∙ rw t) λ f.
      by_test (ltb 2 kind) (λ t. ap (after d) (opener_of (ltb-true 2 kind t) (eqb_apart kind 7 f)) ∙ rw (f, t)) λ g.
      let low = ltb-false 2 kind g in
      let (a, e, _) = leaf_of (omega arith) in
      ap (after d) e ∙ rw (f, g)

  pub goes_of : (ts : List Token) → goes_on (token_of kind s) ts ≡ (eqb kind 0 && starts_ident ts)
  goes_of ts =
      by_test (eqb kind 0) (λ t. rw t) λ f₀.
      by_test (eqb kind 1) (λ t. rw (f₀, t)) λ f₁.
      by_test (eqb kind 2) (λ t. rw (f₀, f₁, t)) λ f₂.
      by_test (eqb kind 7) (λ t. rw (f₀, f₁, f₂, t)) λ f₇. rw (f₀, f₁, f₂, f₇)

  pub starts_of : (ts : List Token) → starts_ident (token_of kind s ∷ ts) ≡ eqb kind 0
  starts_of ts =
      by_test (eqb kind 0) (λ t. rw t) λ f₀.
      by_test (eqb kind 1) (λ t. rw (f₀, t)) λ f₁.
      by_test (eqb kind 2) (λ t. rw (f₀, f₁, t)) λ f₂.
      by_test (eqb kind 7) (λ t. rw (f₀, f₁, f₂, t)) λ f₇. rw (f₀, f₁, f₂, f₇)

  pub punct_of : (b : ℕ) → punct_is b (token_of kind s) ≡ (eqb kind 1 && eqb (get_or s 0 0) b)
  punct_of b =
      by_test (eqb kind 0) (λ t. rw (t, ne_eqb kind 1 (let e = eqb-true kind 0 t in omega arith))) λ f₀.
      by_test (eqb kind 1) (λ t. rw (f₀, t)) λ f₁.
      by_test (eqb kind 2) (λ t. rw (f₀, f₁, t)) λ f₂.
      by_test (eqb kind 7) (λ t. rw (f₀, f₁, f₂, t)) λ f₇. rw (f₀, f₁, f₂, f₇)

-- one element more, from the back
reverse_slice : {A : Type 0} (l : List A) (a s : ℕ) (d : A) → a ≤ s → s < length l
    → reverse (slice a (suc s) l) ≡ get_or l s d ∷ reverse (slice a s l)
reverse_slice l a s d h g =
    let n = length-take-le s l (omega arith) in
    rw (take-suc l s d g, drop-append-le a (take s l) (get_or l s d ∷ []) (omega arith), reverse-append (slice a s l) (get_or l s d ∷ []))

module _ (list text : List ℕ) where
  pub length_tokens : length (tokens list text) ≡ count list
  length_tokens = length_tab (token_at list text) 0 (count list)

  token_is : (k : ℕ) → k < count list → get_or (tokens list text) k closer ≡ token_at list text k
  token_is k h = get_or_tab (token_at list text) 0 (count list) k closer h ∙ rw zero-add

  pub tokens_from : (k : ℕ) → k < count list → drop k (tokens list text) ≡ token_at list text k ∷ drop (k + 1) (tokens list text)
  tokens_from k h =
      let n = length_tokens in
      drop-cons (tokens list text) k closer (omega arith) ∙ rw (token_is k h, add-one k)

  pub tokens_slice : (k e : ℕ) → k < e → e ≤ count list
      → slice k e (tokens list text) ≡ token_at list text k ∷ slice (k + 1) e (tokens list text)
  tokens_slice k e h g =
      let n = length_tokens in
      slice-cons k e (tokens list text) closer h (omega arith) ∙ rw (token_is k (omega arith), add-one k)

  -- from the back
  pub tokens_back : (a s : ℕ) → a < s → s ≤ count list
      → reverse (slice a s (tokens list text)) ≡ token_at list text (s - 1) ∷ reverse (slice a (s - 1) (tokens list text))
  tokens_back a zero h g = absurd (omega arith)
  tokens_back a (suc s) h g =
      let n = length_tokens in
      let e : suc s - 1 ≡ s = omega arith in
      rw (e, ← token_is s (omega arith)) (reverse_slice (tokens list text) a s closer (omega arith) (omega arith))

  -- ---- by an entry's numbers

  pub leaf_token : (k : ℕ) → kind_at list k < 3 → (a : Leaf) × (token_at list text k ≡ single a) × (leaf_text a ≡ text_at list text k)
  leaf_token k h = leaf_of (kind_at list k) (text_at list text k) h

  pub opener_token : (k : ℕ) → 2 < kind_at list k → kind_at list k ≢ 7 → token_at list text k ≡ opener (kind_at list k - 2)
  opener_token k h g = opener_of (kind_at list k) (text_at list text k) h g

  pub closer_token : (k : ℕ) → kind_at list k ≡ 7 → token_at list text k ≡ closer
  closer_token k h = closer_of_lem (kind_at list k) (text_at list text k) h

  pub after_token : (d k : ℕ) → after d (token_at list text k) ≡ after_kind d (kind_at list k)
  after_token d k = after_of (kind_at list k) (text_at list text k) d

  pub joins_token : (k e : ℕ) → k < e → e ≤ count list
      → joined_by list k e ≡ goes_on (token_at list text k) (slice (k + 1) e (tokens list text))
  joins_token k e h g =
      by_test (ltb (k + 1) e)
      (λ t.
      let l = ltb-true (k + 1) e t in
      let rest = slice (k + 1 + 1) e (tokens list text) in
      rw t
      (sym
      (goes_of (kind_at list k) (text_at list text k) (slice (k + 1) e (tokens list text))
      ∙ ap (λ (ts : List Token). eqb (kind_at list k) 0 && starts_ident ts) (tokens_slice (k + 1) e l g)
      ∙ ap (λ (b : Bool). eqb (kind_at list k) 0 && b) (starts_of (kind_at list (k + 1)) (text_at list text (k + 1)) rest))))
      λ f.
      let l = ltb-false (k + 1) e f in
      let last : k + 1 ≡ e = omega arith in
      let empty : slice (k + 1) e (tokens list text) ≡ [] = rw last (slice_empty e (tokens list text)) in
      rw f
      (sym
      (goes_of (kind_at list k) (text_at list text k) (slice (k + 1) e (tokens list text))
      ∙ ap (λ (ts : List Token). eqb (kind_at list k) 0 && starts_ident ts) empty
      ∙ never (eqb (kind_at list k) 0)))
    where
      never : (b : Bool) → (b && false) ≡ false
      never true = refl
      never false = refl

  -- of a list that is not refused with 50

  pub each_right : (k : ℕ) → tokens_right list text ≡ true → k < count list → token_right list text k ≡ true
  each_right k r h =
      let each : Bool = all (token_right list text) (tab (λ k. k) 0 (count list)) in
      let whole = ((and_iff (eqb (length list % 12) 0 && each) (nested 0 (tokens list text))).0 r).0 in
      let places = ((and_iff (eqb (length list % 12) 0) each).0 whole).1 in
      rw zero-add at (all_tab_at (token_right list text) (λ k. k) 0 (count list) places k h)

  pub kind_most : (k : ℕ) → tokens_right list text ≡ true → k < count list → kind_at list k ≤ 7
  kind_most k r h = (leb_iff (kind_at list k) 7).0 ((and_iff (leb (kind_at list k) 7) _).0 (each_right k r h)).0

  pub text_within : (k : ℕ) → tokens_right list text ≡ true → k < count list → kind_at list k < 3
      → (1 ≤ text_length list k) × (text_start list k + text_length list k ≤ length text)
  text_within k r h g =
      let q = ((and_iff (leb (kind_at list k) 7) _).0 (each_right k r h)).1 in
      let most : kind_at list k ≤ 2 = omega arith in
      (simp tested at (rw (le-ltb 2 (kind_at list k) most) at q)).0

  pub divides_token : (b d k : ℕ) → tokens_right list text ≡ true → k < count list
      → divides_by list text k d b ≡ (eqb d 0 && punct_is b (token_at list text k))
  divides_token b d k r h =
      grouped (eqb d 0) (eqb (kind_at list k) 1) (eqb (get_or text (text_start list k) 0) b) (punct_is b (token_at list text k))
      (by_test (eqb (kind_at list k) 1)
      (λ t.
      let one = eqb-true (kind_at list k) 1 t in
      let low : kind_at list k < 3 = omega arith in
      let (some, _) = text_within k r h low in
      let long : 0 < text_length list k = omega arith in
      punct_of (kind_at list k) (text_at list text k) b
      ∙ ap (λ (x : ℕ). eqb (kind_at list k) 1 && eqb x b) (first one long))
      λ f. punct_of (kind_at list k) (text_at list text k) b ∙ rw f)
    where
      grouped : (x y z w : Bool) → w ≡ (y && z) → ((x && y) && z) ≡ (x && w)
      grouped true y z w e = sym e
      grouped false y z w e = refl

      first : kind_at list k ≡ 1 → 0 < text_length list k → get_or (text_at list text k) 0 0 ≡ get_or text (text_start list k) 0
      first one long =
          rw (le-ltb 2 (kind_at list k) (omega arith))
          (get_or_padded (text_length list k) (drop (text_start list k) text) 0 long ∙ get_or-drop (text_start list k) text 0 0 ∙ rw add-zero)
