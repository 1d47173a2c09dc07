-- One token: what is written of it, by its kind.
use Rattle.std.specs.Prelude.{◌+◌, ◌*◌, ◌-◌, ◌/◌, ◌∷◌}
use mathlib.Core.Path.{◌≡◌, refl, sym, ap, ◌∙◌}
use Prim.Native.Nat.{◌≤◌, ◌<◌}
use native.Mathlib.Nat.{add-zero}
use native.Mathlib.Omega.{arith}
use lib.ListN.{length-append}
use lib.Seq.{sets, slice}
use borrow.Author.Tests.{le-ltb}
use Rattle.definition.specs.Prelude.{ℕ, true, false, List, [], length, drop}
use Rattle.definition.specs.Characters.{char}
use Rattle.definition.specs.Image.{kinds, delimiter, bytes_at}
use Rattle.definition.specs.TokenStream.{Leaf, leaf_text}
use Rattle.definition.specs.Tokens.{Token, single, opener, closer, kind_at, text_start, text_length, token_at, tokens, count}
use Rattle.laws.specs.Padded.{length_padded}
use Rattle.laws.specs.Writing.{and_then}
use Rattle.token_facts.specs.Flat.{joins, inner, innermost}
use Rattle.token_stream.specs.list.Kinds.{KindIs, joined_by}
use Rattle.token_stream.specs.declared.list.Kind.TheVariants.{Opener, Closer}
use Rattle.token_stream.specs.list.Tokens.{goes_on, leaf_token, opener_token, closer_token, joins_token}
use Rattle.token_stream.specs.write.Steps.{EndIs, DelimiterIs, StepIs}
use Rattle.token_stream.specs.declared.write.component.Mark.{Mark}

-- ---- a leaf

leaf_goes : (base : ℕ) (t : Token) (a : Leaf) (ts : List Token) (area l₁ l₂ : List ℕ) (n : ℕ) (m : Mark) → t ≡ single a → joins a ts ≡ true
    → length (leaf_text a) ≡ n → l₁ ≡ sets area m.text (leaf_text a) → l₂ ≡ sets l₁ (m.text + n) (char.space ∷ [])
    → StepIs base t ts area l₂ m (record { «record» = m.record; text = m.text + n + 1; start = m.start; groups = m.groups })
leaf_goes base t a ts area l₁ l₂ n m is j e p q =
    rw is (record {
      area_is = rw j (and_then area m.text n (leaf_text a) (char.space ∷ []) p e q);
      record_is = rw j (sym (add-zero m.record));
      text_is = rw j (simp length-append (omega arith));
      start_is = rw j refl;
      groups_is = refl;
    })

leaf_ends : (base : ℕ) (t : Token) (a : Leaf) (ts : List Token) (area l₁ l₂ : List ℕ) (n : ℕ) (m m' : Mark) → t ≡ single a → joins a ts ≡ false
    → length (leaf_text a) ≡ n → l₁ ≡ sets area m.text (leaf_text a) → EndIs base kinds.chars 1 (m.text + n) m.groups l₁ l₂ m m'
    → StepIs base t ts area l₂ m m'
leaf_ends base t a ts area l₁ l₂ n m m' is j e p d =
    rw is (record {
      area_is = rw (j, ← p) d.area_is;
      record_is = rw j d.record_is;
      text_is = rw (j, e) d.text_is;
      start_is = rw (j, e) d.start_is;
      groups_is = d.groups_is;
    })

module _ (list text : List ℕ) (base k e : ℕ) (low : kind_at list k < 3) (order : k < e) (stops : e ≤ count list) where
  -- what its text is
  leaf_text_lem : (n start : ℕ) → n ≡ text_length list k → start ≡ text_start list k
      → (a : Leaf) × (token_at list text k ≡ single a) × (leaf_text a ≡ bytes_at text start n)
  leaf_text_lem n start p q =
      let (a, is, same) = leaf_token list text k low in
      let f = le-ltb 2 (kind_at list k) (omega arith) in
      (a, is, rw (p, q) (rw f at same))

  pub put_goes : (area l₁ l₂ : List ℕ) (n start : ℕ) (m : Mark) → n ≡ text_length list k → start ≡ text_start list k
      → joined_by list k e ≡ true → l₁ ≡ sets area m.text (bytes_at text start n) → l₂ ≡ sets l₁ (m.text + n) (char.space ∷ [])
      → StepIs base (token_at list text k) (slice (k + 1) e (tokens list text)) area l₂ m
      (record { «record» = m.record; text = m.text + n + 1; start = m.start; groups = m.groups })
  put_goes area l₁ l₂ n start m p q j u v =
      go (token_at list text k) (slice (k + 1) e (tokens list text)) (leaf_text_lem n start p q) (sym (joins_token list text k e order stops) ∙ j)
    where
      go : (t : Token) (ts : List Token) → (a : Leaf) × (t ≡ single a) × (leaf_text a ≡ bytes_at text start n) → goes_on t ts ≡ true
          → StepIs base t ts area l₂ m (record { «record» = m.record; text = m.text + n + 1; start = m.start; groups = m.groups })
      go t ts (a, is, same) w =
          let size : length (leaf_text a) ≡ n = ap (λ (l : List ℕ). length l) same ∙ length_padded n (drop start text) in
          leaf_goes base t a ts area l₁ l₂ n m is (rw is at w) size (rw same u) v

  pub put_ends : (area l₁ l₂ : List ℕ) (n start : ℕ) (m m' : Mark) → n ≡ text_length list k → start ≡ text_start list k
      → joined_by list k e ≡ false → l₁ ≡ sets area m.text (bytes_at text start n)
      → EndIs base kinds.chars 1 (m.text + n) m.groups l₁ l₂ m m'
      → StepIs base (token_at list text k) (slice (k + 1) e (tokens list text)) area l₂ m m'
  put_ends area l₁ l₂ n start m m' p q j u v =
      go (token_at list text k) (slice (k + 1) e (tokens list text)) (leaf_text_lem n start p q) (sym (joins_token list text k e order stops) ∙ j)
    where
      go : (t : Token) (ts : List Token) → (a : Leaf) × (t ≡ single a) × (leaf_text a ≡ bytes_at text start n) → goes_on t ts ≡ false
          → StepIs base t ts area l₂ m m'
      go t ts (a, is, same) w =
          let size : length (leaf_text a) ≡ n = ap (λ (l : List ℕ). length l) same ∙ length_padded n (drop start text) in
          leaf_ends base t a ts area l₁ l₂ n m m' is (rw is at w) size (rw same u) v

-- ---- an opener, a closer

opener_put : (base : ℕ) (t : Token) (ts : List Token) (area area' : List ℕ) (k b skip groups : ℕ) (m m' : Mark) → t ≡ opener k
    → b ≡ (delimiter k).opening → skip ≡ 2 + inner 0 ts → groups ≡ m.groups * 4 + (k - 1) → DelimiterIs base b k skip groups area area' m m'
    → StepIs base t ts area area' m m'
opener_put base t ts area area' k b skip groups m m' is p q r d =
    rw is (record {
      area_is = rw (← p, ← q) d.area_is;
      record_is = d.record_is;
      text_is = d.text_is;
      start_is = d.start_is;
      groups_is = d.groups_is ∙ r;
    })

closer_put : (base : ℕ) (t : Token) (ts : List Token) (area area' : List ℕ) (b : ℕ) (m m' : Mark) → t ≡ closer
    → b ≡ (delimiter (innermost m.groups)).closing → DelimiterIs base b kinds.closer 1 (m.groups / 4) area area' m m'
    → StepIs base t ts area area' m m'
closer_put base t ts area area' b m m' is p d =
    rw is (record {
      area_is = rw (← p) d.area_is;
      record_is = d.record_is;
      text_is = d.text_is;
      start_is = d.start_is;
      groups_is = d.groups_is;
    })

module _ (list text : List ℕ) (k : ℕ) where
  pub put_closer : (base e b : ℕ) (area area' : List ℕ) (m m' : Mark) → KindIs Closer (kind_at list k)
      → b ≡ (delimiter (innermost m.groups)).closing → DelimiterIs base b kinds.closer 1 (m.groups / 4) area area' m m'
      → StepIs base (token_at list text k) (slice (k + 1) e (tokens list text)) area area' m m'
  put_closer base e b area area' m m' is u d =
      closer_put base (token_at list text k) (slice (k + 1) e (tokens list text)) area area' b m m' (closer_token list text k is) u d

  module _ (group : ℕ) (is : KindIs (Opener group) (kind_at list k)) where
    is_opener : token_at list text k ≡ opener group
    is_opener =
        let e : kind_at list k - 2 ≡ group = omega (arith, is.2) in
        opener_token list text k is.0 is.1 ∙ ap opener e

    pub put_opener : (base e b skip : ℕ) (area area' : List ℕ) (m m' : Mark) → b ≡ (delimiter group).opening
        → skip ≡ 2 + inner 0 (slice (k + 1) e (tokens list text)) → DelimiterIs base b group skip (m.groups * 4 + (group - 1)) area area' m m'
        → StepIs base (token_at list text k) (slice (k + 1) e (tokens list text)) area area' m m'
    put_opener base e b skip area area' m m' u v d =
        opener_put base (token_at list text k) (slice (k + 1) e (tokens list text)) area area' group b skip _ m m' is_opener u v refl d
