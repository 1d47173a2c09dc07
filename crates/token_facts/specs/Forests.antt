-- The forests of a stream and of its components: sound where the tokens are, and of one record or more where there is a token.
use Rattle.std.specs.Prelude.{◌≡◌, ◌≤◌, ◌&&◌, ◌∷◌, ◌++◌, if◌then◌else◌}
use Rattle.std.proofs.Math.Path.{refl}
use Rattle.std.proofs.Common.{arith}
use Rattle.definition.specs.Prelude.{ℕ, Bool, true, false, not, List, [], length, ltb}
use Rattle.definition.specs.Basics.{is_empty, all}
use Rattle.definition.specs.Characters.{char}
use Rattle.definition.specs.Image.{opens}
use Rattle.definition.specs.Tree.{Forest, end, word, group, flat, sound_forest}
use Rattle.definition.specs.TokenStream.{Leaf, ident, punct, literal, leaf_text, is_ident, is_punct, Stream, done, leaf, delimited, begins_ident, before, forest_of, on_first, new_component, divided}
use Rattle.definition.specs.Tokens.{Token, single, opener, closer, is_done}
use Rattle.laws.specs.Tests.{by_test, and_iff}
use Rattle.laws.specs.Lists.{all_append}
use Rattle.token_facts.specs.Flat.{flat_tokens, sound_leaf}
use Rattle.token_facts.specs.Kinds.{sound_token}

-- a token whose text is of bytes
abbrev pub byte_token : Token → Bool
byte_token (single a) = all (λ b. ltb b 256) (leaf_text a)
byte_token (opener k) = true
byte_token closer = true

abbrev pub fine_token : Token → Bool
fine_token t = sound_token t && byte_token t

-- what holds of each of two holds of the one that a test chooses
either_way : {A : Type 0} (P : A → Type 0) (t : Bool) (x y : A) → P x → P y → P (if t then x else y)
either_way P true x y p q = p
either_way P false x y p q = q

-- ---- one forest

word_some : (a : Leaf) → sound_leaf a ≡ true → not (is_empty (leaf_text a)) ≡ true
word_some (ident []) h = h
word_some (ident (b ∷ s)) h = refl
word_some (punct []) h = h
word_some (punct (b ∷ s)) h = refl
word_some (literal []) h = h
word_some (literal (b ∷ s)) h = refl

append_some : (s w : List ℕ) → not (is_empty s) ≡ true → not (is_empty (s ++ w)) ≡ true
append_some [] w h = let z : ◌≡◌ {A = ℕ} 0 1 = cc in absurd (omega arith)
append_some (b ∷ s) w h = refl

before_sound : (s : List ℕ) (f : Forest) → not (is_empty s) ≡ true → all (λ b. ltb b 256) s ≡ true → sound_forest f ≡ true
    → sound_forest (before s f) ≡ true
unfolding sound_forest
before_sound s end n h g = refl
before_sound s (word w f) n h g =
    let (p, r) = (and_iff (not (is_empty w) && all (λ b. ltb b 256) w) (sound_forest f)).0 g in
    let (_, q) = (and_iff (not (is_empty w)) (all (λ b. ltb b 256) w)).0 p in
    rw (append_some s w n, all_append (λ (b : ℕ). ltb b 256) s w, h, q) r
before_sound s (group k inside f) n h g = g

pub fine_forest : (s : Stream) → all fine_token (flat_tokens s) ≡ true → sound_forest (forest_of s) ≡ true
unfolding flat_tokens all forest_of sound_forest
fine_forest done h = refl
fine_forest (leaf a rest) h =
    let (p, r) = (and_iff (sound_leaf a && byte_token (single a)) (all fine_token (flat_tokens rest))).0 h in
    let (q, b) = (and_iff (sound_leaf a) (byte_token (single a))).0 p in
    let some = word_some a q in
    let f = fine_forest rest r in
    either_way (λ (f : Forest). sound_forest f ≡ true) (is_ident a && begins_ident rest)
    (before (leaf_text a ++ char.space ∷ []) (forest_of rest)) (word (leaf_text a) (forest_of rest))
    (before_sound (leaf_text a ++ char.space ∷ []) (forest_of rest) (append_some (leaf_text a) (char.space ∷ []) some)
    (rw (all_append (λ (b : ℕ). ltb b 256) (leaf_text a) (char.space ∷ []), b)) f)
    (rw (some, b) f)
fine_forest (delimited k inside rest) h =
    let (p, r) = (and_iff (opens k && true) (all fine_token (flat_tokens inside ++ closer ∷ flat_tokens rest))).0 h in
    let (o, _) = (and_iff (opens k) true).0 p in
    let (i, g) = (and_iff (all fine_token (flat_tokens inside)) (all fine_token (flat_tokens rest))).0
    (rw (all_append fine_token (flat_tokens inside) (closer ∷ flat_tokens rest)) at r) in
    rw (o, fine_forest inside i) (fine_forest rest g)

before_size : (s : List ℕ) (f : Forest) → length (flat (before s f)) ≡ length (flat f)
unfolding flat
before_size s end = refl
before_size s (word w f) = refl
before_size s (group k inside f) = refl

begins_some : (s : Stream) → begins_ident s ≡ true → not (is_done s) ≡ true
begins_some done h = h
begins_some (leaf a rest) h = refl
begins_some (delimited k inside rest) h = refl

pub forest_some : (s : Stream) → not (is_done s) ≡ true → 1 ≤ length (flat (forest_of s))
unfolding forest_of flat
forest_some done h = let z : ◌≡◌ {A = ℕ} 0 1 = cc in absurd (omega arith)
forest_some (leaf a rest) h =
    by_test (is_ident a && begins_ident rest)
    (λ t.
    let some = forest_some rest (begins_some rest ((and_iff (is_ident a) (begins_ident rest)).0 t).1) in
    rw (t, before_size (leaf_text a ++ char.space ∷ []) (forest_of rest)) some)
    (λ t. rw t (omega arith))
forest_some (delimited k inside rest) h = omega arith

-- ---- the components

module _ (q : Stream → Bool) where
  on_first_lem : (f : Stream → Stream) → ((c : Stream) → q c ≡ true → q (f c) ≡ true) → (d : List (List Stream)) → all (all q) d ≡ true
      → all (all q) (on_first f d) ≡ true
  unfolding all
  on_first_lem f g [] h = refl
  on_first_lem f g ([] ∷ cs) h = h
  on_first_lem f g ((c ∷ rest) ∷ cs) h =
      let (p, r) = (and_iff (q c && all q rest) (all (all q) cs)).0 h in
      let (a, b) = (and_iff (q c) (all q rest)).0 p in
      rw (g c a, b) r

  new_component_lem : q done ≡ true → (d : List (List Stream)) → all (all q) d ≡ true → all (all q) (new_component d) ≡ true
  unfolding all
  new_component_lem g [] h = refl
  new_component_lem g (c ∷ cs) h = rw g h

-- what a leaf makes of the components after it, by cases
by_divider : (P : List (List Stream) → Type 0) (a : Leaf) (d : List (List Stream))
    → P (new_component d) → P ((done ∷ []) ∷ d) → P (on_first (leaf a) d)
    → P (if is_punct char.comma a then new_component d else if is_punct char.semicolon a then (done ∷ []) ∷ d else on_first (leaf a) d)
by_divider P a d x y z =
    let inner = if is_punct char.semicolon a then (done ∷ []) ∷ d else on_first (leaf a) d in
    either_way P (is_punct char.comma a) (new_component d) inner x
    (either_way P (is_punct char.semicolon a) ((done ∷ []) ∷ d) (on_first (leaf a) d) y z)

pub divided_all : (p : Token → Bool) (s : Stream) → all p (flat_tokens s) ≡ true → all (all (λ c. all p (flat_tokens c))) (divided s) ≡ true
unfolding all flat_tokens divided
divided_all p done h = refl
divided_all p (leaf a rest) h =
    let (a_is, r) = (and_iff (p (single a)) (all p (flat_tokens rest))).0 h in
    let d = divided_all p rest r in
    by_divider (λ (d : List (List Stream)). all (all (λ c. all p (flat_tokens c))) d ≡ true) a (divided rest)
    (new_component_lem (λ c. all p (flat_tokens c)) refl (divided rest) d) d
    (on_first_lem (λ c. all p (flat_tokens c)) (leaf a) (λ c e. rw a_is e) (divided rest) d)
divided_all p (delimited k inside rest) h =
    let (o, r) = (and_iff (p (opener k)) (all p (flat_tokens inside ++ closer ∷ flat_tokens rest))).0 h in
    let (i, g) = (and_iff (all p (flat_tokens inside)) (p closer && all p (flat_tokens rest))).0
    (rw (all_append p (flat_tokens inside) (closer ∷ flat_tokens rest)) at r) in
    let (c_is, f) = (and_iff (p closer) (all p (flat_tokens rest))).0 g in
    on_first_lem (λ c. all p (flat_tokens c)) (delimited k inside)
    (λ c e. rw (o, all_append p (flat_tokens inside) (closer ∷ flat_tokens c), i, c_is) e) (divided rest) (divided_all p rest f)
