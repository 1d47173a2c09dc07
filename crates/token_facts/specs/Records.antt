-- The records, skips and depth that a walk over a component's tokens finds are those of its forest.
use Rattle.std.specs.Prelude.{◌≡◌, refl, ◌≤◌, ◌+◌, ◌-◌, ◌&&◌, ◌||◌, ◌∷◌, ◌++◌, if◌then◌else◌}
use Rattle.std.proofs.Common.{append_assoc, append-nil, zero-add, add-zero, arith, length-append}
use Rattle.definition.specs.Prelude.{ℕ, suc, max, Bool, true, false, List, [], length, leb}
use Rattle.definition.specs.Basics.{is_empty}
use Rattle.definition.specs.Characters.{char}
use Rattle.definition.specs.Image.{opens}
use Rattle.definition.specs.Tree.{Forest, end, word, group, flat, depth}
use Rattle.definition.specs.TokenStream.{Leaf, Stream, done, leaf, delimited, leaf_text, is_ident, begins_ident, before, forest_of}
use Rattle.definition.specs.Tokens.{Token, closer}
use Rattle.laws.specs.Tests.{by_test, and_iff, leb_iff}
use Rattle.token_facts.specs.Flat.{flat_tokens, sound_leaf, sound_stream, starts_ident, joins, inner, pushed, innermost, popped, emit, deepest}
use Rattle.token_facts.specs.Statement.{EmitFlat}

-- ---- a text before that of the first record

-- an identifier's, where another follows
abbrev pub spaced : Leaf → List ℕ
spaced a = leaf_text a ++ char.space ∷ []

pub before_none : (f : Forest) → before [] f ≡ f
before_none end = refl
before_none (word s f) = refl
before_none (group k inside f) = refl

pub before_before : (p q : List ℕ) (f : Forest) → before p (before q f) ≡ before (p ++ q) f
before_before p q end = refl
before_before p q (word s f) = rw append_assoc
before_before p q (group k inside f) = refl

pub length_before : (p : List ℕ) (f : Forest) → length (flat (before p f)) ≡ length (flat f)
unfolding flat
length_before p end = refl
length_before p (word s f) = refl
length_before p (group k inside f) = refl

pub depth_before : (p : List ℕ) (f : Forest) → depth (before p f) ≡ depth f
unfolding depth
depth_before p end = refl
depth_before p (word s f) = refl
depth_before p (group k inside f) = refl

-- ---- what soundness says of the parts

pub sound_leaf_lem : (a : Leaf) (rest : Stream) → sound_stream (leaf a rest) ≡ true → (sound_leaf a ≡ true) × (sound_stream rest ≡ true)
unfolding sound_stream
sound_leaf_lem a rest t = (and_iff (sound_leaf a) (sound_stream rest)).0 t

pub sound_group : (k : ℕ) (inside rest : Stream) → sound_stream (delimited k inside rest) ≡ true
    → (opens k ≡ true) × (sound_stream inside ≡ true) × (sound_stream rest ≡ true)
unfolding sound_stream
sound_group k inside rest t =
    let (both, sound) = (and_iff (opens k && sound_stream inside) (sound_stream rest)).0 t in
    let (opening, in_sound) = (and_iff (opens k) (sound_stream inside)).0 both in
    (opening, in_sound, sound)

-- ---- what follows a stream

pub starts_flat : (s : Stream) (l : List Token) → starts_ident l ≡ false → starts_ident (flat_tokens s ++ l) ≡ begins_ident s
unfolding flat_tokens
starts_flat done l h = h
starts_flat (leaf a rest) l h = refl
starts_flat (delimited k inside rest) l h = refl

pub joins_flat : (a : Leaf) (s : Stream) (l : List Token) → starts_ident l ≡ false
    → joins a (flat_tokens s ++ l) ≡ (is_ident a && begins_ident s)
joins_flat a s l h = rw (starts_flat s l h)

-- ---- records inside a group

pub inner_flat : (s : Stream) (d : ℕ) (l : List Token) → starts_ident l ≡ false
    → inner d (flat_tokens s ++ l) ≡ length (flat (forest_of s)) + inner d l
unfolding flat_tokens inner flat forest_of
inner_flat done d l h = rw zero-add
inner_flat (leaf a rest) d l h =
    rw (starts_flat rest l h, inner_flat rest d l h) (go (is_ident a && begins_ident rest))
  where
    go : (j : Bool) → (if j then 0 else 1) + (length (flat (forest_of rest)) + inner d l)
        ≡ length (flat (if j then before (spaced a) (forest_of rest) else word (leaf_text a) (forest_of rest))) + inner d l
    go true = rw (length_before (spaced a) (forest_of rest)) (omega arith)
    go false = omega arith
inner_flat (delimited k inside rest) d l h =
    rw (
      append_assoc (flat_tokens inside) (closer ∷ flat_tokens rest) l,
      inner_flat inside (suc d) (closer ∷ (flat_tokens rest ++ l)) refl,
      inner_flat rest d l h,
      length-append,
    )
    (omega arith)

-- ---- the records of a component

-- an opener's kind comes back at its closer
pub innermost_pushed : (o k : ℕ) → opens k ≡ true → innermost (pushed o k) ≡ k
innermost_pushed o k h =
    let (a, b) = (and_iff (leb 1 k) (leb k 4)).0 h in
    let low : 1 ≤ k = (leb_iff 1 k).0 a in
    let high : k ≤ 4 = (leb_iff k 4).0 b in
    omega arith

pub popped_pushed : (o k : ℕ) → opens k ≡ true → popped (pushed o k) ≡ o
popped_pushed o k h =
    let (a, b) = (and_iff (leb 1 k) (leb k 4)).0 h in
    let low : 1 ≤ k = (leb_iff 1 k).0 a in
    let high : k ≤ 4 = (leb_iff k 4).0 b in
    omega arith

or_right : (a b : Bool) → b ≡ true → (a || b) ≡ true
or_right true b h = refl
or_right false b h = h

pub emit_in : (s : Stream) (o : ℕ) (p : List ℕ) (l : List Token) → sound_stream s ≡ true → starts_ident l ≡ false
    → (is_empty p || begins_ident s) ≡ true → emit o p (flat_tokens s ++ l) ≡ flat (before p (forest_of s)) ++ emit o [] l
unfolding flat_tokens emit flat forest_of inner
emit_in done o [] l t h e = refl
emit_in done o (b ∷ p) l t h e = cc
emit_in (leaf a rest) o p l t h e =
    let sound = (sound_leaf_lem a rest t).1 in
    by_test (is_ident a && begins_ident rest)
    (λ q. let b : begins_ident rest ≡ true = ((and_iff (is_ident a) (begins_ident rest)).0 q).1 in
    let begun = p ++ leaf_text a ++ char.space ∷ [] in
    rw (starts_flat rest l h, q, before_before p (spaced a) (forest_of rest), ← append_assoc p (leaf_text a) (char.space ∷ []))
    (emit_in rest o begun l sound h (or_right (is_empty begun) (begins_ident rest) b)))
    (λ q. rw (starts_flat rest l h, q, emit_in rest o [] l sound h refl, before_none (forest_of rest)))
emit_in (delimited k inside rest) o p l t h e =
    let (opening, in_sound, sound) = sound_group k inside rest t in
    let follows = closer ∷ (flat_tokens rest ++ l) in
    rw (
      append_assoc (flat_tokens inside) (closer ∷ flat_tokens rest) l,
      inner_flat inside 0 follows refl,
      emit_in inside (pushed o k) [] follows in_sound refl refl,
      before_none (forest_of inside),
      innermost_pushed o k opening,
      popped_pushed o k opening,
      emit_in rest o [] l sound h refl,
      before_none (forest_of rest),
      add-zero (length (flat (forest_of inside))),
      append_assoc,
    )

pub emit_flat : EmitFlat
unfolding emit
emit_flat s t =
    rw (append-nil (flat_tokens s), before_none (forest_of s), append-nil (flat (forest_of s))) at (emit_in s 0 [] [] t refl refl)

-- ---- the depth

-- after a group as before it
pub closed : (d : ℕ) → suc d - 1 ≡ d
closed d = omega arith

pub deepest_least : (d : ℕ) (l : List Token) → d ≤ deepest d l
unfolding deepest
deepest_least d [] = omega arith
deepest_least d (t ∷ l) = omega arith

pub deepest_flat : (s : Stream) (d : ℕ) (l : List Token) → deepest d (flat_tokens s ++ l) ≡ max (d + depth (forest_of s)) (deepest d l)
unfolding flat_tokens deepest depth forest_of
deepest_flat done d l = let h = deepest_least d l in omega arith
deepest_flat (leaf a rest) d l = let h = deepest_least d l in
    rw (deepest_flat rest d l) (go (is_ident a && begins_ident rest) h)
  where
    go : (j : Bool) → d ≤ deepest d l → max d (max (d + depth (forest_of rest)) (deepest d l))
        ≡ max (d + depth (if j then before (spaced a) (forest_of rest) else word (leaf_text a) (forest_of rest))) (deepest d l)
    go true h = rw (depth_before (spaced a) (forest_of rest)) (omega arith)
    go false h = omega arith
deepest_flat (delimited k inside rest) d l =
    let h = deepest_least d l in
    rw (
      append_assoc (flat_tokens inside) (closer ∷ flat_tokens rest) l,
      deepest_flat inside (suc d) (closer ∷ (flat_tokens rest ++ l)),
      closed d,
      deepest_flat rest d l,
    )
    (omega arith)
