-- What a component's tokens weigh (Flat, weigh): its records, its bytes, and nothing where only dividers weigh.
use Rattle.std.specs.Prelude.{◌≡◌, refl, ◌+◌, ◌&&◌, ◌∷◌, ◌++◌, if◌then◌else◌}
use mathlib.Core.List.{append_assoc}
use Rattle.std.proofs.Math.Nat.{zero-add}
use Rattle.std.proofs.Common.{arith, length-append}
use Rattle.definition.specs.Prelude.{ℕ, suc, Bool, true, false, List, [], length}
use Rattle.definition.specs.Image.{kinds, delimiter}
use Rattle.definition.specs.Tree.{Forest, end, word, group, flat, text_of}
use Rattle.definition.specs.TokenStream.{Leaf, leaf_text, is_ident, Stream, done, leaf, delimited, begins_ident, before, forest_of}
use Rattle.definition.specs.Tokens.{Token, single, opener, closer}
use Rattle.laws.specs.Tests.{by_test, and_iff}
use Rattle.prepared.specs.Groups.{text_of_append}
use Rattle.token_facts.specs.Flat.{flat_tokens, divides_at, undivided, starts_ident, rec_of, weigh, records, bytes}
use Rattle.token_facts.specs.Records.{spaced, starts_flat, closed, length_before}
use Rattle.token_facts.specs.Dividing.{Free, free_leaf, free_in}

-- a closer brings the walk back to where its opener stood
pub weigh_closer : (f : ℕ → Token → List Token → ℕ) (d : ℕ) (l : List Token)
    → weigh f (suc d) (closer ∷ l) ≡ f (suc d) closer l + weigh f d l
unfolding weigh
weigh_closer f d l = rw (closed d)

pub weigh_none : (f : ℕ → Token → List Token → ℕ) → weigh f 0 [] ≡ 0
unfolding weigh
weigh_none f = refl

pub weigh_single : (f : ℕ → Token → List Token → ℕ) (d : ℕ) (a : Leaf) (l : List Token)
    → weigh f d (single a ∷ l) ≡ f d (single a) l + weigh f d l
unfolding weigh
weigh_single f d a l = refl

pub records_in : (s : Stream) (d : ℕ) (l : List Token) → Free d s → starts_ident l ≡ false
    → weigh records d (flat_tokens s ++ l) ≡ length (flat (forest_of s)) + weigh records d l
unfolding flat_tokens weigh flat forest_of undivided
records_in done d l h e = rw zero-add
records_in (leaf a rest) d l h e =
    let (still, free) = free_leaf d a rest h in
    rw (still, starts_flat rest l e, records_in rest d l free e) (go (is_ident a && begins_ident rest))
  where
    go : (j : Bool) → (if j then 0 else 1) + (length (flat (forest_of rest)) + weigh records d l)
        ≡ length (flat (if j then before (spaced a) (forest_of rest) else word (leaf_text a) (forest_of rest))) + weigh records d l
    go true = rw (length_before (spaced a) (forest_of rest)) (omega arith)
    go false = omega arith
records_in (delimited k inside rest) d l h e =
    let follows = closer ∷ (flat_tokens rest ++ l) in
    rw (
      append_assoc (flat_tokens inside) (closer ∷ flat_tokens rest) l,
      records_in inside (suc d) follows (free_in d inside) refl,
      weigh_closer records d (flat_tokens rest ++ l),
      records_in rest d l h e,
      length-append,
    )
    (omega arith)

-- a stream that begins with an identifier begins with characters
abbrev starts_word : Forest → Bool
starts_word end = false
starts_word (word s f) = true
starts_word (group k inside f) = false

word_before : (p : List ℕ) (f : Forest) → starts_word (before p f) ≡ starts_word f
word_before p end = refl
word_before p (word s f) = refl
word_before p (group k inside f) = refl

begins_word : (s : Stream) → begins_ident s ≡ true → starts_word (forest_of s) ≡ true
unfolding forest_of
begins_word done h = cc
begins_word (leaf a rest) h =
    by_test (is_ident a && begins_ident rest)
    (λ q. rw (q, word_before (spaced a) (forest_of rest))
    (begins_word rest ((and_iff (is_ident a) (begins_ident rest)).0 q).1))
    (λ q. rw q)
begins_word (delimited k inside rest) h = cc

text_before : (p : List ℕ) (f : Forest) → starts_word f ≡ true
    → length (text_of (flat (before p f))) ≡ length p + length (text_of (flat f))
unfolding text_of flat
text_before p end h = cc
text_before p (word s f) h = simp length-append (omega arith)
text_before p (group k inside f) h = cc

text_group : (k : ℕ) (f g : Forest)
    → length (text_of (flat (group k f g))) ≡ 2 + (length (text_of (flat f)) + length (text_of (flat g)))
unfolding text_of flat
text_group k f g =
    rw (text_of_append (flat f) (rec_of kinds.closer ((delimiter k).closing ∷ []) 1 ∷ flat g), length-append) (omega arith)

pub bytes_in_lem : (s : Stream) (d : ℕ) (l : List Token) → Free d s → starts_ident l ≡ false
    → weigh bytes d (flat_tokens s ++ l) ≡ length (text_of (flat (forest_of s))) + weigh bytes d l
unfolding flat_tokens weigh flat forest_of undivided text_of
bytes_in_lem done d l h e = rw zero-add
bytes_in_lem (leaf a rest) d l h e =
    let (still, free) = free_leaf d a rest h in
    by_test (is_ident a && begins_ident rest)
    (λ q. rw (
      still,
      starts_flat rest l e,
      q,
      bytes_in_lem rest d l free e,
      text_before (spaced a) (forest_of rest) (begins_word rest ((and_iff (is_ident a) (begins_ident rest)).0 q).1),
      length-append,
    )
    (omega arith))
    (λ q. rw (still, starts_flat rest l e, q, bytes_in_lem rest d l free e, length-append) (omega arith))
bytes_in_lem (delimited k inside rest) d l h e =
    let follows = closer ∷ (flat_tokens rest ++ l) in
    rw (
      append_assoc (flat_tokens inside) (closer ∷ flat_tokens rest) l,
      bytes_in_lem inside (suc d) follows (free_in d inside) refl,
      weigh_closer bytes d (flat_tokens rest ++ l),
      bytes_in_lem rest d l h e,
      text_group k (forest_of inside) (forest_of rest),
    )
    (omega arith)

-- what only dividers weigh
module _ (f : ℕ → Token → List Token → ℕ) (on_leaf : (d : ℕ) (a : Leaf) (l : List Token) → divides_at d a ≡ false → f d (single a) l ≡ 0)
    (on_opener : (d k : ℕ) (l : List Token) → f d (opener k) l ≡ 0) (on_closer : (d : ℕ) (l : List Token) → f d closer l ≡ 0) where
  pub nothing_in : (s : Stream) (d : ℕ) (l : List Token) → Free d s → weigh f d (flat_tokens s ++ l) ≡ 0 + weigh f d l
  unfolding flat_tokens weigh undivided
  nothing_in done d l h = rw zero-add
  nothing_in (leaf a rest) d l h =
      let (still, free) = free_leaf d a rest h in
      rw (on_leaf d a (flat_tokens rest ++ l) still, nothing_in rest d l free) (omega arith)
  nothing_in (delimited k inside rest) d l h =
      let follows = closer ∷ (flat_tokens rest ++ l) in
      rw (
        append_assoc (flat_tokens inside) (closer ∷ flat_tokens rest) l,
        on_opener d k (flat_tokens inside ++ follows),
        nothing_in inside (suc d) follows (free_in d inside),
        weigh_closer f d (flat_tokens rest ++ l),
        on_closer (suc d) (flat_tokens rest ++ l),
        nothing_in rest d l h,
      )
      (omega arith)
