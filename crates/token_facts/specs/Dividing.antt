-- Dividers: a list of tokens is that of its concatenations and components; empty ones, and the ends of these, are found by a walk.
use Rattle.std.specs.Prelude.{◌≡◌, refl, ◌≤◌, ◌+◌, ◌&&◌, ◌||◌, ◌∷◌, ◌++◌, if◌then◌else◌}
use Rattle.std.proofs.Common.{sym, ap, ◌∙◌, zero-add, add-zero, arith, length-append}
use mathlib.Core.List.{append_assoc, reverse_aux, reverse_aux-eq, reverse_aux-append}
use Rattle.definition.specs.Prelude.{ℕ, suc, Bool, true, false, not, List, [], map, length, leb, eqb}
use Rattle.definition.specs.Basics.{all}
use Rattle.definition.specs.Characters.{char}
use Rattle.definition.specs.TokenStream.{Leaf, ident, punct, literal, is_punct, Stream, done, leaf, delimited, on_first, new_component, divided}
use Rattle.definition.specs.Tokens.{Token, single, opener, closer, is_done}
use Rattle.laws.specs.Tests.{by_test, and_iff, leb_iff, eqb_iff, eqb_false}
use Rattle.token_facts.specs.Flat.{flat_tokens, sound_leaf, sound_stream, divides, divides_at, undivided, is_component, comma, semicolon, between, none_empty_in, to_semicolon, to_comma}
use Rattle.token_facts.specs.Records.{sound_leaf_lem, sound_group, closed}
use Rattle.token_facts.specs.Statement.{EmptyFlat, PartedFlat, Ends, at_end, at_semicolon, ToSemicolon, Starts, at_start, at_comma, ToComma}

-- ---- there is always a first component

pub data First : List (List Stream) → Type 0 where
  first : (c : Stream) (cs : List Stream) (ds : List (List Stream)) → First ((c ∷ cs) ∷ ds)

first_on : (f : Stream → Stream) (d : List (List Stream)) → First d → First (on_first f d)
first_on f d (first c cs ds) = first (f c) cs ds

first_new : (d : List (List Stream)) → First d → First (new_component d)
first_new d (first c cs ds) = first done (c ∷ cs) ds

pub divided_first : (s : Stream) → First (divided s)
unfolding divided
divided_first done = first done [] []
divided_first (leaf a rest) =
    go (is_punct char.comma a) (is_punct char.semicolon a) (divided_first rest)
  where
    go : (b e : Bool) → First (divided rest)
        → First (if b then new_component (divided rest) else if e then (done ∷ []) ∷ divided rest else on_first (leaf a) (divided rest))
    go true e h = first_new (divided rest) h
    go false true h = first done [] (divided rest)
    go false false h = first_on (leaf a) (divided rest) h
divided_first (delimited k inside rest) = first_on (delimited k inside) (divided rest) (divided_first rest)

-- ---- 51

deep : (d : ℕ) → eqb (suc d) 0 ≡ false
deep d = eqb_false (suc d) 0 (omega arith)

none_closer : (d : ℕ) (l : List Token) → none_empty_in (suc d) true (closer ∷ l) ≡ none_empty_in d true l
unfolding none_empty_in
none_closer d l = ap (λ n. none_empty_in n true l) (closed d)

-- inside a group nothing divides
in_group : (s : Stream) (d : ℕ) (l : List Token) → none_empty_in (suc d) true (flat_tokens s ++ l) ≡ none_empty_in (suc d) true l
unfolding flat_tokens none_empty_in
in_group done d l = refl
in_group (leaf a rest) d l = rw deep (in_group rest d l)
in_group (delimited k inside rest) d l =
    rw (
      append_assoc (flat_tokens inside) (closer ∷ flat_tokens rest) l,
      in_group inside (suc d) (closer ∷ (flat_tokens rest ++ l)),
      none_closer,
    )
    (in_group rest d l)

-- the test of all components but that the first may have begun before
abbrev begun : Bool → List (List Stream) → Bool
begun b [] = true
begun b ([] ∷ ds) = true
begun b ((c ∷ cs) ∷ ds) = (b || not (is_done c)) && all (λ c. not (is_done c)) cs && all (all (λ c. not (is_done c))) ds

begun_on : (f : Stream → Stream) (d : List (List Stream)) (b : Bool) → ((c : Stream) → is_done (f c) ≡ false) → First d
    → begun true d ≡ begun b (on_first f d)
begun_on f d true h (first c cs ds) = refl
begun_on f d false h (first c cs ds) = rw (h c)

begun_divider : (a : Leaf) (d : List (List Stream)) (b x y : Bool) → First d
    → (if x || y then b && begun false d else begun true d)
    ≡ begun b (if x then new_component d else if y then (done ∷ []) ∷ d else on_first (leaf a) d)
unfolding all
begun_divider a d true true y (first c cs ds) = refl
begun_divider a d false true y (first c cs ds) = refl
begun_divider a d true false true (first c cs ds) = refl
begun_divider a d false false true (first c cs ds) = refl
begun_divider a d b false false h = begun_on (leaf a) d b (λ c. refl) h

empty_in : (s : Stream) (b : Bool) → none_empty_in 0 b (flat_tokens s) ≡ begun b (divided s)
unfolding flat_tokens none_empty_in divided all
empty_in done true = refl
empty_in done false = refl
empty_in (leaf a rest) b =
    rw (empty_in rest true, empty_in rest false)
    (begun_divider a (divided rest) b (is_punct char.comma a) (is_punct char.semicolon a) (divided_first rest))
empty_in (delimited k inside rest) b =
    rw (in_group inside 0 (closer ∷ flat_tokens rest), empty_in rest true)
    (begun_on (delimited k inside) (divided rest) b (λ c. refl) (divided_first rest))

pub empty_flat : EmptyFlat
unfolding all
empty_flat s = empty_in s false ∙ go (divided s) (divided_first s)
  where
    go : (d : List (List Stream)) → First d → begun false d ≡ all (all (λ c. not (is_done c))) d
    go d (first c cs ds) = refl

-- ---- concatenations and components

pub between_one : (t : Token) (l : List Token) → between t (l ∷ []) ≡ l
unfolding between
between_one t l = refl

pub between_two : (t : Token) (l m : List Token) (rest : List (List Token)) → between t (l ∷ m ∷ rest) ≡ l ++ t ∷ between t (m ∷ rest)
unfolding between
between_two t l m rest = refl

-- what stands before the first of the lists stands before all of them
between_front : (t : Token) (x l : List Token) (ls : List (List Token)) → between t ((x ++ l) ∷ ls) ≡ x ++ between t (l ∷ ls)
unfolding between
between_front t x l [] = refl
between_front t x l (m ∷ ls) = append_assoc x l (t ∷ between t (m ∷ ls))

abbrev pub tokens_of : List Stream → List Token
tokens_of c = between comma (map flat_tokens c)

abbrev pub list_of : List (List Stream) → List Token
list_of d = between semicolon (map tokens_of d)

list_on : (x : List Token) (f : Stream → Stream) (d : List (List Stream)) → ((c : Stream) → flat_tokens (f c) ≡ x ++ flat_tokens c) → First d
    → list_of (on_first f d) ≡ x ++ list_of d
list_on x f d h (first c cs ds) =
    rw (h c, between_front comma x (flat_tokens c) (map flat_tokens cs), between_front semicolon x (tokens_of (c ∷ cs)) (map tokens_of ds))

list_comma : (d : List (List Stream)) → First d → list_of (new_component d) ≡ comma ∷ list_of d
unfolding between flat_tokens
list_comma d (first c cs ds) = between_front semicolon (comma ∷ []) (tokens_of (c ∷ cs)) (map tokens_of ds)

list_semicolon : (d : List (List Stream)) → First d → list_of ((done ∷ []) ∷ d) ≡ semicolon ∷ list_of d
unfolding between flat_tokens
list_semicolon d (first c cs ds) = refl

-- punctuation of one byte is known by its character
pub the_punct : (b : ℕ) (a : Leaf) → sound_leaf a ≡ true → is_punct b a ≡ true → a ≡ punct (b ∷ [])
the_punct b (ident s) h t = cc
the_punct b (literal s) h t = cc
the_punct b (punct []) h t = cc
the_punct b (punct (c ∷ [])) h t = let e : c ≡ b = (eqb_iff c b).0 t in cc
the_punct b (punct (c ∷ e ∷ s)) h t = let z = (eqb_iff (length (c ∷ e ∷ s)) 1).0 h in absurd (omega arith)

list_is : (s : Stream) → sound_stream s ≡ true → flat_tokens s ≡ list_of (divided s)
unfolding flat_tokens divided between
list_is done t = refl
list_is (leaf a rest) t =
    let (one, sound) = sound_leaf_lem a rest t in
    let d = divided rest in
    let f = divided_first rest in
    let e = list_is rest sound in
    by_test (is_punct char.comma a)
    (λ x. rw (the_punct char.comma a one x, list_comma d f, e))
    (λ x. by_test (is_punct char.semicolon a)
    (λ y. rw (x, the_punct char.semicolon a one y, list_semicolon d f, e))
    (λ y. rw (x, y, list_on (single a ∷ []) (leaf a) d (λ c. refl) f, e)))
list_is (delimited k inside rest) t =
    let x = opener k ∷ (flat_tokens inside ++ closer ∷ []) in
    rw (
      list_on x (delimited k inside) (divided rest) (λ c. rw append_assoc) (divided_first rest),
      append_assoc,
      list_is rest (sound_group k inside rest t).2,
    )

parts_on : (f : Stream → Stream) (d : List (List Stream)) → ((c : Stream) → is_component (f c) ≡ is_component c) → First d
    → all (all is_component) (on_first f d) ≡ all (all is_component) d
unfolding all
parts_on f d h (first c cs ds) = rw (h c)

parts_new : (d : List (List Stream)) → First d → all (all is_component) (new_component d) ≡ all (all is_component) d
unfolding all sound_stream undivided
parts_new d (first c cs ds) = refl

parts : (s : Stream) → sound_stream s ≡ true → all (all is_component) (divided s) ≡ true
unfolding all sound_stream undivided divided
parts done t = refl
parts (leaf a rest) t =
    let (one, sound) = sound_leaf_lem a rest t in
    let d = divided rest in
    let f = divided_first rest in
    let e = parts rest sound in
    by_test (is_punct char.comma a)
    (λ x. rw (x, parts_new d f) e)
    (λ x. by_test (is_punct char.semicolon a)
    (λ y. rw (x, y) e)
    (λ y. rw (x, y, parts_on (leaf a) d (λ c. rw (one, x, y)) f) e))
parts (delimited k inside rest) t =
    let (opening, in_sound, sound) = sound_group k inside rest t in
    rw (parts_on (delimited k inside) (divided rest) (λ c. rw (opening, in_sound)) (divided_first rest)) (parts rest sound)

abbrev filled : List Stream → Bool
filled c = leb 1 (length c)

filled_cons : (c : Stream) (cs : List Stream) → filled (c ∷ cs) ≡ true
filled_cons c cs = (leb_iff 1 (length (c ∷ cs))).1 (omega arith)

pub divided_some : (s : Stream) → all filled (divided s) ≡ true
unfolding all divided
divided_some done = refl
divided_some (leaf a rest) = go (is_punct char.comma a) (is_punct char.semicolon a) (divided rest) (divided_first rest) (divided_some rest)
  where
    go : (x y : Bool) (d : List (List Stream)) → First d → all filled d ≡ true
        → all filled (if x then new_component d else if y then (done ∷ []) ∷ d else on_first (leaf a) d) ≡ true
    go true y d (first c cs ds) h = rw (filled_cons done (c ∷ cs)) (rw (filled_cons c cs) at h)
    go false true d f h = h
    go false false d (first c cs ds) h = h
divided_some (delimited k inside rest) = go (divided rest) (divided_first rest) (divided_some rest)
  where
    go : (d : List (List Stream)) → First d → all filled d ≡ true → all filled (on_first (delimited k inside) d) ≡ true
    go d (first c cs ds) h = h

pub divided_one : (s : Stream) → 1 ≤ length (divided s)
divided_one s = go (divided s) (divided_first s)
  where
    go : (d : List (List Stream)) → First d → 1 ≤ length d
    go d (first c cs ds) = omega arith

pub parted_flat : PartedFlat
parted_flat s t = record { list_is = list_is s t; parts = parts s t; some = divided_some s; one = divided_one s }

-- ---- the ends of concatenations and components

-- nothing in the stream divides where d groups are open
abbrev pub Free : ℕ → Stream → Type 0
Free d s = eqb d 0 ≡ true → undivided s ≡ true

pub free_leaf : (d : ℕ) (a : Leaf) (rest : Stream) → Free d (leaf a rest) → (divides_at d a ≡ false) × Free d rest
unfolding undivided
free_leaf d a rest h =
    let both : eqb d 0 ≡ true → (not (divides a) ≡ true) × (undivided rest ≡ true)
    = λ e. (and_iff (not (divides a)) (undivided rest)).0 (h e) in
    (go (eqb d 0) (divides a) (λ e. (both e).0), λ e. (both e).1)
  where
    go : (x y : Bool) → (x ≡ true → not y ≡ true) → (x && y) ≡ false
    go true true k = sym (k refl)
    go true false k = refl
    go false y k = refl

pub free_in : (d : ℕ) (s : Stream) → Free (suc d) s
free_in d s e = cc (deep d)

pub either_not : (x y z : Bool) → (x && (y || z)) ≡ false → ((x && y) ≡ false) × ((x && z) ≡ false)
either_not true true z h = (h, cc)
either_not true false z h = (refl, h)
either_not false y z h = (refl, refl)

pub semicolon_in : (s : Stream) (d : ℕ) (l : List Token) → Free d s
    → to_semicolon d (flat_tokens s ++ l) ≡ length (flat_tokens s) + to_semicolon d l
unfolding flat_tokens to_semicolon undivided
semicolon_in done d l h = rw zero-add
semicolon_in (leaf a rest) d l h =
    let (still, free) = free_leaf d a rest h in
    rw ((either_not (eqb d 0) (is_punct char.comma a) (is_punct char.semicolon a) still).1, semicolon_in rest d l free) (omega arith)
semicolon_in (delimited k inside rest) d l h =
    let after = closer ∷ (flat_tokens rest ++ l) in
    rw (
      append_assoc (flat_tokens inside) (closer ∷ flat_tokens rest) l,
      semicolon_in inside (suc d) after (free_in d inside),
      closed d,
      semicolon_in rest d l h,
      length-append,
    )
    (omega arith)

pub component_free : (c : Stream) → is_component c ≡ true → Free 0 c
component_free c h e = ((and_iff (sound_stream c) (undivided c)).0 h).1

at_the_end : (l : List Token) → Ends l → to_semicolon 0 l ≡ 0
unfolding to_semicolon
at_the_end l at_end = refl
at_the_end l (at_semicolon m) = refl

past_comma : (l : List Token) → to_semicolon 0 (comma ∷ l) ≡ suc (to_semicolon 0 l)
unfolding to_semicolon
past_comma l = refl

pub to_semicolon_lem : ToSemicolon
unfolding all between
to_semicolon_lem [] l h e = at_the_end l e
to_semicolon_lem (c ∷ []) l h e =
    let (mine, _) = (and_iff (is_component c) true).0 h in
    rw (between_one comma (flat_tokens c), semicolon_in c 0 l (component_free c mine), at_the_end l e, add-zero)
to_semicolon_lem (c ∷ x ∷ cs) l h e =
    let (mine, others) = (and_iff (is_component c) (all is_component (x ∷ cs))).0 h in
    let follows = tokens_of (x ∷ cs) in
    rw (
      between_two comma (flat_tokens c) (flat_tokens x) (map flat_tokens cs),
      append_assoc (flat_tokens c) (comma ∷ follows) l,
      semicolon_in c 0 (comma ∷ (follows ++ l)) (component_free c mine),
      past_comma (follows ++ l),
      to_semicolon_lem (x ∷ cs) l others e,
      length-append,
    )

pub comma_in : (s : Stream) (d : ℕ) (l : List Token) → Free d s
    → to_comma d (reverse_aux (flat_tokens s) l) ≡ length (flat_tokens s) + to_comma d l
unfolding flat_tokens to_comma undivided
comma_in done d l h = rw zero-add
comma_in (leaf a rest) d l h =
    let (still, free) = free_leaf d a rest h in
    rw (comma_in rest d (single a ∷ l) free, (either_not (eqb d 0) (is_punct char.comma a) (is_punct char.semicolon a) still).0)
    (omega arith)
comma_in (delimited k inside rest) d l h =
    let front = reverse_aux (flat_tokens inside) (opener k ∷ l) in
    rw (
      reverse_aux-append (flat_tokens inside) (closer ∷ flat_tokens rest) (opener k ∷ l),
      comma_in rest d (closer ∷ front) h,
      comma_in inside (suc d) (opener k ∷ l) (free_in d inside),
      closed d,
      length-append,
    )
    (omega arith)

at_the_start : (l : List Token) → Starts l → to_comma 0 l ≡ 0
unfolding to_comma
at_the_start l at_start = refl
at_the_start l (at_comma m) = refl

pub to_comma_lem : ToComma
to_comma_lem c l h e =
    rw (← reverse_aux-eq (flat_tokens c) l, comma_in c 0 l (component_free c h), at_the_start l e, add-zero)
