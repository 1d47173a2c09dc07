-- A list of tokens and the stream that it holds: the list of a stream is read as that stream, and every list that is not refused with
-- 50 is the list of a sound stream.
use Rattle.std.specs.Prelude.{◌≡◌, refl, ◌&&◌, ◌∷◌, ◌++◌, ◌%◌}
use Rattle.std.proofs.Common.{sym, ap, append_assoc, append-nil, zero-add, arith}
use Rattle.definition.specs.Prelude.{ℕ, zero, suc, true, List, [], length}
use Rattle.definition.specs.Basics.{all, tab}
use Rattle.definition.specs.Image.{opens}
use Rattle.definition.specs.TokenStream.{Leaf, Stream, done, leaf, delimited}
use Rattle.definition.specs.Tokens.{Token, single, opener, closer, onto, nested, streams, first_stream, count, tokens, token_at, token_right}
use Rattle.laws.specs.Tests.{and_iff, eqb_iff}
use Rattle.laws.specs.Lists.{all_append}
use Rattle.token_facts.specs.Flat.{flat_tokens, sound_leaf, sound_stream}
use Rattle.token_facts.specs.Statement.{TokensRead, EveryList}
use Rattle.token_facts.specs.Lists.{all_tab_at, all_tab_by}
use Rattle.token_facts.specs.Kinds.{sound_token, token_sound, token_right_lem, token_inside}

-- ---- the list of a stream

pub flat_streams : (s : Stream) (l : List Token) (ss : List Stream) → streams l ≡ done ∷ ss → streams (flat_tokens s ++ l) ≡ s ∷ ss
unfolding flat_tokens streams
flat_streams done l ss h = h
flat_streams (leaf a rest) l ss h = rw (flat_streams rest l ss h)
flat_streams (delimited k inside rest) l ss h =
    let after = flat_tokens rest ++ l in
    rw (append_assoc (flat_tokens inside) (closer ∷ flat_tokens rest) l, flat_streams inside (closer ∷ after) (streams after) refl)
    (rw (flat_streams rest l ss h))

pub flat_nested : (s : Stream) (d : ℕ) (l : List Token) → nested d (flat_tokens s ++ l) ≡ nested d l
unfolding flat_tokens nested
flat_nested done d l = refl
flat_nested (leaf a rest) d l = flat_nested rest d l
flat_nested (delimited k inside rest) d l =
    rw (append_assoc (flat_tokens inside) (closer ∷ flat_tokens rest) l, flat_nested inside (suc d) (closer ∷ (flat_tokens rest ++ l)))
    (flat_nested rest d l)

pub sound_tokens : (s : Stream) → sound_stream s ≡ true → all sound_token (flat_tokens s) ≡ true
unfolding flat_tokens sound_stream all
sound_tokens done h = refl
sound_tokens (leaf a rest) h =
    let (p, q) = (and_iff (sound_leaf a) (sound_stream rest)).0 h in
    (and_iff (sound_leaf a) (all sound_token (flat_tokens rest))).1 (p, sound_tokens rest q)
sound_tokens (delimited k inside rest) h =
    let (p, r) = (and_iff (opens k && sound_stream inside) (sound_stream rest)).0 h in
    let (o, i) = (and_iff (opens k) (sound_stream inside)).0 p in
    rw (o, all_append sound_token (flat_tokens inside) (closer ∷ flat_tokens rest), sound_tokens inside i, sound_tokens rest r)

pub tokens_read : TokensRead
unfolding nested streams
tokens_read list text s h i =
    let sound : all sound_token (tokens list text) ≡ true = rw i.same (sound_tokens s h) in
    let at = all_tab_at sound_token (token_at list text) 0 (count list) sound in
    let places : all (token_right list text) (tab (λ k. k) 0 (count list)) ≡ true =
    all_tab_by (token_right list text) (λ k. k) 0 (count list) λ k l.
    rw zero-add (token_right_lem list text k (i.inside k l) (rw zero-add at (at k l))) in
    let closed : nested 0 (tokens list text) ≡ true = rw (i.same, ← append-nil (flat_tokens s)) (flat_nested s 0 []) in
    let read : streams (tokens list text) ≡ s ∷ [] = rw (i.same, ← append-nil (flat_tokens s)) (flat_streams s [] [] refl) in
    (rw (i.whole, places) closed, ap first_stream read)

-- ---- the stream of a list

-- the list of streams as they stand on a stack: a closer after each but the last
unfoldable flat_stack : List Stream → List Token
flat_stack [] = []
flat_stack (s ∷ []) = flat_tokens s
flat_stack (s ∷ t ∷ ss) = flat_tokens s ++ closer ∷ flat_stack (t ∷ ss)

record Stack (d : ℕ) (ts : List Token) (ss : List Stream) : Type 0 where
  size : length ss ≡ suc d
  sound : all sound_stream ss ≡ true
  same : flat_stack ss ≡ ts

add_leaf : (d : ℕ) (a : Leaf) (ts : List Token) (ss : List Stream) → sound_leaf a ≡ true → Stack d ts ss
    → Stack d (single a ∷ ts) (onto (single a) ss)
unfolding flat_stack flat_tokens all sound_stream
add_leaf d a ts [] g h = absurd (omega arith)
add_leaf d a ts (s ∷ []) g h =
    record { size = h.size; sound = rw g h.sound; same = ap (λ (l : List Token). single a ∷ l) h.same }
add_leaf d a ts (s ∷ t ∷ ss) g h =
    record { size = h.size; sound = rw g h.sound; same = ap (λ (l : List Token). single a ∷ l) h.same }

group_sound : (k : ℕ) (i r : Stream) (ss : List Stream) → opens k ≡ true → all sound_stream (i ∷ r ∷ ss) ≡ true
    → all sound_stream (delimited k i r ∷ ss) ≡ true
unfolding all sound_stream
group_sound k i r ss g h =
    let (p, q) = (and_iff (sound_stream i) (sound_stream r && all sound_stream ss)).0 h in
    rw (g, p) q

add_opener : (d k : ℕ) (ts : List Token) (ss : List Stream) → opens k ≡ true → Stack (suc d) ts ss
    → Stack d (opener k ∷ ts) (onto (opener k) ss)
unfolding flat_stack flat_tokens all sound_stream
add_opener d k ts [] g h = absurd (omega arith)
add_opener d k ts (s ∷ []) g h = absurd (omega arith)
add_opener d k ts (i ∷ r ∷ []) g h =
    record { size = omega arith; sound = group_sound k i r [] g h.sound; same = ap (λ (l : List Token). opener k ∷ l) h.same }
add_opener d k ts (i ∷ r ∷ t ∷ ss) g h =
    record {
      size = omega arith;
      sound = group_sound k i r (t ∷ ss) g h.sound;
      same =
          rw (append_assoc (flat_tokens i) (closer ∷ flat_tokens r) (closer ∷ flat_stack (t ∷ ss)))
          (ap (λ (l : List Token). opener k ∷ l) h.same);
    }

add_closer : (d : ℕ) (ts : List Token) (ss : List Stream) → Stack d ts ss → Stack (suc d) (closer ∷ ts) (done ∷ ss)
unfolding flat_stack flat_tokens all sound_stream
add_closer d ts [] h = absurd (omega arith)
add_closer d ts (s ∷ ss) h = record { size = ap suc h.size; sound = h.sound; same = ap (λ (l : List Token). closer ∷ l) h.same }

stack : (d : ℕ) (ts : List Token) → nested d ts ≡ true → all sound_token ts ≡ true → Stack d ts (streams ts)
unfolding nested streams all flat_stack flat_tokens sound_stream
stack d [] h g = record { size = ap suc (sym ((eqb_iff d 0).0 h)); sound = refl; same = refl }
stack d (single a ∷ ts) h g =
    let (p, q) = (and_iff (sound_leaf a) (all sound_token ts)).0 g in
    add_leaf d a ts (streams ts) p (stack d ts h q)
stack d (opener k ∷ ts) h g =
    let (p, q) = (and_iff (opens k) (all sound_token ts)).0 g in
    add_opener d k ts (streams ts) p (stack (suc d) ts h q)
stack zero (closer ∷ ts) h g = let z : ◌≡◌ {A = ℕ} 0 1 = cc in absurd (omega arith)
stack (suc d) (closer ∷ ts) h g = add_closer d ts (streams ts) (stack d ts h g)

-- one stream
alone : (ts : List Token) (ss : List Stream) → Stack 0 ts ss → (sound_stream (first_stream ss) ≡ true) × (flat_tokens (first_stream ss) ≡ ts)
unfolding flat_stack all
alone ts [] h = absurd (omega arith)
alone ts (s ∷ []) h = (((and_iff (sound_stream s) true).0 h.sound).0, h.same)
alone ts (s ∷ t ∷ ss) h = absurd (omega arith)

pub every_list : EveryList
every_list list text h =
    let (p, closed) = (and_iff _ (nested 0 (tokens list text))).0 h in
    let (q, places) = (and_iff _ (all (token_right list text) (tab (λ k. k) 0 (count list)))).0 p in
    let at = all_tab_at (token_right list text) (λ k. k) 0 (count list) places in
    let sound : all sound_token (tokens list text) ≡ true =
    all_tab_by sound_token (token_at list text) 0 (count list) λ k l. rw zero-add (token_sound list text k (rw zero-add at (at k l))) in
    let (s, e) = alone (tokens list text) (streams (tokens list text)) (stack 0 (tokens list text) closed sound) in (
      s,
      record {
        whole = (eqb_iff (length list % 12) 0).0 q;
        same = sym e;
        inside = λ k l low. token_inside list text k (rw zero-add at (at k l)) low;
      },
    )
