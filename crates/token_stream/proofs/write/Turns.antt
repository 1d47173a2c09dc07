-- The components of a concatenation from the last on: where the last stands, and what is said of all once the others are written.
use Rattle.std.specs.Prelude.{◌+◌, ◌-◌, ◌∷◌, ◌++◌}
use mathlib.Core.Path.{◌≡◌, refl, sym, ap, subst, ◌∙◌}
use mathlib.Core.List.{append_assoc, reverse-append}
use Prim.Native.Nat.{◌≤◌, ◌<◌}
use native.Mathlib.Omega.{arith}
use lib.ListN.{length-append}
use lib.Seq.{slice, take-add, drop-append-le, drop_at, length-take-le, length-slice}
use Rattle.definition.specs.Prelude.{ℕ, true, List, [], reverse, length, take, drop}
use Rattle.definition.specs.Basics.{all}
use Rattle.definition.specs.TokenStream.{Stream}
use Rattle.definition.specs.Tokens.{Token, tokens}
use Rattle.laws.specs.Lists.{all_append, append_split}
use Rattle.laws.specs.Tests.{and_iff}
use Rattle.token_facts.specs.Flat.{flat_tokens, is_component, comma, between, to_comma}
use Rattle.token_facts.specs.Statement.{Starts, at_start, at_comma}
use Rattle.token_facts.specs.Dividing.{tokens_of, to_comma_lem}
use Rattle.token_stream.specs.declared.write.component.Pen.{Pen}
use Rattle.token_stream.specs.list.Tokens.{length_tokens}
use Rattle.token_stream.specs.write.Written.{nodes_of, Room, PenAfter, NodesWritten, Component, Concatenation}
use Rattle.token_stream.proofs.write.Joining.{nodes_append, room_first, room_next, nodes_join, nodes_none}

-- ---- the last of some components

record LastOf (cs : List Stream) : Type 0 where
  front : List Stream
  c : Stream
  parts : cs ≡ front ++ c ∷ []

last_of : (cs : List Stream) → 1 ≤ length cs → LastOf cs
last_of [] h = absurd (omega arith)
last_of (c ∷ []) h = record { front = []; c = c; parts = refl }
last_of (c ∷ d ∷ cs) h =
    let l = last_of (d ∷ cs) (omega arith) in
    record { front = c ∷ l.front; c = l.c; parts = ap (λ (x : List Stream). c ∷ x) l.parts }

-- what stands before the last
abbrev ahead : List Stream → List Token
ahead [] = []
ahead (c ∷ cs) = tokens_of (c ∷ cs) ++ comma ∷ []

tokens_last : (front : List Stream) (c : Stream) → tokens_of (front ++ c ∷ []) ≡ ahead front ++ flat_tokens c
unfolding between
tokens_last [] c = refl
tokens_last (x ∷ []) c = sym (append_assoc (flat_tokens x) (comma ∷ []) (flat_tokens c))
tokens_last (x ∷ y ∷ cs) c =
    ap (λ (l : List Token). flat_tokens x ++ comma ∷ l) (tokens_last (y ∷ cs) c)
    ∙ sym (append_assoc (flat_tokens x) (comma ∷ ahead (y ∷ cs)) (flat_tokens c))
    ∙ ap (λ (l : List Token). l ++ flat_tokens c) (sym (append_assoc (flat_tokens x) (comma ∷ tokens_of (y ∷ cs)) (comma ∷ [])))

starts : (front : List Stream) → Starts (reverse (ahead front))
starts [] = at_start
starts (c ∷ cs) = subst Starts (sym (reverse-append (tokens_of (c ∷ cs)) (comma ∷ []))) (at_comma (reverse (tokens_of (c ∷ cs))))

to_last : (front : List Stream) (c : Stream) → is_component c ≡ true → to_comma 0 (reverse (ahead front ++ flat_tokens c)) ≡ length (flat_tokens c)
to_last front c h = ap (to_comma 0) (reverse-append (ahead front) (flat_tokens c)) ∙ to_comma_lem c (reverse (ahead front)) h (starts front)

-- ---- a part of a list in two

module _ {A : Type 0} (l : List A) (a s e : ℕ) (h : a ≤ s) (k : s ≤ e) (fits : e ≤ length l) where
  slice_parts : slice a e l ≡ slice a s l ++ slice s e l
  slice_parts =
      let n : e ≡ s + (e - s) = omega arith in
      let first : length (take s l) ≡ s = length-take-le s l (omega arith) in
      let rest = take (e - s) (drop s l) in
      let all_of : take e l ≡ take s l ++ rest = ap (λ (i : ℕ). take i l) n ∙ take-add s (e - s) l in
      let last : drop s (take e l) ≡ rest = ap (drop s) all_of ∙ drop_at (take s l) rest s first in
      ap (drop a) all_of
      ∙ drop-append-le a (take s l) rest (omega arith)
      ∙ ap (λ (x : List A). slice a s l ++ x) (sym last)

  slice_split : (x y : List A) → slice a e l ≡ x ++ y → s + length y ≡ e → (slice a s l ≡ x) × (slice s e l ≡ y)
  slice_split x y same long =
      let n = length-append x y in
      let whole : length (slice a e l) ≡ length (x ++ y) = ap length same in
      let m = length-slice a e l fits in
      let first = length-slice a s l (omega arith) in
      append_split (slice a s l) x (slice s e l) y (omega arith) (sym slice_parts ∙ same)

-- ---- one turn

ahead_none : (front : List Stream) → length (ahead front) ≡ 0 → front ≡ []
ahead_none [] h = refl
ahead_none (c ∷ cs) h = let n = length-append (tokens_of (c ∷ cs)) (comma ∷ []) in absurd (omega arith)

ahead_some : (front : List Stream) → 1 ≤ length (ahead front) → (1 ≤ length front) × (ahead front ≡ tokens_of front ++ comma ∷ [])
ahead_some [] h = absurd (omega arith)
ahead_some (c ∷ cs) h = (omega arith, refl)

module _ (list text : List ℕ) (base a : ℕ) where
  -- the last component is tokens s to e
  pub record Turn (s e : ℕ) (pen : Pen) (left : List Stream) : Type 0 where
    pub front : List Stream
    pub c : Stream
    pub parts : left ≡ front ++ c ∷ []
    pub component : Component list text base s e pen c
    pub none : s ≡ a → front ≡ []
    pub others : (q : Pen) → PenAfter pen (nodes_of (c ∷ [])) q → a < s → Concatenation list text base a (s - 1) q front

  turn_of : (front : List Stream) (c : Stream) (s e : ℕ) (pen : Pen) → Concatenation list text base a e pen (front ++ c ∷ [])
      → s + to_comma 0 (reverse (slice a e (tokens list text))) ≡ e → a ≤ s → Turn s e pen (front ++ c ∷ [])
  unfolding all
  turn_of front c s e pen h g low =
      let ts = tokens list text in
      let fits : e ≤ length ts = let n = length_tokens list text in omega (arith, h.stops) in
      let same : slice a e ts ≡ ahead front ++ flat_tokens c = h.same ∙ tokens_last front c in
      let (before_sound, sound') = (and_iff (all is_component front) (all is_component (c ∷ []))).0
      (sym (all_append is_component front (c ∷ [])) ∙ h.sound) in
      let sound : is_component c ≡ true = ((and_iff (is_component c) true).0 sound').0 in
      let size : to_comma 0 (reverse (slice a e ts)) ≡ length (flat_tokens c) =
      ap (λ (l : List Token). to_comma 0 (reverse l)) same ∙ to_last front c sound in
      let long : s + length (flat_tokens c) ≡ e = omega arith in
      let order : s ≤ e = omega arith in
      let (first, last) = slice_split ts a s e low order fits (ahead front) (flat_tokens c) same long in
      let n : length (slice a s ts) ≡ s - a = length-slice a s ts (omega arith) in
      let m : length (slice a s ts) ≡ length (ahead front) = ap length first in
      let room : Room base pen (nodes_of (c ∷ []) ++ nodes_of front) = subst (Room base pen) (nodes_append front (c ∷ [])) h.room in
      record {
        front = front;
        c = c;
        parts = refl;
        component =
            record {
              listed = h.listed;
              order = order;
              stops = h.stops;
              same = last;
              sound = sound;
              room = room_first base pen (nodes_of (c ∷ [])) (nodes_of front) room;
            };
        none = λ z. ahead_none front (omega arith);
        others =
            λ q after k.
            let (some, is) = ahead_some front (omega arith) in
            let (mine, _) = slice_split ts a (s - 1) s (omega arith) (omega arith) (omega arith) (tokens_of front) (comma ∷ []) (first ∙ is)
            (omega arith) in
            record {
              listed = h.listed;
              order = omega arith;
              stops = omega (arith, h.stops);
              same = mine;
              sound = before_sound;
              some = some;
              room = room_next base pen q (nodes_of (c ∷ [])) (nodes_of front) room after;
            };
      }

  turn : (s e : ℕ) (pen : Pen) (left : List Stream) → Concatenation list text base a e pen left
      → s + to_comma 0 (reverse (slice a e (tokens list text))) ≡ e → a ≤ s → Turn s e pen left
  turn s e pen left h g low =
      let l = last_of left h.some in
      subst (Turn s e pen) (sym l.parts)
      (turn_of l.front l.c s e pen (subst (Concatenation list text base a e pen) l.parts h) g low)

  -- ---- what is said of all

  module _ (pen : Pen) (area₀ : List ℕ) (cs : List Stream) where
    pub record Going (e : ℕ) (p : Pen) (area : List ℕ) : Type 0 where
      pub left : List Stream
      pub here : Concatenation list text base a e p left
      pub goes : (area' : List ℕ) (r : Pen) → NodesWritten base p (nodes_of left) area area' r
          → NodesWritten base pen (nodes_of cs) area₀ area' r

-- after the component of tokens s to e
module _ {list text : List ℕ} {base a : ℕ} {pen : Pen} {area₀ : List ℕ} {cs : List Stream} {s e : ℕ} {p : Pen} {area : List ℕ}
    (g : Going list text base a pen area₀ cs e p area)
    (starts_at : s + to_comma 0 (reverse (slice a e (tokens list text))) ≡ e) (low : a ≤ s) where
  pub here_turn : Turn list text base a s e p g.left
  here_turn = turn list text base a s e p g.left g.here starts_at low

  module _ {q : Pen} {area₁ : List ℕ}
      (put : (c : Stream) → Component list text base s e p c → NodesWritten base p (nodes_of (c ∷ [])) area area₁ q) where
    -- what the others' writing comes to
    joined_goes : (t : Turn list text base a s e p g.left) (area' : List ℕ) (r : Pen)
        → NodesWritten base q (nodes_of t.front) area₁ area' r → NodesWritten base pen (nodes_of cs) area₀ area' r
    joined_goes t area' r w =
        let room : Room base p (nodes_of (t.front ++ t.c ∷ [])) =
        subst (λ (l : List Stream). Room base p (nodes_of l)) t.parts g.here.room in
        g.goes area' r
        (subst (λ (l : List Stream). NodesWritten base p (nodes_of l) area area' r) (sym t.parts)
        (nodes_join base p q r t.front t.c area area₁ area' room (put t.c t.component) w))

    pub going_next : a < s → Going list text base a pen area₀ cs (s - 1) q area₁
    going_next k =
        record {
          left = here_turn.front;
          here = here_turn.others q (put here_turn.c here_turn.component).pen_is k;
          goes = joined_goes here_turn;
        }

    pub going_end : s ≡ a → NodesWritten base pen (nodes_of cs) area₀ area₁ q
    going_end z =
        joined_goes here_turn area₁ q
        (subst (λ (l : List Stream). NodesWritten base q (nodes_of l) area₁ area₁ q) (sym (here_turn.none z)) (nodes_none base q area₁))
