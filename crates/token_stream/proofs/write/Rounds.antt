-- The concatenations in order: where the first ends, and what is said of all once the others are written.
use Rattle.std.specs.Prelude.{◌+◌, ◌*◌, ◌-◌, ◌/◌, ◌^◌, ◌∷◌, ◌++◌}
use mathlib.Core.Path.{◌≡◌, refl, sym, ap, subst, ◌∙◌}
use mathlib.Core.List.{append-nil}
use Prim.Native.Nat.{◌≤◌, ◌<◌}
use native.Mathlib.Omega.{arith}
use lib.ListN.{length-append, length-drop, length-map}
use lib.Seq.{sets, slice, take-add, take_at, drop_at, drop-drop, drop-append-add, length-take-le}
use Rattle.definition.specs.Prelude.{ℕ, List, [], map, length, take, drop, leb}
use Rattle.definition.specs.Basics.{all, joined}
use Rattle.definition.specs.Tree.{u32, Node, text_of, record_bytes}
use Rattle.definition.specs.TokenStream.{Stream}
use Rattle.definition.specs.Tokens.{Token, tokens, count}
use Rattle.laws.specs.Rows.{length_rows}
use Rattle.laws.specs.Sets.{sets_apart}
use Rattle.laws.specs.Tests.{and_iff, leb_iff}
use Rattle.image.specs.writer.Written.{wrote}
use Rattle.token_facts.specs.Flat.{is_component, semicolon, between, to_semicolon}
use Rattle.token_facts.specs.Statement.{Ends, at_end, at_semicolon}
use Rattle.token_facts.specs.Dividing.{tokens_of, list_of, to_semicolon_lem}
use Rattle.token_stream.specs.declared.write.component.Pen.{Pen}
use Rattle.token_stream.specs.list.Tokens.{length_tokens}
use Rattle.token_stream.specs.write.Written.{nodes_of, places_at, Room, PenAfter, NodesWritten, Concatenation, Concatenations, TreeWritten}
use Rattle.token_stream.proofs.write.Joining.{room_first, room_next, rows_with, rows_then, no_literals}

-- ---- the first concatenation's tokens

-- what follows it
abbrev follows : List (List Stream) → List Token
follows [] = []
follows (c ∷ cc) = semicolon ∷ list_of (c ∷ cc)

list_first : (c : List Stream) (rest : List (List Stream)) → list_of (c ∷ rest) ≡ tokens_of c ++ follows rest
unfolding between
list_first c [] = sym (append-nil (tokens_of c))
list_first c (x ∷ cc) = refl

ends : (rest : List (List Stream)) → Ends (follows rest)
ends [] = at_end
ends (c ∷ cc) = at_semicolon (list_of (c ∷ cc))

follows_none : (rest : List (List Stream)) → length (follows rest) ≡ 0 → rest ≡ []
follows_none [] h = refl
follows_none (c ∷ cc) h = absurd (omega arith)

follows_some : (rest : List (List Stream)) → 1 ≤ length (follows rest) → (1 ≤ length rest) × (follows rest ≡ semicolon ∷ list_of rest)
follows_some [] h = absurd (omega arith)
follows_some (c ∷ cc) h = (omega arith, refl)

module _ {A : Type 0} (l : List A) (a : ℕ) (x y : List A) (same : drop a l ≡ x ++ y) (fits : a ≤ length l) where
  slice_first : (b : ℕ) → b ≡ a + length x → slice a b l ≡ x
  slice_first b e =
      ap (λ (i : ℕ). drop a (take i l)) e
      ∙ ap (drop a) (take-add a (length x) l)
      ∙ drop_at (take a l) (take (length x) (drop a l)) a (length-take-le a l fits)
      ∙ ap (take (length x)) same
      ∙ take_at x y (length x) refl

  drop_first : (k : ℕ) (n : ℕ) → n ≡ a + (length x + k) → drop n l ≡ drop k y
  drop_first k n e =
      ap (λ (i : ℕ). drop i l) e
      ∙ sym (drop-drop (length x + k) a l)
      ∙ ap (drop (length x + k)) same
      ∙ drop-append-add x y k

-- ---- what is written: the components of a concatenation, its row, and the others

four_after : (l : List ℕ) (i : ℕ) (a : List ℕ) (j₁ j₂ j₃ j₄ : ℕ) (b₁ b₂ b₃ b₄ : List ℕ) → i + length a ≤ j₁ → i + length a ≤ j₂
    → i + length a ≤ j₃ → i + length a ≤ j₄
    → sets (sets (sets (sets (sets l j₁ b₁) j₂ b₂) j₃ b₃) j₄ b₄) i a ≡ sets (sets (sets (sets (sets l i a) j₁ b₁) j₂ b₂) j₃ b₃) j₄ b₄
four_after l i a j₁ j₂ j₃ j₄ b₁ b₂ b₃ b₄ h₁ h₂ h₃ h₄ =
    let l₁ = sets l j₁ b₁ in
    let l₂ = sets l₁ j₂ b₂ in
    let l₃ = sets l₂ j₃ b₃ in
    sym (sets_apart l₃ i a j₄ b₄ h₄)
    ∙ ap (λ (m : List ℕ). sets m j₄ b₄) (sym (sets_apart l₂ i a j₃ b₃ h₃))
    ∙ ap (λ (m : List ℕ). sets (sets m j₃ b₃) j₄ b₄) (sym (sets_apart l₁ i a j₂ b₂ h₂))
    ∙ ap (λ (m : List ℕ). sets (sets (sets m j₂ b₂) j₃ b₃) j₄ b₄) (sym (sets_apart l i a j₁ b₁ h₁))

module _ (base row : ℕ) (p q : Pen) (c : List Stream) (rest : List (List Stream)) (area area₁ area₂ area' : List ℕ) where
  tree_join : row + 4 * length (c ∷ rest) ≤ p.components → Room base p (joined (map nodes_of (c ∷ rest)))
      → NodesWritten base p (nodes_of c) area area₁ q → area₂ ≡ sets area₁ row (u32 (length (nodes_of c)))
      → TreeWritten base (row + 4) q rest area₂ area' → TreeWritten base row p (c ∷ rest) area area'
  unfolding joined
  tree_join low room first put then =
      let start = p.text - base in
      let ns = nodes_of c in
      let own = u32 (length ns) in
      let v = rows_with [] start ns in
      let rows = joined (map (λ (x : List Node). u32 (length x)) (map nodes_of rest)) in
      let n : length rows ≡ 4 * length (map nodes_of rest) = length_rows 4 (λ (x : List Node). u32 (length x)) (λ x. refl) (map nodes_of rest) in
      let m : length (map nodes_of rest) ≡ length rest = length-map rest nodes_of in
      let mine : area₂ ≡ wrote area (places_at row base p) (rows_with own start ns) =
      put
      ∙ ap (λ (l : List ℕ). sets l row own) first.area_is
      ∙ four_after area row own p.components p.records p.text (places_at 0 base p).literals
      v.components v.records v.text v.literals (omega arith) (omega (arith, room.components))
      (omega (arith, room.components, room.records, room.begun)) (omega (arith, room.components, room.records)) in
      rows_then row base p q own rows ns (joined (map nodes_of rest)) area area₂ area' (no_literals c) (omega arith) room
      first.pen_is mine then

pub tree_none : (base row : ℕ) (p : Pen) (area : List ℕ) → TreeWritten base row p [] area area
unfolding joined text_of record_bytes
tree_none base row p area = refl

-- ---- one round

module _ (list text : List ℕ) (base : ℕ) where
  -- the first concatenation is tokens a to b
  pub record Round (row a b : ℕ) (p : Pen) (left : List (List Stream)) : Type 0 where
    pub c : List Stream
    pub rest : List (List Stream)
    pub parts : left ≡ c ∷ rest
    pub concatenation : Concatenation list text base a b p c
    pub low : row + 4 ≤ p.components
    pub none : b ≡ count list → rest ≡ []
    pub others : (q : Pen) → PenAfter p (nodes_of c) q → b < count list → Concatenations list text base (row + 4) (b + 1) q rest

  round_of : (c : List Stream) (rest : List (List Stream)) (row a b : ℕ) (p : Pen) → Concatenations list text base row a p (c ∷ rest)
      → b ≡ a + to_semicolon 0 (drop a (tokens list text)) → Round row a b p (c ∷ rest)
  unfolding all joined
  round_of c rest row a b p h g =
      let ts = tokens list text in
      let size : length ts ≡ count list = length_tokens list text in
      let fits : a ≤ length ts = omega (arith, h.order) in
      let same : drop a ts ≡ tokens_of c ++ follows rest = h.same ∙ list_first c rest in
      let (sound, others_sound) = (and_iff (all is_component c) (all (all is_component) rest)).0 h.sound in
      let (filled, others_filled) = (and_iff (leb 1 (length c)) (all (λ (c : List Stream). leb 1 (length c)) rest)).0 h.some in
      let found : to_semicolon 0 (drop a ts) ≡ length (tokens_of c) =
      ap (to_semicolon 0) same ∙ to_semicolon_lem c (follows rest) sound (ends rest) in
      let stop : b ≡ a + length (tokens_of c) = omega arith in
      let n : length (drop a ts) ≡ length (tokens_of c) + length (follows rest) = ap length same ∙ length-append (tokens_of c) (follows rest) in
      let m : length (drop a ts) ≡ length ts - a = length-drop a ts in
      let room : Room base p (nodes_of c ++ joined (map nodes_of rest)) = h.room in
      record {
        c = c;
        rest = rest;
        parts = refl;
        concatenation =
            record {
              listed = h.listed;
              order = omega arith;
              stops = omega arith;
              same = slice_first ts a (tokens_of c) (follows rest) same fits b stop;
              sound = sound;
              some = (leb_iff 1 (length c)).0 filled;
              room = room_first base p (nodes_of c) (joined (map nodes_of rest)) room;
            };
        low = omega (arith, h.rows);
        none = λ z. follows_none rest (omega arith);
        others =
            λ q after k.
            let (some, is) = follows_some rest (omega arith) in
            record {
              listed = h.listed;
              order = omega arith;
              same = drop_first ts a (tokens_of c) (follows rest) same fits 1 (b + 1) (omega arith) ∙ ap (drop 1) is;
              sound = others_sound;
              some = others_filled;
              one = some;
              rows = omega (arith, h.rows, after.components);
              room = room_next base p q (nodes_of c) (joined (map nodes_of rest)) room after;
            };
      }

  round : (row a b : ℕ) (p : Pen) (left : List (List Stream)) → Concatenations list text base row a p left
      → b ≡ a + to_semicolon 0 (drop a (tokens list text)) → Round row a b p left
  round row a b p [] h g = let z = h.one in absurd (omega arith)
  round row a b p (c ∷ rest) h g = round_of c rest row a b p h g

  -- how many components were written
  grown : (a b : ℕ) (p q : Pen) (c : List Stream) → Concatenation list text base a b p c → PenAfter p (nodes_of c) q
      → (p.components ≤ q.components) × (q.components < 2 ^ 32) × ((q.components - p.components) / 8 ≡ length (nodes_of c))
  grown a b p q c h after =
      let room = h.room in (
        omega (arith, after.components),
        omega (arith, after.components, room.components, room.records, room.low),
        omega (arith, after.components),
      )

  -- no sum wraps, and the loop comes to its end
  pub record Steps (row a b : ℕ) (p q : Pen) : Type 0 where
    pub order : a ≤ b
    pub stops : b ≤ count list
    pub row_low : row + 4 < 2 ^ 32
    pub grows : p.components ≤ q.components
    pub low : q.components < 2 ^ 32

  -- ---- what is said of all

  module _ (at : ℕ) (pen : Pen) (area₀ : List ℕ) (cc : List (List Stream)) where
    pub record Going (row a : ℕ) (p : Pen) (area : List ℕ) : Type 0 where
      pub left : List (List Stream)
      pub here : Concatenations list text base row a p left
      pub goes : (area' : List ℕ) → TreeWritten base row p left area area' → TreeWritten base at pen cc area₀ area'

module _ {list text : List ℕ} {base at : ℕ} {pen : Pen} {area₀ : List ℕ} {cc : List (List Stream)} {row a b : ℕ} {p : Pen} {area : List ℕ}
    (g : Going list text base at pen area₀ cc row a p area) (ends_at : b ≡ a + to_semicolon 0 (drop a (tokens list text))) where
  pub here_round : Round list text base row a b p g.left
  here_round = round list text base row a b p g.left g.here ends_at

  -- after the concatenation of tokens a to b
  module _ {q : Pen} {area₁ : List ℕ}
      (put : (c : List Stream) → Concatenation list text base a b p c → NodesWritten base p (nodes_of c) area area₁ q) where
    written : (t : Round list text base row a b p g.left) → NodesWritten base p (nodes_of t.c) area area₁ q
    written t = put t.c t.concatenation

    pub steps : Steps list text base row a b p q
    steps =
        let t = here_round in
        let (grows, low, _) = grown list text base a b p q t.c t.concatenation (written t).pen_is in
        record {
          order = t.concatenation.order;
          stops = t.concatenation.stops;
          row_low = omega (arith, t.low);
          grows = grows;
          low = low;
        }

    -- and after its row
    module _ {area₂ : List ℕ} (own : area₂ ≡ sets area₁ row (u32 ((q.components - p.components) / 8))) where
      joined_goes : (t : Round list text base row a b p g.left) (area' : List ℕ) → TreeWritten base (row + 4) q t.rest area₂ area'
          → TreeWritten base at pen cc area₀ area'
      joined_goes t area' w =
          let all_here : Concatenations list text base row a p (t.c ∷ t.rest) =
          subst (Concatenations list text base row a p) t.parts g.here in
          let (_, _, n) = grown list text base a b p q t.c t.concatenation (written t).pen_is in
          g.goes area'
          (subst (λ (l : List (List Stream)). TreeWritten base row p l area area') (sym t.parts)
          (tree_join base row p q t.c t.rest area area₁ area₂ area' all_here.rows all_here.room (written t)
          (own ∙ ap (λ (k : ℕ). sets area₁ row (u32 k)) n) w))

      pub going_next : b < count list → Going list text base at pen area₀ cc (row + 4) (b + 1) q area₂
      going_next k =
          record {
            left = here_round.rest;
            here = here_round.others q (written here_round).pen_is k;
            goes = joined_goes here_round;
          }

      pub going_end : b ≡ count list → TreeWritten base at pen cc area₀ area₂
      going_end z =
          joined_goes here_round area₂
          (subst (λ (l : List (List Stream)). TreeWritten base (row + 4) q l area₂ area₂) (sym (here_round.none z))
          (tree_none base (row + 4) q area₂))
