-- Components written one after the other: the room that is left, and what stands in the area then.
use Rattle.std.specs.Prelude.{◌+◌, ◌*◌, ◌-◌, ◌∷◌, ◌++◌}
use mathlib.Core.Path.{◌≡◌, refl, sym, ap, subst, ◌∙◌}
use mathlib.Core.List.{map-append, reverse-append}
use Prim.Native.Nat.{◌≤◌}
use native.Mathlib.Omega.{arith}
use lib.ListN.{length-append}
use Rattle.definition.specs.Prelude.{ℕ, Bool, List, [], map, reverse, length, leb}
use Rattle.definition.specs.Basics.{all, joined, tab}
use Rattle.definition.specs.Limits.{limits}
use Rattle.definition.specs.Tree.{Forest, Node, recs_of, all_recs, text_of, packed, literals_of, record_bytes, depth}
use Rattle.definition.specs.TokenStream.{Stream, forest_of, turned}
use Rattle.laws.specs.Lists.{all_append}
use Rattle.laws.specs.Rows.{length_rows, length_record_bytes, length_text_append}
use Rattle.laws.specs.Tests.{and_iff}
use Rattle.image.specs.writer.Written.{Rows, Places, Apart, wrote, and_rows, beyond, component_row, node_rows}
use Rattle.image.specs.writer.Laws.{wrote_append, recs_append, literals_append, node_rows_append}
use Rattle.token_stream.specs.declared.write.component.Pen.{Pen}
use Rattle.token_stream.specs.write.Written.{nodes_of, places_at, Room, PenAfter, NodesWritten}

-- ---- nodes in two parts

abbrev shallow : Node → Bool
shallow n = leb (depth n.forest) limits.depth

pub length_recs_append : (ms ns : List Node) → length (all_recs (ms ++ ns)) ≡ length (all_recs ms) + length (all_recs ns)
length_recs_append ms ns = ap length (recs_append ms ns) ∙ length-append (all_recs ms) (all_recs ns)

pub length_texts_append : (ms ns : List Node)
    → length (text_of (all_recs (ms ++ ns))) ≡ length (text_of (all_recs ms)) + length (text_of (all_recs ns))
length_texts_append ms ns = ap (λ r. length (text_of r)) (recs_append ms ns) ∙ length_text_append (all_recs ms) (all_recs ns)

-- room for all of them is room for the first, and then for the others
pub room_first : (base : ℕ) (pen : Pen) (ms ns : List Node) → Room base pen (ms ++ ns) → Room base pen ms
room_first base pen ms ns h =
    let l = length-append ms ns in
    let r = length_recs_append ms ns in
    let t = length_texts_append ms ns in
    record {
      low = h.low;
      components = omega (arith, h.components);
      records = omega (arith, h.records);
      begun = h.begun;
      text = omega (arith, h.text);
      nests = ((and_iff (all shallow ms) (all shallow ns)).0 (sym (all_append shallow ms ns) ∙ h.nests)).0;
    }

pub room_next : (base : ℕ) (pen r : Pen) (ms ns : List Node) → Room base pen (ms ++ ns) → PenAfter pen ms r → Room base r ns
room_next base pen r ms ns h g =
    let l = length-append ms ns in
    let n = length_recs_append ms ns in
    let t = length_texts_append ms ns in
    record {
      low = h.low;
      components = omega (arith, h.components, h.records, g.components, g.records);
      records = omega (arith, h.records, g.records);
      begun = omega (arith, h.begun, g.text);
      text = omega (arith, h.text, g.text);
      nests = ((and_iff (all shallow ms) (all shallow ns)).0 (sym (all_append shallow ms ns) ∙ h.nests)).1;
    }

pub pen_none : (pen : Pen) → PenAfter pen [] pen
unfolding joined text_of
pen_none pen = record { components = omega arith; records = omega arith; text = omega arith }

pub pen_append : (pen q r : Pen) (ms ns : List Node) → PenAfter pen ms q → PenAfter q ns r → PenAfter pen (ms ++ ns) r
pen_append pen q r ms ns h g =
    let l = length-append ms ns in
    let n = length_recs_append ms ns in
    let t = length_texts_append ms ns in
    record {
      components = omega (arith, h.components, g.components);
      records = omega (arith, h.records, g.records);
      text = omega (arith, h.text, g.text);
    }

-- ---- rows of nodes, with rows of concatenations

abbrev pub rows_with : List ℕ → ℕ → List Node → Rows
rows_with row start ns =
    let rows = node_rows start ns in
    record {
      concatenations = row;
      components = rows.components;
      records = rows.records;
      text = rows.text;
      literals = rows.literals;
    }

rows_append : (row row' : List ℕ) (start : ℕ) (ms ns : List Node)
    → rows_with (row ++ row') start (ms ++ ns) ≡ and_rows (rows_with row start ms) (rows_with row' (start + length (text_of (all_recs ms))) ns)
rows_append row row' start ms ns =
    let rows = node_rows_append start ms ns in
    λ i.
    record {
      concatenations = row ++ row';
      components = (rows i).components;
      records = (rows i).records;
      text = (rows i).text;
      literals = (rows i).literals;
    }

length_components : (ns : List Node)
    → length (joined (map (λ (n : Node). component_row (length (recs_of n)) (length n.bits)) ns)) ≡ 8 * length ns
length_components ns = length_rows 8 (λ (n : Node). component_row (length (recs_of n)) (length n.bits)) (λ n. refl) ns

beyond_rows : (at base : ℕ) (pen q : Pen) (row : List ℕ) (start : ℕ) (ms : List Node) → literals_of ms ≡ [] → PenAfter pen ms q
    → beyond (places_at at base pen) (rows_with row start ms) ≡ places_at (at + length row) base q
beyond_rows at base pen q row start ms e h =
    let l = length_components ms in
    let r = length_record_bytes start (all_recs ms) in
    let n : length (literals_of ms) ≡ 0 = ap length e in
    let components : pen.components + length (rows_with row start ms).components ≡ q.components = omega (arith, l, h.components) in
    let records : pen.records + length (record_bytes start (all_recs ms)) ≡ q.records = omega (arith, r, h.records) in
    let text : pen.text + length (text_of (all_recs ms)) ≡ q.text = sym h.text in
    let literals : base + limits.text + length (literals_of ms) ≡ base + limits.text = omega arith in
    λ i.
    record {
      concatenations = at + length row;
      components = components i;
      records = records i;
      text = text i;
      literals = literals i;
    }

apart_rows : (at base : ℕ) (pen : Pen) (row : List ℕ) (start : ℕ) (ns : List Node) → at + length row ≤ pen.components → Room base pen ns
    → Apart (places_at at base pen) (rows_with row start ns)
apart_rows at base pen row start ns h room =
    let l = length_components ns in
    let r = length_record_bytes start (all_recs ns) in
    record {
      concatenations = h;
      components = omega (arith, l, room.components);
      records = omega (arith, r, room.records, room.begun);
      text = room.text;
    }

-- what was written first, and what was written behind it
pub rows_then : (at base : ℕ) (pen q : Pen) (row row' : List ℕ) (ms ns : List Node) (area area₁ area₂ : List ℕ) → literals_of ms ≡ []
    → at + length (row ++ row') ≤ pen.components → Room base pen (ms ++ ns) → PenAfter pen ms q
    → area₁ ≡ wrote area (places_at at base pen) (rows_with row (pen.text - base) ms)
    → area₂ ≡ wrote area₁ (places_at (at + length row) base q) (rows_with row' (q.text - base) ns)
    → area₂ ≡ wrote area (places_at at base pen) (rows_with (row ++ row') (pen.text - base) (ms ++ ns))
rows_then at base pen q row row' ms ns area area₁ area₂ none low room after first then =
    let start = pen.text - base in
    let start' = start + length (text_of (all_recs ms)) in
    let p = places_at at base pen in
    let v = rows_with row start ms in
    let w = rows_with row' start' ns in
    let next : q.text - base ≡ start' = omega (arith, room.begun, after.text) in
    let rows = rows_append row row' start ms ns in
    let apart : Apart p (and_rows v w) = subst (Apart p) rows (apart_rows at base pen (row ++ row') start (ms ++ ns) low room) in
    then
    ∙ ap (λ (n : ℕ). wrote area₁ (places_at (at + length row) base q) (rows_with row' n ns)) next
    ∙ ap (λ (l : List ℕ). wrote l (places_at (at + length row) base q) w) first
    ∙ ap (λ (x : Places). wrote (wrote area p v) x w) (sym (beyond_rows at base pen q row start ms none after))
    ∙ wrote_append area p v w apart
    ∙ ap (wrote area p) (sym rows)

-- ---- the components of streams

abbrev node_of : Forest → Node
node_of f = record { forest = f; bits = [] }

pub nodes_append : (xs ys : List Stream) → nodes_of (xs ++ ys) ≡ nodes_of ys ++ nodes_of xs
nodes_append xs ys =
    let x = map forest_of xs in
    let y = map forest_of ys in
    ap turned (map-append forest_of xs ys)
    ∙ ap (map node_of) (reverse-append x y)
    ∙ map-append node_of (reverse y) (reverse x)

bare : (fs : List Forest) → literals_of (map node_of fs) ≡ []
unfolding joined packed tab
bare [] = refl
bare (f ∷ fs) = bare fs

pub no_literals : (cs : List Stream) → literals_of (nodes_of cs) ≡ []
no_literals cs = bare (reverse (map forest_of cs))

pub no_tree_literals : (cc : List (List Stream)) → literals_of (joined (map nodes_of cc)) ≡ []
unfolding joined
no_tree_literals [] = refl
no_tree_literals (c ∷ cc) =
    literals_append (nodes_of c) (joined (map nodes_of cc))
    ∙ ap (λ (l : List ℕ). l ++ literals_of (joined (map nodes_of cc))) (no_literals c)
    ∙ no_tree_literals cc

-- the last component's are written first
pub nodes_join : (base : ℕ) (pen q r : Pen) (front : List Stream) (c : Stream) (area area₁ area₂ : List ℕ)
    → Room base pen (nodes_of (front ++ c ∷ [])) → NodesWritten base pen (nodes_of (c ∷ [])) area area₁ q
    → NodesWritten base q (nodes_of front) area₁ area₂ r → NodesWritten base pen (nodes_of (front ++ c ∷ [])) area area₂ r
nodes_join base pen q r front c area area₁ area₂ room first then =
    let ms = nodes_of (c ∷ []) in
    let ns = nodes_of front in
    let e = nodes_append front (c ∷ []) in
    let room' : Room base pen (ms ++ ns) = subst (Room base pen) e room in
    let begins : 0 ≤ pen.components = omega arith in
    let all_written : NodesWritten base pen (ms ++ ns) area area₂ r =
    record {
      area_is = rows_then 0 base pen q [] [] ms ns area area₁ area₂ (no_literals (c ∷ [])) begins room'
          first.pen_is first.area_is then.area_is;
      pen_is = pen_append pen q r ms ns first.pen_is then.pen_is;
    } in
    subst (λ (l : List Node). NodesWritten base pen l area area₂ r) (sym e) all_written

pub nodes_none : (base : ℕ) (pen : Pen) (area : List ℕ) → NodesWritten base pen (nodes_of []) area area pen
unfolding joined text_of record_bytes
nodes_none base pen area = record { area_is = refl; pen_is = pen_none pen }
