-- A component: its tokens as a span, and its three rows.
use Rattle.std.specs.Prelude.{◌+◌, ◌*◌, ◌-◌, ◌/◌, ◌∷◌}
use mathlib.Core.Path.{◌≡◌, refl, sym, ap, ◌∙◌}
use mathlib.Core.List.{append-nil}
use Prim.Native.Nat.{◌≤◌}
use native.Mathlib.Omega.{arith}
use lib.Seq.{sets, slice}
use Rattle.definition.specs.Prelude.{ℕ, true, List, [], length, leb}
use Rattle.definition.specs.Basics.{all, tab, joined}
use Rattle.definition.specs.Tree.{Node, flat, depth, all_recs, text_of, packed, record_bytes}
use Rattle.definition.specs.TokenStream.{Stream, forest_of}
use Rattle.definition.specs.Tokens.{tokens}
use Rattle.image.specs.writer.Written.{component_row, wrote, node_rows}
use Rattle.laws.specs.Tests.{and_iff, leb_iff}
use Rattle.laws.specs.Rows.{length_record_bytes}
use Rattle.laws.specs.Sets.{sets_apart}
use Rattle.token_facts.specs.Flat.{flat_tokens, sound_stream, undivided, emit, deepest}
use Rattle.token_facts.specs.Records.{emit_flat, deepest_flat}
use Rattle.token_stream.specs.write.Steps.{span_recs, SpanFits, SpanIs}
use Rattle.token_stream.specs.write.Written.{nodes_of, places_at, Component, NodesWritten}
use Rattle.token_stream.specs.declared.write.component.Mark.{Mark}
use Rattle.token_stream.specs.declared.write.component.Pen.{Pen}

-- ---- the rows of one component

one_recs : (c : Stream) → all_recs (nodes_of (c ∷ [])) ≡ flat (forest_of c)
unfolding joined
one_recs c = append-nil (flat (forest_of c))

one_depth : (c : Stream) (n : ℕ) → all (λ (x : Node). leb (depth x.forest) n) (nodes_of (c ∷ [])) ≡ true → depth (forest_of c) ≤ n
unfolding all
one_depth c n h = (leb_iff (depth (forest_of c)) n).0 ((and_iff (leb (depth (forest_of c)) n) true).0 h).0

-- text, records and row are written in the other order
turned_round : (area : List ℕ) (components records text : ℕ) (row rows bytes : List ℕ) → components + length row ≤ records
    → records + length rows ≤ text
    → sets (sets (sets area text bytes) records rows) components row ≡ sets (sets (sets area components row) records rows) text bytes
turned_round area components records text row rows bytes h g =
    sym (sets_apart (sets area components row) records rows text bytes g
    ∙ ap (λ (l : List ℕ). sets l records rows) (sets_apart area components row text bytes (omega arith))
    ∙ sets_apart (sets area text bytes) components row records rows h)

one_wrote : (area : List ℕ) (at base : ℕ) (pen : Pen) (c : Stream)
    → wrote area (places_at at base pen) (node_rows (pen.text - base) (nodes_of (c ∷ [])))
    ≡ sets (sets (sets area pen.components (component_row (length (flat (forest_of c))) 0)) pen.records
    (record_bytes (pen.text - base) (flat (forest_of c)))) pen.text (text_of (flat (forest_of c)))
unfolding joined packed tab
one_wrote area at base pen c = rw (append-nil (flat (forest_of c)))

module _ (list text : List ℕ) (base s e : ℕ) (pen : Pen) (c : Stream) (h : Component list text base s e pen c) where
  sound : sound_stream c ≡ true
  sound = ((and_iff (sound_stream c) (undivided c)).0 h.sound).0

  span_recs_lem : span_recs list text s e ≡ flat (forest_of c)
  span_recs_lem = ap (emit 0 []) h.same ∙ emit_flat c sound

  all_recs_lem : all_recs (nodes_of (c ∷ [])) ≡ span_recs list text s e
  all_recs_lem = one_recs c ∙ sym span_recs_lem

  nests : deepest 0 (slice s e (tokens list text)) ≤ 32
  unfolding deepest
  nests =
      let d = one_depth c 32 h.room.nests in
      let m = rw (append-nil (flat_tokens c)) at (deepest_flat c 0 []) in
      rw h.same (omega arith)

  pub span_fits : SpanFits list text base s e pen
  span_fits =
      record {
        right = h.listed.right;
        order = h.order;
        stops = h.stops;
        few = omega (arith, h.listed.few, h.stops);
        low = h.room.low;
        records_fit = rw all_recs_lem at h.room.records;
        begun = h.room.begun;
        text_fits = rw all_recs_lem at h.room.text;
        nests = nests;
      }

  pub component_written : (area area₁ area₂ : List ℕ) (m : Mark) → SpanIs base (span_recs list text s e) pen area area₁ m
      → area₂ ≡ sets area₁ pen.components (component_row ((m.record - pen.records) / 12) 0)
      → NodesWritten base pen (nodes_of (c ∷ [])) area area₂
      (record { components = pen.components + 8; records = m.record; text = m.text })
  component_written area area₁ area₂ m w q =
      let rs = flat (forest_of c) in
      let w' : SpanIs base rs pen area area₁ m = rw span_recs_lem at w in
      let n : (m.record - pen.records) / 12 ≡ length rs = omega (arith, w'.record_is) in
      let size = length_record_bytes (pen.text - base) rs in
      let room : pen.records + 12 * length rs ≤ base = rw (one_recs c) at h.room.records in
      record {
        area_is =
            q ∙ rw (w'.area_is, n)
            (turned_round area pen.components pen.records pen.text (component_row (length rs) 0) (record_bytes (pen.text - base) rs)
            (text_of rs) h.room.components (omega (arith, h.room.begun))
            ∙ sym (one_wrote area 0 base pen c));
        pen_is =
            record { components = refl; records = rw (one_recs c) w'.record_is; text = rw (one_recs c) w'.text_is };
      }
