-- The whole image: what was admitted is concatenations from the first token on, and their rows with the header are the tree's image.
use Rattle.std.specs.Prelude.{◌+◌, ◌*◌, ◌-◌, ◌&&◌, ◌++◌}
use mathlib.Core.Path.{◌≡◌, sym, ap, subst, ◌∙◌}
use mathlib.Core.List.{map-map}
use Prim.Native.Nat.{◌≤◌}
use native.Mathlib.Omega.{arith}
use lib.ListN.{length-map}
use lib.Seq.{sets}
use Rattle.definition.specs.Prelude.{ℕ, true, List, [], map, length, drop, leb}
use Rattle.definition.specs.Basics.{all, joined}
use Rattle.definition.specs.Limits.{limits}
use Rattle.definition.specs.Image.{tables_for}
use Rattle.definition.specs.Tree.{Tree, all_recs, text_of, literals_of, depth, image_of}
use Rattle.definition.specs.TokenStream.{Stream, forest_of, divided, turned, stream_tree}
use Rattle.definition.specs.Tokens.{count, stream_of, within_limits}
use Rattle.laws.specs.Tests.{and_iff, leb_iff}
use Rattle.image.specs.declared.token_tree.Counts.{Counts}
use Rattle.image.specs.declared.token_tree.Tables.{Tables}
use Rattle.image.specs.token_tree.Tables.{counts_of, tables_of}
use Rattle.image.specs.writer.Written.{Places, wrote, header_bytes, tree_rows, counts_for, places_for}
use Rattle.image.specs.writer.Whole.{image_size, image_written}
use Rattle.token_facts.specs.Flat.{flat_tokens, weigh, bytes, dividers}
use Rattle.token_facts.specs.Statement.{Totals, Parted}
use Rattle.token_facts.specs.Dividing.{parted_flat}
use Rattle.token_facts.specs.Totals.{totals_flat, few_tokens}
use Rattle.token_facts.specs.Streams.{every_list}
use Rattle.token_stream.specs.declared.write.component.Pen.{Pen}
use Rattle.token_stream.specs.list.Tokens.{length_tokens}
use Rattle.token_stream.specs.write.Written.{nodes_of, places_at, Room, Concatenations, TreeWritten, tree_for, Fitting, ImageIs}
use Rattle.token_stream.proofs.write.Joining.{no_tree_literals}

-- ---- what the limits say

record Bounds (t : Tree) : Type 0 where
  concatenations : length t ≤ limits.concatenations
  components : length (joined t) ≤ limits.components
  records : length (all_recs (joined t)) ≤ limits.records
  text : length (text_of (all_recs (joined t))) ≤ limits.text
  nests : all (λ n. leb (depth n.forest) limits.depth) (joined t) ≡ true

bounds : (t : Tree) → within_limits t ≡ true → Bounds t
bounds t h =
    let ns = joined t in
    let rs = all_recs ns in
    let c = leb (length t) limits.concatenations in
    let n = leb (length ns) limits.components in
    let r = leb (length rs) limits.records in
    let x = leb (length (text_of rs)) limits.text in
    let (h₄, d) = (and_iff (c && n && r && x) (all (λ n. leb (depth n.forest) limits.depth) ns)).0 h in
    let (h₃, x_true) = (and_iff (c && n && r) x).0 h₄ in
    let (h₂, r_true) = (and_iff (c && n) r).0 h₃ in
    let (c_true, n_true) = (and_iff c n).0 h₂ in
    record {
      concatenations = (leb_iff (length t) limits.concatenations).0 c_true;
      components = (leb_iff (length ns) limits.components).0 n_true;
      records = (leb_iff (length rs) limits.records).0 r_true;
      text = (leb_iff (length (text_of rs)) limits.text).0 x_true;
      nests = d;
    }

pub tree_is : (s : Stream) → stream_tree s ≡ map nodes_of (divided s)
tree_is s = map-map turned (map forest_of) (divided s)

-- ---- the header's numbers

abbrev pen_of : Tables → Pen
pen_of p = record { components = p.components; records = p.records; text = p.text }

abbrev tables_in : Tree → record { concatenations : ℕ; components : ℕ; records : ℕ; text : ℕ; literals : ℕ; stop : ℕ }
tables_in t = let h = counts_for t in tables_for h.c h.n h.r h.t h.b

-- ---- the header, and rows of a tree without literals, in tables that stand as the header says

abbrev places_in : record { concatenations : ℕ; components : ℕ; records : ℕ; text : ℕ; literals : ℕ; stop : ℕ } → Places
places_in a =
    record { concatenations = a.concatenations; components = a.components; records = a.records; text = a.text; literals = a.literals }

module _ (h : Counts) (p : Tables) (t x : Tree) (n : ℕ) (area area₁ area₂ : List ℕ) where
  -- where literals go does not matter
  abbrev with_literals : ℕ → Places
  with_literals k =
      record { concatenations = p.concatenations; components = p.components; records = p.records; text = p.text; literals = k }

  none_placed : (k k' : ℕ) → literals_of (joined t) ≡ []
      → wrote area₁ (with_literals k) (tree_rows 0 t) ≡ wrote area₁ (with_literals k') (tree_rows 0 t)
  none_placed k k' e =
      let w = tree_rows 0 t in
      let m = sets (sets (sets (sets area₁ p.concatenations w.concatenations) p.components w.components) p.records w.records)
      p.text w.text in
      ap (λ (l : List ℕ). sets m k l) e ∙ sym (ap (λ (l : List ℕ). sets m k' l) e)

  tree_image : t ≡ x → n ≡ 0 → literals_of (joined x) ≡ [] → tables_of p ≡ tables_in t → counts_of h ≡ counts_for t
      → area₁ ≡ sets area 0 (header_bytes (counts_of h)) → length (image_of t) ≤ length area
      → area₂ ≡ wrote area₁ (places_at p.concatenations p.text (pen_of p)) (tree_rows n x)
      → area₂ ≡ image_of t ++ drop (length (image_of t)) area
  tree_image same start none told counts head fits rows =
      let base = p.text in
      rows
      ∙ ap (λ (k : ℕ). wrote area₁ (with_literals (base + limits.text)) (tree_rows k x)) start
      ∙ ap (λ (y : Tree). wrote area₁ (with_literals (base + limits.text)) (tree_rows 0 y)) (sym same)
      ∙ none_placed (base + limits.text) p.literals (ap (λ (y : Tree). literals_of (joined y)) same ∙ none)
      ∙ ap (λ a. wrote area₁ (places_in a) (tree_rows 0 t)) told
      ∙ ap (λ (l : List ℕ). wrote l (places_for (counts_for t)) (tree_rows 0 t)) (head ∙ ap (λ a. sets area 0 (header_bytes a)) counts)
      ∙ image_written t area fits

-- ---- what was admitted

module _ (list text : List ℕ) (size : ℕ) (h : Counts) (f : Fitting list text size h) (p : Tables)
    (header : tables_of p ≡ tables_for h.c h.n h.r h.t h.b) where
  told : tables_of p ≡ tables_in (tree_for list text)
  told = header ∙ ap (λ x. tables_for x.c x.n x.r x.t x.b) f.counts

  pub fitting_starts : Concatenations list text p.text p.concatenations 0 (pen_of p) (divided (stream_of list text))
  fitting_starts =
      let s = stream_of list text in
      let t = stream_tree s in
      let (sound, is) = every_list list text f.right in
      let parted : Parted s = parted_flat s sound in
      let totals : Totals s = totals_flat s sound in
      let b : Bounds t = bounds t f.within in
      let n : count list ≡ length (flat_tokens s) = sym (length_tokens list text) ∙ ap length is.same in
      let most : length (flat_tokens s) ≤ weigh bytes 0 (flat_tokens s) + weigh dividers 0 (flat_tokens s) = few_tokens s sound in
      let at : p.concatenations ≡ 40 = ap (λ x. x.concatenations) told in
      let components : p.components ≡ 40 + 4 * length t = ap (λ x. x.components) told in
      let records : p.records ≡ 40 + 4 * length t + 8 * length (joined t) = ap (λ x. x.records) told in
      let texts : p.text ≡ 40 + 4 * length t + 8 * length (joined t) + 12 * length (all_recs (joined t)) = ap (λ x. x.text) told in
      let long : length t ≡ length (divided s) = ap length (tree_is s) ∙ length-map (divided s) nodes_of in
      let room : Room p.text (pen_of p) (joined t) =
      record {
        low = omega (arith, b.concatenations, b.components, b.records);
        components = omega arith;
        records = omega arith;
        begun = omega arith;
        text = omega (arith, b.text);
        nests = b.nests;
      } in
      record {
        listed = record { right = f.right; few = omega (arith, totals.bytes_are, totals.components, b.text, b.components) };
        order = omega arith;
        same = is.same ∙ parted.list_is;
        sound = parted.parts;
        some = parted.some;
        one = parted.one;
        rows = omega arith;
        room = subst (λ (x : Tree). Room p.text (pen_of p) (joined x)) (tree_is s) room;
      }

  pub fitting_image : (area area₁ area₂ : List ℕ) → length area ≡ size → area₁ ≡ sets area 0 (header_bytes (counts_of h))
      → TreeWritten p.text p.concatenations (pen_of p) (divided (stream_of list text)) area₁ area₂
      → ImageIs list text area area₂ p.stop
  fitting_image area area₁ area₂ long head rows =
      let s = stream_of list text in
      let none : literals_of (joined (map nodes_of (divided s))) ≡ [] = no_tree_literals (divided s) in
      record {
        length_is = ap (λ x. x.stop) told ∙ sym (image_size (tree_for list text));
        area_is =
            tree_image h p (tree_for list text) (map nodes_of (divided s)) (p.text - p.text) area area₁ area₂ (tree_is s) (omega arith) none
            told f.counts head (let fits = f.fits in omega arith) rows;
      }
