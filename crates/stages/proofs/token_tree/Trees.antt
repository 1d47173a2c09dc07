-- Every image that passes the check has its components in rows.
use Rattle.std.specs.Prelude.{◌+◌, ◌*◌, ◌^◌, ◌∷◌, ◌++◌}
use Rattle.std.proofs.Common.{◌≡◌, ◌<◌, ◌≤◌, sym, refl, ap, ◌∙◌, subst, add_assoc, arith, length-append}
use Rattle.definition.specs.Prelude.{ℕ, suc, true, List, [], map, length, leb}
use Rattle.definition.specs.Basics.{all, joined}
use Rattle.definition.specs.Image.{bytes_for, tables, counts}
use Rattle.definition.specs.Tree.{Tree, Node, recs_of, all_recs, text_of, literals_of, u32, packed, record_bytes, image_of, fits, sound_node}
use Rattle.laws.specs.Tests.{and_iff, leb_iff}
use Rattle.prepared.specs.Bytes.{Holds, holds_left, holds_right, u32_at_next}
use Rattle.prepared.specs.Bits.{length_packed}
use Rattle.prepared.specs.Groups.{text_of_append}
use Rattle.prepared.specs.Components.{sound_cons}
use Rattle.prepared.specs.Layout.{fits_parts, layout, tables_of, concatenation_row, component_row}
use Rattle.prepared.specs.Prepared.{read_back}
use Rattle.prepared.specs.back.Every.{every_image}
use Rattle.stages.specs.token_tree.Table.{tables_in}
use Rattle.stages.specs.token_tree.Rows.{Rows, TablesFit, Sizes}
use Rattle.stages.specs.token_tree.Grown.{Grown, EveryGrown}
use Rattle.stages.specs.declared.token_tree.types.Tables.{Tables}
use Rattle.stages.proofs.token_tree.Forests.{records_behind, records_before_lem, text_behind, text_before}

no_text : (s t : ℕ) → s + length (text_of []) ≡ t → s ≡ t
unfolding text_of
no_text s t k = omega (arith, k)

module _ (image : List ℕ) (t : Tables) where
  rows : (ns : List Node) (k r s l : ℕ) → all sound_node ns ≡ true → length (all_recs ns) < 2 ^ 31 → s + length (text_of (all_recs ns)) < 2 ^ 32
      → Holds image (t.components + 8 * k) (joined (map component_row ns)) → Holds image (t.tree.records + 12 * r) (record_bytes s (all_recs ns))
      → Holds image (t.tree.text + s) (text_of (all_recs ns)) → Holds image (t.literals + l) (literals_of ns)
      → r + length (all_recs ns) ≡ t.last.0 → s + length (text_of (all_recs ns)) ≡ t.t.0 → Rows image t k r s l ns
  unfolding Rows joined
  rows [] k r s l g few small hc hr ht hl en tn = (omega (arith, en), no_text s t.t.0 tn)
  rows (n ∷ ns) k r s l g few small hc hr ht hl en tn =
      let (sn, gs) = sound_cons n ns g in
      let c = length-append (recs_of n) (all_recs ns) in
      let m = ap {A = List ℕ} length (text_of_append (recs_of n) (all_recs ns)) ∙ length-append (text_of (recs_of n)) (text_of (all_recs ns)) in
      let wide = sn.width in
      let (size, hw) = u32_at_next image (t.components + 8 * k) (length (recs_of n)) (u32 (length n.bits) ++ joined (map component_row ns)) hc
      (omega (arith, few, c)) in
      let (width, hn) = u32_at_next image (t.components + 8 * k + 4) (length n.bits) (joined (map component_row ns)) hw (omega (arith, wide)) in
      let next : t.components + 8 * k + 4 + 4 ≡ t.components + 8 * suc k = omega arith in (
        record {
          size = size;
          width = width;
          some = sn.some_record;
          narrow = omega (arith, wide);
          bits = sn.bits;
          planted = record {
            sound = sn.forest;
            ends = refl;
            text_ends = refl;
            few = omega (arith, few, c);
            small = omega (arith, small, m);
            records = records_before_lem image (t.tree.records + 12 * r) s (recs_of n) (all_recs ns) hr;
            text = text_before image (t.tree.text + s) (recs_of n) (all_recs ns) ht;
          };
          literal = holds_left image (t.literals + l) (packed n.bits) (literals_of ns) hl;
        },
        rows ns (suc k) (r + length (recs_of n)) (s + length (text_of (recs_of n))) (l + bytes_for (length n.bits)) gs (omega (arith, few, c))
            (omega (arith, small, m)) (rw next at hn) (records_behind image t.tree.records r s (recs_of n) (all_recs ns) hr)
            (text_behind image t.tree.text s (recs_of n) (all_recs ns) ht)
            (rw (length_packed n.bits, add_assoc t.literals l (bytes_for (length n.bits))) at
            (holds_right image (t.literals + l) (packed n.bits) (literals_of ns) hl))
            (omega (arith, en, c)) (omega (arith, tn, m)),
      )

sizes : (image : List ℕ) (t : Tree) (i : ℕ) → all (λ c. leb 1 (length c)) t ≡ true → length (joined t) ≤ 256
    → Holds image (40 + 4 * i) (joined (map concatenation_row t)) → Sizes image i t
unfolding Sizes joined all
sizes image [] i g few h = tt
sizes image (c ∷ cs) i g few h =
    let (a, b) = (and_iff (leb 1 (length c)) (all (λ c. leb 1 (length c)) cs)).0 g in
    let n = length-append c (joined cs) in
    let (size, hn) = u32_at_next image (40 + 4 * i) (length c) (joined (map concatenation_row cs)) h (omega (arith, few, n)) in
    let next : 40 + 4 * i + 4 ≡ 40 + 4 * suc i = omega arith in
    (size, (leb_iff 1 (length c)).0 a, sizes image cs (suc i) b (omega (arith, few, n)) (rw next at hn))

-- the image of a tree that fits
grown : (t : Tree) → fits t ≡ true → Grown (image_of t)
grown t f =
    let ft = fits_parts t f in
    let ly = layout t ft in
    let rb = read_back t f in
    let c = rb.concatenations in
    let n = rb.components in
    let r = rb.records in
    let tb = rb.text_bytes in
    let rc = ft.records in
    let tx = ft.text in
    let sz = ly.size in
    record {
      tree = t;
      reads = rb.tree;
      count = c;
      nodes = n;
      rows = rows (image_of t) (tables_in (image_of t)) (joined t) 0 0 0 0 ft.sound (omega (arith, rc)) (omega (arith, tx))
          (moved (tables_of t).components ((tables (image_of t)).components + 8 * 0) (joined (map component_row (joined t)))
          ly.components (omega (arith, c)))
          (moved (tables_of t).records ((tables (image_of t)).records + 12 * 0) (record_bytes 0 (all_recs (joined t))) ly.records (omega (arith, c, n)))
          (moved (tables_of t).text ((tables (image_of t)).text + 0) (text_of (all_recs (joined t))) ly.text (omega (arith, c, n, r)))
          (moved (tables_of t).literals ((tables (image_of t)).literals + 0) (literals_of (joined t)) ly.literals (omega (arith, c, n, r, tb)))
          (omega (arith, r)) (omega (arith, tb));
      sizes = sizes (image_of t) t 0 ft.some_component ft.components
          (moved (tables_of t).concatenations (40 + 4 * 0) (joined (map concatenation_row t)) ly.concatenations (omega arith));
      text_fits = omega (arith, c, n, r, tb, sz);
      small = (let l₁ = ft.concatenations in let l₂ = ft.components in let l₃ = ft.literals in omega (arith, sz, rc, tx, l₁, l₂, l₃));
      some_concatenation = ft.some_concatenation;
      few_components = ft.components;
      few_concatenations = ft.concatenations;
    }
  where
    moved : (a b : ℕ) (m : List ℕ) → Holds (image_of t) a m → a ≡ b → Holds (image_of t) b m
    moved a b m h q = subst (λ x. Holds (image_of t) x m) q h

pub every_grown : EveryGrown
every_grown image b h =
    let (t, f, e) = every_image image b h in
    subst Grown (sym e) (grown t f)

-- what a walk over all components asks, and a walk over the concatenations' sizes
pub tables_fit : (image : List ℕ) (g : Grown image) (n : ℕ) → n ≡ length (joined g.tree) → TablesFit image (tables_in image) 0 0 n
tables_fit image g n e =
    let m = g.nodes in
    let few = g.few_components in
    record {
      rows_fit = omega (arith, m, e);
      records_fit = refl;
      text_fits = g.text_fits;
      lits = refl;
      small = g.small;
      few = omega (arith, few, e);
      short = omega (arith, few, e);
    }

pub counts_fit : (image : List ℕ) (g : Grown image) → (40 + 4 * (counts image).c ≤ length image) × Sizes image 0 g.tree
counts_fit image g = let f = g.text_fits in (omega (arith, f), g.sizes)
