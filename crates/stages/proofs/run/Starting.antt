-- The text of the component that is scanned for a starting value begins within the image.
use Rattle.std.specs.Prelude as Std
use Rattle.std.specs.Prelude.{Ok, Err, ◌+◌, ◌*◌, ◌-◌, ◌∷◌, ◌++◌}
use Rattle.std.proofs.Common.{◌≡◌, ◌<◌, ◌≤◌, sym, subst, add-zero, add_assoc, zero-add, arith, length-append, ne_eqb}
use Rattle.definition.specs.Prelude.{ℕ, zero, suc, List, [], length}
use Rattle.definition.specs.Basics.{ok, sum, joined, tab}
use Rattle.definition.specs.Image.{u32_at, bytes_for, counts, component_count, tree_of}
use Rattle.definition.specs.Tree.{Tree, Node, recs_of, text_of}
use Rattle.definition.specs.Component.{starting_value, source}
use Rattle.errors.specs.Refused.{refused_as}
use Rattle.errors.specs.declared.Refusal.{Refusal}
use Rattle.stages.specs.token_tree.Table.{start_in, tree_in, tables_in}
use Rattle.stages.specs.token_tree.Rows.{Rows, Sizes}
use Rattle.stages.specs.token_tree.Grown.{Grown}
use Rattle.stages.specs.component.Start.{records_before, scanned_record, scanned_base, after_of, TextFits, AfterTree, StartReads}
use Rattle.stages.specs.run.Run.{init_of}
use Rattle.stages.specs.declared.token_tree.types.Tables.{Tables}
use Rattle.stages.specs.declared.component.start.Start.{Start}
use Rattle.stages.proofs.token_tree.Roots.{rows_cons, rows_order, rows_start}

module _ (image : List ℕ) (t : Tables) where
  -- the text of the j-th component of a row begins within the text table
  start_within : (ns : List Node) (j k r s l : ℕ) → j < length ns → Rows image t k r s l ns
      → start_in image t.tree (r + sum (tab (λ i. u32_at image (t.components + 8 * i)) k j)) ≤ t.t.0
  unfolding sum tab
  start_within [] j k r s l h g = absurd (omega arith)
  start_within (n ∷ ns) zero k r s l h g =
      let (a, b) = rows_cons image t k r s l n ns g in
      let o = rows_order image t (suc k) (r + length (recs_of n)) (s + length (text_of (recs_of n))) (l + bytes_for (length n.bits)) ns b in
      let m = a.some in
      let f = rows_start image t k r s l (n ∷ ns) g in
      let e : s ≡ start_in image t.tree r = rw (ne_eqb r t.last.0 (λ q. let z : ◌≡◌ {A = ℕ} r t.last.0 = q in omega (arith, z, o.0, m))) at f in
      rw (add-zero r, ← e) (rows_order image t k r s l (n ∷ ns) g).1
  start_within (n ∷ ns) (suc j) k r s l h g =
      let (a, b) = rows_cons image t k r s l n ns g in
      rw (a.size, ← add_assoc)
      (start_within ns j (suc k) (r + length (recs_of n)) (s + length (text_of (recs_of n))) (l + bytes_for (length n.bits)) (omega arith) b)

scanned_within : (image : List ℕ) (t : Tree) → Sizes image 0 t → Rows image (tables_in image) 0 0 0 0 (joined t) → 1 ≤ length t
    → scanned_base image ≤ (counts image).t
unfolding records_before joined Sizes
scanned_within image [] z r s = absurd (omega arith)
scanned_within image (c ∷ cs) z r s =
    let n = length-append c (joined cs) in
    let a : component_count image 0 ≡ length c = z.0 in
    let b = z.1 in
    subst (λ (p : ℕ). start_in image (tree_in image) p ≤ (counts image).t) (zero-add (scanned_record image))
    (start_within image (tables_in image) (c ++ joined cs) (component_count image 0 - 1) 0 0 0 0 (omega (arith, n, a, b)) r)

pub base_small : (image : List ℕ) → Grown image → scanned_base image + length image < 4294967296
base_small image g =
    let a = scanned_within image g.tree g.sizes g.rows g.some_concatenation in
    let b = g.text_fits in
    let c = g.small in
    omega (arith, a, b, c)

-- ---- the starting value that is found, or refused

module _ {image : List ℕ} {q : Std.Result (Std.Option Start) Refusal} (said : (g : Grown image) → StartReads image g.tree q) (g : Grown image) where
  module _ {s : Std.Option Start} (p : q ≡ Ok s) where
    pub start_text : TextFits image (tree_in image) (scanned_base image) s
    start_text = (rw p at (said g).held).1

    pub start_is : starting_value 0 (source (tree_of image)) ≡ ok (init_of image s)
    start_is = sym (rw p at (said g).is)

    -- what stage 1 asks of it
    pub start_after : {t : Tables} → t ≡ tables_in image → AfterTree image t.tree (after_of s) 0 0 g.tree
    start_after e = rw e ((rw p at (said g).held).0)

  pub start_refused : {e : Refusal} → q ≡ Err e → starting_value 0 (source (tree_of image)) ≡ refused_as e
  start_refused p = sym (rw p at (said g).is)
