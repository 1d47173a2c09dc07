-- Where a walk stands: what its numbers are, and that the next components fit, too.
use Rattle.std.specs.Prelude.{◌+◌, ◌*◌, ◌^◌, ◌∷◌, ◌++◌}
use Rattle.std.proofs.Common.{◌≡◌, ◌<◌, ◌≤◌, sym, ap, ◌∙◌, subst, add-zero, arith, length-append, length-drop}
use Rattle.definition.specs.Prelude.{ℕ, suc, List, [], length}
use Rattle.definition.specs.Basics.{joined}
use Rattle.definition.specs.Image.{u32_at, bytes_for}
use Rattle.definition.specs.Tree.{Node, literals_of, packed}
use Rattle.prepared.specs.Bits.{length_packed}
use Rattle.stages.specs.token_tree.Table.{RunFits}
use Rattle.stages.specs.token_tree.Rows.{Rooted, Rows, TablesFit}
use Rattle.stages.specs.component.Read.{WalkFits}
use Rattle.stages.specs.declared.token_tree.types.Tables.{Tables}
use Rattle.stages.specs.declared.component.walk.Walk.{Walk}
use Rattle.stages.proofs.token_tree.Roots.{rows_cons, run_fits}

module _ (image : List ℕ) (t : Tables) where
  pub run_asked : (k r s l x y m : ℕ) (n : Node) (ns : List Node) → Rows image t k r s l (n ∷ ns) → TablesFit image t x y m
      → (size : ℕ) → size ≡ u32_at image (t.components + 8 * k) → RunFits image t r size
  run_asked k r s l x y m n ns h f size e =
      subst (RunFits image t r) (sym (e ∙ (rows_cons image t k r s l n ns h).0.size)) (run_fits image t k r s l m x y n ns h f)

  pub width_is : (k r s l : ℕ) (n : Node) (ns : List Node) → Rows image t k r s l (n ∷ ns) → (width : ℕ) → width ≡ u32_at image (t.components + 8 * k + 4)
      → width ≡ length n.bits
  width_is k r s l n ns h width e = e ∙ (rows_cons image t k r s l n ns h).0.width

  pub width_small : (k r s l : ℕ) (n : Node) (ns : List Node) → Rows image t k r s l (n ∷ ns) → (width : ℕ) → width ≡ u32_at image (t.components + 8 * k + 4)
      → width ≤ 4096
  width_small k r s l n ns h width e =
      let a = width_is k r s l n ns h width e in
      let b = (rows_cons image t k r s l n ns h).0.narrow in
      omega (arith, a, b)

  pub text_small : (k r s l : ℕ) (n : Node) (ns : List Node) → Rows image t k r s l (n ∷ ns) → s < 2 ^ 32
  text_small k r s l n ns h = let a = (rows_cons image t k r s l n ns h).0.planted.small in omega (arith, a)

  -- what is asked of the tables, and that the literals before lie within the image
  pub record Fits (k l n : ℕ) : Type 0 where
    pub tables : TablesFit image t k l n
    pub literals : t.literals + l ≤ length image

  fits_one : (k r s l x : ℕ) (n : Node) → Rooted image t k r s l n → Fits k l (suc x) → Fits (suc k) (l + bytes_for (length n.bits)) x
  fits_one k r s l x n g f =
      let a = f.tables.rows_fit in
      let b = f.tables.few in
      let c = f.tables.short in
      let d = g.narrow in
      let e = f.literals in
      let p = length_packed n.bits in
      let q = sym (length-drop (t.literals + l) image) ∙ ap {A = List ℕ} length g.literal.1 ∙ length-append (packed n.bits) g.literal.0 in
      record {
        tables = record {
          rows_fit = omega (arith, a);
          records_fit = f.tables.records_fit;
          text_fits = f.tables.text_fits;
          lits = f.tables.lits;
          small = f.tables.small;
          few = omega (arith, b);
          short = omega (arith, c, d);
        };
        literals = omega (arith, e, p, q);
      }

  -- those behind the first ones
  fits_list : (k r s l : ℕ) (ns ms : List Node) → Rows image t k r s l (ns ++ ms) → Fits k l (length (ns ++ ms)) → Fits (k + length ns) (l + length (literals_of ns)) (length ms)
  unfolding joined
  fits_list k r s l [] ms h f = rw (add-zero k, add-zero l) f
  fits_list k r s l (n ∷ ns) ms h f =
      let g = rows_cons image t k r s l n (ns ++ ms) h in
      let o = fits_list (suc k) _ _ _ ns ms g.1 (fits_one k r s l (length (ns ++ ms)) n g.0 f) in
      let p = length-append (packed n.bits) (literals_of ns) in
      let b = length_packed n.bits in
      moved (suc k + length ns) (k + suc (length ns)) (l + bytes_for (length n.bits) + length (literals_of ns)) (l + length (literals_of (n ∷ ns)))
      (omega arith) (omega (arith, p, b)) o
    where
      moved : (k k' l l' : ℕ) → k ≡ k' → l ≡ l' → Fits k l (length ms) → Fits k' l' (length ms)
      moved k k' l l' a b f = rw (← a, ← b) f

  pub fits_behind : (w m : Walk) (s room : ℕ) (ns ms : List Node) → Rows image t w.k.0 w.r.0 s w.l (ns ++ ms) → WalkFits image t w (length (ns ++ ms)) room
      → m.k.0 ≡ w.k.0 + length ns → m.l ≡ w.l + length (literals_of ns) → WalkFits image t m (length ms) room
  fits_behind w m s room ns ms h f a b =
      let o = fits_list w.k.0 w.r.0 s w.l ns ms h (record { tables = f.tables; literals = f.literals }) in
      let x = f.room_fits in
      let y = length-append ns ms in
      record {
        tables = rw (a, b) o.tables;
        literals = rw b o.literals;
        room_fits = omega (arith, x, y, a);
      }

  -- those behind the first one
  pub fits_next : (w m : Walk) (s room : ℕ) (n : Node) (ns : List Node) → Rows image t w.k.0 w.r.0 s w.l (n ∷ ns)
      → WalkFits image t w (length (n ∷ ns)) room → m.k.0 ≡ w.k.0 + 1 → m.l ≡ w.l + bytes_for (length n.bits) → WalkFits image t m (length ns) room
  fits_next w m s room n ns h f a b =
      let o = fits_one w.k.0 w.r.0 s w.l (length ns) n (rows_cons image t w.k.0 w.r.0 s w.l n ns h).0
      (record { tables = f.tables; literals = f.literals }) in
      let x = f.room_fits in
      let k : m.k.0 ≡ suc w.k.0 = omega (arith, a) in
      record { tables = rw (k, b) o.tables; literals = rw b o.literals; room_fits = omega (arith, x, a) }
