-- A component in the rows of its image: where its run ends, and that its items stand there.
use Rattle.std.specs.Prelude.{◌+◌, ◌∷◌, ◌++◌}
use Rattle.std.proofs.Common.{◌≡◌, ◌≤◌, sym, ap, ◌∙◌, add-zero, arith, length-append, eq-eqb, ne_eqb}
use Rattle.definition.specs.Prelude.{ℕ, suc, List, [], length}
use Rattle.definition.specs.Basics.{joined}
use Rattle.definition.specs.Image.{bytes_for}
use Rattle.definition.specs.Tree.{Node, recs_of, all_recs, literals_of, text_of, packed}
use Rattle.definition.specs.Text.{items}
use Rattle.prepared.specs.Bits.{length_packed}
use Rattle.prepared.specs.Groups.{text_of_append}
use Rattle.stages.specs.token_tree.Laid.{Laid, Runs}
use Rattle.stages.specs.token_tree.Table.{start_or, RunFits, run_in}
use Rattle.stages.specs.token_tree.Rows.{Rooted, Rows, TablesFit}
use Rattle.stages.specs.declared.token_tree.types.Tables.{Tables}
use Rattle.stages.proofs.token_tree.Places.{laid_first}
use Rattle.stages.proofs.token_tree.Forests.{planted_laid}

module _ (image : List ℕ) (t : Tables) where
  pub rows_cons : (k r s l : ℕ) (n : Node) (ns : List Node) → Rows image t k r s l (n ∷ ns)
      → Rooted image t k r s l n × Rows image t (suc k) (r + length (recs_of n)) (s + length (text_of (recs_of n))) (l + bytes_for (length n.bits)) ns
  unfolding Rows
  rows_cons k r s l n ns h = h

  pub rows_moved : (k k' r r' s s' l l' : ℕ) (ns : List Node) → k ≡ k' → r ≡ r' → s ≡ s' → l ≡ l' → Rows image t k r s l ns → Rows image t k' r' s' l' ns
  rows_moved k k' r r' s s' l l' ns a b c d h = rw (← a, ← b, ← c, ← d) h

  -- all their records and all their text
  pub rows_sum : (k r s l : ℕ) (ns : List Node) → Rows image t k r s l ns
      → (r + length (all_recs ns) ≡ t.last.0) × (s + length (text_of (all_recs ns)) ≡ t.t.0)
  unfolding Rows joined text_of
  rows_sum k r s l [] h = (let a = h.0 in omega (arith, a), let b = h.1 in omega (arith, b))
  rows_sum k r s l (n ∷ ns) h =
      let o = rows_sum (suc k) (r + length (recs_of n)) (s + length (text_of (recs_of n))) (l + bytes_for (length n.bits)) ns h.1 in
      let c = length-append (recs_of n) (all_recs ns) in
      let m = ap {A = List ℕ} length (text_of_append (recs_of n) (all_recs ns)) ∙ length-append (text_of (recs_of n)) (text_of (all_recs ns)) in
      (omega (arith, o.0, c), omega (arith, o.1, m))

  pub rows_order : (k r s l : ℕ) (ns : List Node) → Rows image t k r s l ns → (r ≤ t.last.0) × (s ≤ t.t.0)
  rows_order k r s l ns h = let o = rows_sum k r s l ns h in (omega (arith, o.0), omega (arith, o.1))

  -- those behind the first ones
  pub rows_behind : (k r s l : ℕ) (ns ms : List Node) → Rows image t k r s l (ns ++ ms)
      → Rows image t (k + length ns) (r + length (all_recs ns)) (s + length (text_of (all_recs ns))) (l + length (literals_of ns)) ms
  unfolding Rows joined text_of
  rows_behind k r s l [] ms h = rw (add-zero k, add-zero r, add-zero s, add-zero l) h
  rows_behind k r s l (n ∷ ns) ms h =
      let o = rows_behind (suc k) (r + length (recs_of n)) (s + length (text_of (recs_of n))) (l + bytes_for (length n.bits)) ns ms h.1 in
      let c = length-append (recs_of n) (all_recs ns) in
      let m = ap {A = List ℕ} length (text_of_append (recs_of n) (all_recs ns)) ∙ length-append (text_of (recs_of n)) (text_of (all_recs ns)) in
      let p = length-append (packed n.bits) (literals_of ns) in
      let b = length_packed n.bits in
      rows_moved (suc k + length ns) (k + suc (length ns)) (r + length (recs_of n) + length (all_recs ns)) (r + length (all_recs (n ∷ ns)))
      (s + length (text_of (recs_of n)) + length (text_of (all_recs ns))) (s + length (text_of (all_recs (n ∷ ns))))
      (l + bytes_for (length n.bits) + length (literals_of ns)) (l + length (literals_of (n ∷ ns)))
      ms (omega arith) (omega (arith, c)) (omega (arith, m)) (omega (arith, p, b)) o

  -- a component's items
  pub root_laid : (k r s l : ℕ) (n : Node) → Rooted image t k r s l n
      → Laid image t.tree s (r + length (recs_of n)) (s + length (text_of (recs_of n))) r s (items 0 (recs_of n))
  root_laid k r s l n h =
      planted_laid image t.tree s n.forest (r + length (recs_of n)) (s + length (text_of (recs_of n))) r s 0 (add-zero s) h.planted

  -- where its text starts
  pub rows_start : (k r s l : ℕ) (ns : List Node) → Rows image t k r s l ns → s ≡ start_or image t.tree r t.last.0 t.t.0
  unfolding Rows
  rows_start k r s l [] h = rw (eq-eqb r t.last.0 h.0) h.1
  rows_start k r s l (n ∷ ns) h =
      let o = rows_order (suc k) (r + length (recs_of n)) (s + length (text_of (recs_of n))) (l + bytes_for (length n.bits)) ns h.1 in
      let m = h.0.some in
      let f = laid_first image t.tree s (r + length (recs_of n)) (s + length (text_of (recs_of n))) r s (items 0 (recs_of n)) (omega (arith, m))
      (root_laid k r s l n h.0) in
      rw (ne_eqb r t.last.0 (λ q. let z : ◌≡◌ {A = ℕ} r t.last.0 = q in omega (arith, z, o.0, m))) (sym f.stands.start)

  -- and where it ends
  pub rows_end : (k r s l : ℕ) (n : Node) (ns : List Node) → Rows image t k r s l (n ∷ ns)
      → start_or image t.tree (r + length (recs_of n)) t.last.0 t.t.0 ≡ s + length (text_of (recs_of n))
  rows_end k r s l n ns h =
      sym (rows_start (suc k) (r + length (recs_of n)) (s + length (text_of (recs_of n))) (l + bytes_for (length n.bits)) ns (rows_cons k r s l n ns h).1)

  -- what is asked to make its run, and that it is one
  pub run_fits : (k r s l m x y : ℕ) (n : Node) (ns : List Node) → Rows image t k r s l (n ∷ ns) → TablesFit image t x y m
      → RunFits image t r (length (recs_of n))
  run_fits k r s l m x y n ns h f =
      let o = rows_order (suc k) (r + length (recs_of n)) (s + length (text_of (recs_of n))) (l + bytes_for (length n.bits)) ns (rows_cons k r s l n ns h).1 in
      let a = f.records_fit in
      let b = f.text_fits in
      record { order = o.0; table = omega (arith, a, b); small = f.small }

  pub runs_of : (k r s l m x y : ℕ) (n : Node) (ns : List Node) → Rows image t k r s l (n ∷ ns) → TablesFit image t x y m
      → Runs image t.tree (r + length (recs_of n)) (s + length (text_of (recs_of n))) r s
  runs_of k r s l m x y n ns h f =
      let g = rows_cons k r s l n ns h in
      let o = rows_order (suc k) (r + length (recs_of n)) (s + length (text_of (recs_of n))) (l + bytes_for (length n.bits)) ns g.1 in
      let a = f.records_fit in
      let b = f.text_fits in
      record {
        base = s;
        items = items 0 (recs_of n);
        laid = root_laid k r s l n g.0;
        fits = omega (arith, o.0, a, b);
        text_fits = omega (arith, o.1, b);
        small = f.small;
        text_small = g.0.planted.small;
      }

  -- the same of the run that `run_of` gives
  pub run_is : (k r s l : ℕ) (n : Node) (ns : List Node) → Rows image t k r s l (n ∷ ns)
      → run_in image t r (length (recs_of n))
      ≡ record { r = record { 0 = r }; stop = record { 0 = r + length (recs_of n) }; «end» = record { 0 = s + length (text_of (recs_of n)) } }
  run_is k r s l n ns h = rw (rows_end k r s l n ns h)
