-- The run that is read of a component: all its items, or those behind a starting value's colon.
use Rattle.std.specs.Prelude.{◌+◌, ◌*◌, ◌-◌, ◌∷◌}
use Rattle.std.proofs.Common.{◌≡◌, ◌<◌, ◌≤◌, ◌⊎◌, sym, refl, ap, ◌∙◌, subst, inl, inr, arith, length-append, length-drop, take-append-drop, length-take-le, le-leb}
use borrow.Author.Tests.{lt-leb}
use Rattle.definition.specs.Prelude.{ℕ, suc, Bool, true, false, Option, none, some, List, length, take, drop, leb}
use Rattle.definition.specs.Image.{u32_at}
use Rattle.definition.specs.Tree.{Node, recs_of, text_of}
use Rattle.definition.specs.Text.{Item, items}
use Rattle.definition.specs.Component.{split_range, Prefix, prefix_of}
use Rattle.laws.specs.Tests.{by_test}
use Rattle.stages.specs.token_tree.Laid.{Laid, Runs, place_of}
use Rattle.stages.specs.token_tree.Table.{run_in}
use Rattle.stages.specs.token_tree.Rows.{node_of, Rows, TablesFit}
use Rattle.stages.specs.component.Parse.{items_read}
use Rattle.stages.specs.component.Start.{AfterIs}
use Rattle.stages.specs.component.Read.{without_after}
use Rattle.stages.specs.declared.token_tree.types.Run.{Run}
use Rattle.stages.specs.declared.token_tree.types.Tree.{Tree}
use Rattle.stages.specs.declared.token_tree.types.Tables.{Tables}
use Rattle.stages.proofs.component.parse.Splits.{mid_length}
use Rattle.stages.proofs.token_tree.Places.{laid_split, laid_some}
use Rattle.stages.proofs.token_tree.Walks.{runs_within}
use Rattle.stages.proofs.token_tree.Roots.{rows_cons, root_laid, run_is, runs_of}
use Rattle.stages.proofs.component.parse.Splits.{colon_parts}

-- the run that is read, of a component whose text begins at s
pub record Cut (image : List ℕ) (t : Tree) (s : ℕ) (scanned : Bool) (n : Node) (run : Run) : Type 0 where
  pub from : ℕ
  pub laid : Laid image t s run.stop.0 run.«end».0 run.r.0 from (items_read scanned (node_of n))
  pub some : run.r.0 < run.stop.0
  pub runs : Runs image t run.stop.0 run.«end».0 run.r.0 from

module _ (image : List ℕ) (t : Tree) (after s stop tail r : ℕ) (n : Node) (size : 1 ≤ length (recs_of n)) (e : stop ≡ r + length (recs_of n))
    (u : Runs image t stop tail r s) (l : Laid image t s stop tail r s (items 0 (recs_of n))) where
  abbrev whole : Run
  whole = record { r = record { 0 = r }; stop = record { 0 = stop }; «end» = record { 0 = tail } }

  abbrev Reads : Bool → List Item → Run → Type 0
  Reads b is run =
      (from : ℕ) × Laid image t s run.stop.0 run.«end».0 run.r.0 from is × (run.r.0 < run.stop.0)
      × Runs image t run.stop.0 run.«end».0 run.r.0 from

  all_read : (after ≤ r) ⊎ (stop ≤ after) → without_after whole after ≡ whole
  all_read (inl a) = rw (le-leb after r a) refl
  all_read (inr a) = by_test (leb after r) (λ q. rw q refl) (λ q. rw (q, le-leb stop after a) refl)

  cut_whole : (b : Bool) → (after ≤ r) ⊎ (stop ≤ after) → Reads b (items 0 (recs_of n)) (without_after whole after)
  cut_whole b a = subst (Reads b (items 0 (recs_of n))) (sym (all_read a)) (s, l, omega (arith, size, e), u)

  cut_behind : (k : ℕ) → after ≡ place_of image t r (suc k) → suc k < length (items 0 (recs_of n)) → Reads true (drop (k + 1) (items 0 (recs_of n))) (without_after whole after)
  cut_behind k a f =
      let is = items 0 (recs_of n) in
      let one : k + 1 ≡ suc k = omega arith in
      let len : length (take (suc k) is) ≡ suc k = length-take-le (suc k) is (omega (arith, f)) in
      let p = laid_split image t s stop tail r s (take (suc k) is) (drop (suc k) is) (rw (take-append-drop (suc k) is) l) in
      let b : after ≡ place_of image t r (length (take (suc k) is)) = a ∙ ap (place_of image t r) (sym len) in
      let low : r < after = rw b (laid_some image t s _ _ r s (take (suc k) is) (omega (arith, len)) p.before).1 in
      let rest : length (drop (suc k) is) ≡ length is - suc k = length-drop (suc k) is in
      let high : after < stop = rw b (laid_some image t s stop tail _ p.from (drop (suc k) is) (omega (arith, rest, f)) p.after).1 in
      let cut : without_after whole after ≡ record { r = record { 0 = after }; stop = record { 0 = stop }; «end» = record { 0 = tail } } =
      rw (lt-leb after r low, lt-leb stop after high) refl in
      subst (Reads true (drop (k + 1) is)) (sym cut)
      (p.from, rw (one, b) p.after, high, rw b (runs_within s (drop (suc k) is) u (omega arith) (omega arith) p.after))

  cut_scanned : (o : Option Prefix) → prefix_of (node_of n) ≡ o
      → elim o as (λ x. Type 0) [ none ↦ after ≡ 0 | some p ↦ (after ≡ place_of image t r (suc (length p.before))) × (1 ≤ length p.after) ]
      → Reads true (elim o as (λ x. List Item) [ none ↦ items 0 (recs_of n) | some p ↦ drop (length p.before + 1) (items 0 (recs_of n)) ]) (without_after whole after)
  cut_scanned none q a = cut_whole true (inl (omega (arith, a)))
  cut_scanned (some p) q (a, b) =
      let c = colon_parts (split_range (items 0 (recs_of n))).mid p q in
      let m = ap {A = List Item} length c.parts ∙ length-append p.before (c.sign ∷ p.after) in
      let k = mid_length (items 0 (recs_of n)) in
      cut_behind (length p.before) a (omega (arith, m, k, b))

  cut_read : (scanned : Bool) → AfterIs image t after r scanned n → Reads scanned (items_read scanned (node_of n)) (without_after whole after)
  cut_read false a = cut_whole false (subst (λ x. (after ≤ r) ⊎ (x ≤ after)) (sym e) a)
  cut_read true a = cut_scanned (prefix_of (node_of n)) refl a

  pub cut_is : (scanned : Bool) (run : Run) → AfterIs image t after r scanned n → run ≡ without_after whole after → Cut image t s scanned n run
  cut_is scanned run a q =
      let (from, x, y, z) = cut_read scanned a in
      rw q (record { from = from; laid = x; some = y; runs = z })

-- in the rows of its image
pub cut_of : (image : List ℕ) (t : Tables) (k r s l x y m after : ℕ) (n : Node) (ns : List Node) (scanned : Bool) → Rows image t k r s l (n ∷ ns)
    → TablesFit image t x y m → AfterIs image t.tree after r scanned n → (size : ℕ) (run cut : Run) → size ≡ u32_at image (t.components + 8 * k)
    → run ≡ run_in image t r size → cut ≡ without_after run after → Cut image t.tree s scanned n cut × (run.stop.0 ≡ r + length (recs_of n))
cut_of image t k r s l x y m after n ns scanned h f a size run cut es er ec =
    let g = (rows_cons image t k r s l n ns h).0 in
    let e : run ≡ record { r = record { 0 = r }; stop = record { 0 = r + length (recs_of n) }; «end» = record { 0 = s + length (text_of (recs_of n)) } } =
    er ∙ ap (run_in image t r) (es ∙ g.size) ∙ run_is image t k r s l n ns h in (
      cut_is image t.tree after s (r + length (recs_of n)) (s + length (text_of (recs_of n))) r n g.some refl (runs_of image t k r s l m x y n ns h f)
          (root_laid image t k r s l n g) scanned cut a (ec ∙ ap (λ z. without_after z after) e),
      ap (λ (z : Run). z.stop.0) e,
    )
