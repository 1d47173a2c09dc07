-- The loop over all concatenations: where it stands, and what is said of the whole tree once the rest is done.
use Rattle.std.specs.Prelude as Std
use Rattle.std.specs.Prelude.{Ok, Err, ◌+◌, ◌*◌, ◌∷◌, ◌++◌}
use Rattle.std.proofs.Common.{◌≡◌, ◌<◌, ◌≤◌, sym, refl, ap, subst, add-one, arith}
use Rattle.definition.specs.Prelude.{ℕ, suc, List, [], length}
use Rattle.definition.specs.Basics.{joined}
use Rattle.definition.specs.Image.{u32_at, counts}
use Rattle.definition.specs.Tree.{Node, all_recs, text_of}
use Rattle.errors.specs.declared.Refusal.{Refusal}
use Rattle.stages.specs.token_tree.Table.{tables_in}
use Rattle.stages.specs.token_tree.Rows.{Rows, Sizes}
use Rattle.stages.specs.token_tree.Grown.{Grown}
use Rattle.stages.specs.component.Start.{AfterIn, AfterTree}
use Rattle.stages.specs.component.Read.{walk_from, WalkFits, TurnsAre, StagesAre}
use Rattle.stages.specs.declared.token_tree.types.Tables.{Tables}
use Rattle.stages.specs.declared.component.types.Component.{Component}
use Rattle.stages.specs.declared.component.walk.Walk.{Walk}
use Rattle.stages.proofs.Lists.{none_in}
use Rattle.stages.proofs.token_tree.Roots.{rows_behind, rows_moved}
use Rattle.stages.proofs.token_tree.Trees.{tables_fit}
use Rattle.stages.proofs.component.walk.Standing.{fits_behind}
use Rattle.stages.proofs.component.walk.Forest.{StagesFrom, stages_are, stages_none, stages_refused, stages_cons}

module _ (image : List ℕ) (t : Tables) (after : ℕ) where
  -- the concatenations that are left stand at the walk's place
  pub record Stands (i : ℕ) (w : Walk) (kept : List Component) : Type 0 where
    pub s : ℕ
    pub rest : List (List Node)
    pub count : i + length rest ≡ t.c
    pub rows : Rows image t w.k.0 w.r.0 s w.l (joined rest)
    pub fits : WalkFits image t w (length (joined rest)) (length kept)
    pub sizes : Sizes image i rest
    pub after_tree : AfterTree image t.tree after i w.r.0 rest
    pub goes : (q : Std.Result Unit Refusal) (kept' : List Component) → StagesFrom image t i s rest w q kept kept' → StagesAre image q kept'

  pub stands_start : (g : Grown image) (kept : List Component) → t ≡ tables_in image → (counts image).n ≤ length kept → AfterTree image t.tree after 0 0 g.tree
      → Stands 0 walk_from kept
  stands_start g kept e room a =
      let f = tables_fit image g (length (joined g.tree)) refl in
      let c : t.c ≡ (counts image).c = ap (λ (x : Tables). x.c) e in
      let n = g.nodes in
      let k = g.count in
      let x = f.lits in
      let y = f.text_fits in
      let z : t.literals ≡ (tables_in image).literals = ap (λ (x : Tables). x.literals) e in
      record {
        s = 0;
        rest = g.tree;
        count = omega (arith, c, k);
        rows = subst (λ x. Rows image x 0 0 0 0 (joined g.tree)) (sym e) g.rows;
        fits = record { tables = rw e f; literals = omega (arith, x, y, z); room_fits = omega (arith, room, n) };
        sizes = g.sizes;
        after_tree = a;
        goes = λ q kept'. stages_are image t g.tree q kept kept' e g.reads;
      }

  pub stands_end : (i : ℕ) (w : Walk) (kept : List Component) → Stands i w kept → t.c ≤ i → StagesAre image w.second kept
  stands_end i w kept v l =
      let c = v.count in
      v.goes w.second kept (subst (λ x. StagesFrom image t i v.s x w w.second kept kept) (sym (none_in v.rest (omega (arith, c, l))))
      (stages_none image t i v.s w kept))

  -- the first of them
  pub record Next (i : ℕ) (w : Walk) (kept : List Component) (s : ℕ) (rest : List (List Node)) : Type 0 where
    pub nodes : List Node
    pub others : List (List Node)
    pub parts : rest ≡ nodes ∷ others
    pub size : u32_at image (40 + 4 * i) ≡ length nodes
    pub some : 1 ≤ length nodes
    pub rows : Rows image t w.k.0 w.r.0 s w.l (nodes ++ joined others)
    pub fits : WalkFits image t w (length (nodes ++ joined others)) (length kept)
    pub sizes : Sizes image (suc i) others
    pub after_in : AfterIn image t.tree after i w.r.0 nodes
    pub after_tree : AfterTree image t.tree after (suc i) (w.r.0 + length (all_recs nodes)) others

  next_of : (i : ℕ) (w : Walk) (kept : List Component) (s : ℕ) (rest : List (List Node)) → 1 ≤ length rest → Rows image t w.k.0 w.r.0 s w.l (joined rest)
      → WalkFits image t w (length (joined rest)) (length kept) → Sizes image i rest → AfterTree image t.tree after i w.r.0 rest → Next i w kept s rest
  unfolding joined Sizes AfterTree
  next_of i w kept s [] l h f z a = absurd (omega (arith, l))
  next_of i w kept s (c ∷ cs) l h f (x, y, z) (a, b) =
      record { nodes = c; others = cs; parts = refl; size = x; some = y; rows = h; fits = f; sizes = z; after_in = a; after_tree = b }

  pub next_standing : (i : ℕ) (w : Walk) (kept : List Component) (v : Stands i w kept) → i < t.c → Next i w kept v.s v.rest
  next_standing i w kept v l =
      next_of i w kept v.s v.rest (let c = v.count in omega (arith, c, l)) v.rows v.fits v.sizes v.after_tree

  -- after the turns of one
  module _ (i : ℕ) (w : Walk) (o : Std.Result Walk Refusal) (kept kept₁ : List Component) (v : Stands i w kept) (x : Next i w kept v.s v.rest)
      (h : TurnsAre image t i v.s x.nodes w o kept kept₁) where
    pub all_refused : (y : Refusal) → o ≡ Err y → StagesAre image (Err y) kept₁
    all_refused y e =
        v.goes (Err y) kept₁ (subst (λ z. StagesFrom image t i v.s z w (Err y) kept kept₁) (sym x.parts)
        (stages_refused image t i v.s x.nodes x.others w o kept kept₁ h y e))

    pub stands_next : (m : Walk) → o ≡ Ok m → Stands (i + 1) m kept₁
    stands_next m e =
        let (k, r, l) = h.turned m e in
        let c = v.count in
        let z : length v.rest ≡ suc (length x.others) = ap {A = List (List Node)} length x.parts in
        record {
          s = v.s + length (text_of (all_recs x.nodes));
          rest = x.others;
          count = omega (arith, c, z);
          rows = rows_moved image t _ m.k.0 _ m.r.0 _ _ _ m.l (joined x.others) (sym k) (sym r) refl (sym l)
              (rows_behind image t w.k.0 w.r.0 v.s w.l x.nodes (joined x.others) x.rows);
          fits = subst (WalkFits image t m (length (joined x.others))) (sym h.long)
              (fits_behind image t w m v.s (length kept) x.nodes (joined x.others) x.rows x.fits k l);
          sizes = rw (add-one i) x.sizes;
          after_tree = rw (add-one i, r) x.after_tree;
          goes = λ q kept' g.
              v.goes q kept' (subst (λ y. StagesFrom image t i v.s y w q kept kept') (sym x.parts)
              (stages_cons image t i v.s x.nodes x.others w o kept kept₁ h m q kept' e (rw (add-one i) at g)));
        }
