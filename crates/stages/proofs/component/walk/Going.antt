-- The loop over the components of a concatenation: where it stands, and what is said of all once the rest is done.
use Rattle.std.specs.Prelude as Std
use Rattle.std.specs.Prelude.{Ok, Err, ◌+◌, ◌&&◌, ◌∷◌, ◌++◌}
use Rattle.std.proofs.Common.{◌≡◌, ◌<◌, ◌≤◌, sym, refl, ap, subst, add-one, arith}
use Rattle.definition.specs.Prelude.{ℕ, suc, Bool, List, [], length, eqb}
use Rattle.definition.specs.Basics.{is_empty}
use Rattle.definition.specs.Tree.{Node, recs_of, text_of}
use Rattle.errors.specs.declared.Refusal.{Refusal}
use Rattle.stages.specs.token_tree.Rows.{Rows}
use Rattle.stages.specs.component.Start.{AfterIs, AfterIn}
use Rattle.stages.specs.component.Read.{WalkFits, TurnIs, TurnsAre}
use Rattle.stages.specs.declared.token_tree.types.Tables.{Tables}
use Rattle.stages.specs.declared.component.types.Component.{Component}
use Rattle.stages.specs.declared.component.walk.Walk.{Walk}
use Rattle.stages.proofs.Lists.{none_in}
use Rattle.stages.proofs.token_tree.Roots.{rows_cons, rows_moved}
use Rattle.stages.proofs.component.walk.Standing.{fits_next}
use Rattle.stages.proofs.component.walk.Rounds.{TurnsFrom, turns_are, turns_cons, turns_refused, turns_none}

module _ (image : List ℕ) (t : Tables) (after i : ℕ) where
  -- the nodes that are left stand at the walk's place
  pub record Left (w : Walk) (s : ℕ) (rest ms : List Node) : Type 0 where
    pub rows : Rows image t w.k.0 w.r.0 s w.l (rest ++ ms)
    pub after_in : AfterIn image t.tree after i w.r.0 rest

  -- the first of them
  pub record Next (w : Walk) (s : ℕ) (rest ms : List Node) : Type 0 where
    pub node : Node
    pub others : List Node
    pub parts : rest ≡ node ∷ others
    pub rows : Rows image t w.k.0 w.r.0 s w.l (node ∷ (others ++ ms))
    pub after_is : AfterIs image t.tree after w.r.0 (eqb i 0 && is_empty others) node
    pub after_in : AfterIn image t.tree after i (w.r.0 + length (recs_of node)) others

  pub next_of : (w : Walk) (s : ℕ) (rest ms : List Node) → Left w s rest ms → 1 ≤ length rest → Next w s rest ms
  unfolding AfterIn
  next_of w s [] ms h l = absurd (omega (arith, l))
  next_of w s (n ∷ ns) ms h l = record { node = n; others = ns; parts = refl; rows = h.rows; after_is = h.after_in.0; after_in = h.after_in.1 }

  pub left_next : (w m : Walk) (s : ℕ) (rest ms : List Node) (x : Next w s rest ms) (j : ℕ) (scanned : Bool) (kept kept₁ : List Component)
      → TurnIs image t i j scanned s x.node w (Ok m) kept kept₁ → Left m (s + length (text_of (recs_of x.node))) x.others ms
  left_next w m s rest ms x j scanned kept kept₁ h =
      let g = rows_cons image t w.k.0 w.r.0 s w.l x.node (x.others ++ ms) x.rows in
      let (k, r, l) = h.turned m refl in
      record {
        rows = rows_moved image t (suc w.k.0) m.k.0 _ m.r.0 _ _ _ m.l (x.others ++ ms) (omega (arith, k)) (sym r) refl (sym l) g.1;
        after_in = subst (λ y. AfterIn image t.tree after i y x.others) (sym r) x.after_in;
      }

  -- ---- what is asked at each turn

  pub record Stands (n j room : ℕ) (w : Walk) : Type 0 where
    pub s : ℕ
    pub rest : List Node
    pub ms : List Node
    pub count : j + length rest ≡ n
    pub left : Left w s rest ms
    pub fits : WalkFits image t w (length (rest ++ ms)) room

  pub next_standing : (n j room : ℕ) (w : Walk) (v : Stands n j room w) → j < n → Next w v.s v.rest v.ms
  next_standing n j room w v l = next_of w v.s v.rest v.ms v.left (let c = v.count in omega (arith, c, l))

  pub fits_here : (n j room : ℕ) (w : Walk) (v : Stands n j room w) (x : Next w v.s v.rest v.ms)
      → WalkFits image t w (length (x.node ∷ (x.others ++ v.ms))) room
  fits_here n j room w v x = subst (λ l. WalkFits image t w (length (l ++ v.ms)) room) x.parts v.fits

  pub stands_next : (n j room : ℕ) (w m : Walk) (v : Stands n j room w) (x : Next w v.s v.rest v.ms) (scanned : Bool) (kept kept₁ : List Component)
      → TurnIs image t i j scanned v.s x.node w (Ok m) kept kept₁ → Stands n (j + 1) room m
  stands_next n j room w m v x scanned kept kept₁ h =
      let (k, r, l) = h.turned m refl in
      let c = v.count in
      let e : length v.rest ≡ suc (length x.others) = ap {A = List Node} length x.parts in
      record {
        s = v.s + length (text_of (recs_of x.node));
        rest = x.others;
        ms = v.ms;
        count = omega (arith, c, e);
        left = left_next w m v.s v.rest v.ms x j scanned kept kept₁ h;
        fits = fits_next image t w m v.s room x.node (x.others ++ v.ms) x.rows (fits_here n j room w v x) k l;
      }

  -- ---- what is said of all

  module _ (s₀ : ℕ) (ns ms : List Node) (w₀ : Walk) (kept₀ : List Component) where
    pub record Going (j : ℕ) (w : Walk) (kept : List Component) : Type 0 where
      pub s : ℕ
      pub rest : List Node
      pub count : j + length rest ≡ length ns
      pub left : Left w s rest ms
      pub goes : (q : Std.Result Walk Refusal) (kept' : List Component) → TurnsFrom image t i j s rest w q kept kept' → TurnsAre image t i s₀ ns w₀ q kept₀ kept'

    pub going_start : Left w₀ s₀ ns ms → Going 0 w₀ kept₀
    going_start h = record { s = s₀; rest = ns; count = omega arith; left = h; goes = λ q kept'. turns_are image t i s₀ ns w₀ q kept₀ kept' }

    pub going_end : (j : ℕ) (w : Walk) (kept : List Component) → Going j w kept → length ns ≤ j → TurnsAre image t i s₀ ns w₀ (Ok w) kept₀ kept
    going_end j w kept g l =
        let c = g.count in
        g.goes (Ok w) kept (subst (λ x. TurnsFrom image t i j g.s x w (Ok w) kept kept) (sym (none_in g.rest (omega (arith, c, l))))
        (turns_none image t i j g.s w kept))

    -- after a turn
    module _ (j : ℕ) (w : Walk) (o : Std.Result Walk Refusal) (kept kept₁ : List Component) (g : Going j w kept) (l : j < length ns)
        (turned : (s : ℕ) (n : Node) (ns : List Node) (scanned : Bool) → Rows image t w.k.0 w.r.0 s w.l (n ∷ ns)
        → AfterIs image t.tree after w.r.0 scanned n → TurnIs image t i j scanned s n w o kept kept₁) where
      first : Next w g.s g.rest ms
      first = next_of w g.s g.rest ms g.left (let c = g.count in omega (arith, c, l))

      told : (x : Next w g.s g.rest ms) → TurnIs image t i j (eqb i 0 && is_empty x.others) g.s x.node w o kept kept₁
      told x = turned g.s x.node (x.others ++ ms) (eqb i 0 && is_empty x.others) x.rows x.after_is

      pub going_refused : (x : Refusal) → o ≡ Err x → TurnsAre image t i s₀ ns w₀ o kept₀ kept₁
      going_refused x e =
          g.goes o kept₁ (subst (λ y. TurnsFrom image t i j g.s y w o kept kept₁) (sym first.parts)
          (turns_refused image t i j g.s first.node first.others w o kept kept₁ (told first) x e))

      pub going_next : (m : Walk) → o ≡ Ok m → w.k.0 < length kept → Going (j + 1) m kept₁
      going_next m e room =
          let c = g.count in
          let z : length g.rest ≡ suc (length first.others) = ap {A = List Node} length first.parts in
          record {
            s = g.s + length (text_of (recs_of first.node));
            rest = first.others;
            count = omega (arith, c, z);
            left = left_next w m g.s g.rest ms first j (eqb i 0 && is_empty first.others) kept kept₁
                (subst (λ y. TurnIs image t i j (eqb i 0 && is_empty first.others) g.s first.node w y kept kept₁) e (told first));
            goes = λ q kept' h.
                g.goes q kept' (subst (λ y. TurnsFrom image t i j g.s y w q kept kept') (sym first.parts)
                (turns_cons image t i j g.s first.node first.others w o kept kept₁ (told first) m q kept' e room
                (subst (λ y. TurnsFrom image t i y (g.s + length (text_of (recs_of first.node))) first.others m q kept₁ kept') (add-one j) h)));
          }
