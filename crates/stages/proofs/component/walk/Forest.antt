-- The loop over the concatenations: one more in front, none, one that stage 1 refuses; and the whole tree.
use Rattle.std.specs.Prelude as Std
use Rattle.std.specs.Prelude.{Ok, Err, ◌+◌, ◌∷◌, ◌++◌}
use Rattle.std.proofs.Common.{◌≡◌, sym, refl, ap, ◌∙◌, subst, add-zero, arith, length-append, take_at, drop_at}
use Rattle.definition.specs.Prelude.{ℕ, suc, List, [], map, length, take}
use Rattle.definition.specs.Basics as Basics
use Rattle.definition.specs.Basics.{Result, ok, refused, refusal_of, ◌>>=◌, joined}
use Rattle.definition.specs.Image.{Placed, Unparsed, parts, tree_of}
use Rattle.definition.specs.Tree.{Node, recs_of, all_recs, text_of}
use Rattle.definition.specs.Component as Def
use Rattle.definition.specs.Component.{each_in, each, stage1_component, simplify}
use Rattle.prepared.specs.Groups.{text_of_append}
use Rattle.prepared.specs.Statement.{placed_from, placed_tree}
use Rattle.errors.specs.Refused.{refused_as, result_of}
use Rattle.errors.specs.declared.Refusal.{Refusal}
use Rattle.stages.specs.token_tree.Table.{tables_in}
use Rattle.stages.specs.component.Kept.{KeptIn, KeptFrom}
use Rattle.stages.specs.component.Read.{verdict, first_in, first_stage, second_stage, two_stages, walk_from, TurnsAre, StagesAre}
use Rattle.stages.specs.declared.token_tree.types.Tables.{Tables}
use Rattle.stages.specs.declared.component.types.Component.{Component}
use Rattle.stages.specs.declared.component.walk.Walk.{Walk}
use Rattle.stages.proofs.Cases.{never}
use Rattle.stages.proofs.component.Keeping.{kept_none, kept_both, kept_alike}
use Rattle.stages.proofs.component.walk.Each.{bind_on, same_verdict, verdict_ok, each_length, tree_verdict, TreeParts, tree_parts, tree_none}
use Rattle.stages.proofs.component.walk.Rounds.{like_before}

-- ---- the tree's lists

unfoldable pub placed_lists : ℕ → List (List Node) → List (List (Placed Unparsed))
placed_lists s [] = []
placed_lists s (c ∷ t) = placed_from s c ∷ placed_lists (s + length (text_of (all_recs c))) t

placed_length : (s : ℕ) (ns : List Node) → length (placed_from s ns) ≡ length ns
unfolding placed_from
placed_length s [] = refl
placed_length s (n ∷ ns) = ap suc (placed_length (s + length (text_of (recs_of n))) ns)

placed_append : (s : ℕ) (ns ms : List Node) → placed_from s (ns ++ ms) ≡ placed_from s ns ++ placed_from (s + length (text_of (all_recs ns))) ms
unfolding placed_from joined text_of
placed_append s [] ms = ap (λ x. placed_from x ms) (sym (add-zero s))
placed_append s (n ∷ ns) ms =
    let h = placed_append (s + length (text_of (recs_of n))) ns ms in
    let m = ap {A = List ℕ} length (text_of_append (recs_of n) (all_recs ns)) ∙ length-append (text_of (recs_of n)) (text_of (all_recs ns)) in
    let e : s + length (text_of (recs_of n)) + length (text_of (all_recs ns)) ≡ s + length (text_of (recs_of n ++ all_recs ns)) = omega (arith, m) in
    ap (λ l. record { base = s; value = record { recs = recs_of n; bits = n.bits } } ∷ l)
    (h ∙ ap (λ x. placed_from (s + length (text_of (recs_of n))) ns ++ placed_from x ms) e)

lists_are : (s : ℕ) (t : List (List Node)) → parts (map length t) (placed_from s (joined t)) ≡ placed_lists s t
unfolding parts joined placed_lists
lists_are s [] = refl
lists_are s (c ∷ t) =
    let s' = s + length (text_of (all_recs c)) in
    rw (
      placed_append s c (joined t),
      take_at (placed_from s c) (placed_from s' (joined t)) (length c) (placed_length s c),
      drop_at (placed_from s c) (placed_from s' (joined t)) (length c) (placed_length s c),
      lists_are s' t,
    ) refl

pub tree_is : (t : List (List Node)) → placed_tree t ≡ placed_lists 0 t
unfolding placed_tree
tree_is t = lists_are 0 t

-- ---- the concatenations from the i-th on

pub record StagesFrom (image : List ℕ) (t : Tables) (i s : ℕ) (cs : List (List Node)) (w : Walk) (q : Std.Result Unit Refusal) (kept kept' : List Component) : Type 0 where
  pub long : length kept' ≡ length kept
  pub before : take w.k.0 kept' ≡ take w.k.0 kept
  pub answer : result_of q ≡ (each first_stage i (placed_lists s cs) >>= λ bss. result_of w.second >>= λ _. verdict (each second_stage i bss))
  pub are : (bss dss : List (List (Placed Def.Component))) → each first_stage i (placed_lists s cs) ≡ ok bss → each second_stage i bss ≡ ok dss
      → KeptIn image t.tree kept' w.k.0 (joined dss)

pub stages_are : (image : List ℕ) (t : Tables) (cs : List (List Node)) (q : Std.Result Unit Refusal) (kept kept' : List Component) → t ≡ tables_in image
    → tree_of image ≡ placed_tree cs → StagesFrom image t 0 0 cs walk_from q kept kept' → StagesAre image q kept'
stages_are image t cs q kept kept' here e h =
    let f : tree_of image ≡ placed_lists 0 cs = e ∙ tree_is cs in
    record {
      answer = h.answer ∙ go (each first_stage 0 (placed_lists 0 cs)) ∙ ap (λ l. verdict (two_stages l)) (sym f);
      are = λ dss g. both (each first_stage 0 (placed_lists 0 cs)) refl dss (ap two_stages (sym f) ∙ g);
    }
  where
    go : (m : Result (List (List (Placed Def.Component))))
        → (m >>= λ bss. ◌>>=◌ {A = Unit} (ok tt) (λ _. verdict (each second_stage 0 bss))) ≡ verdict (m >>= each second_stage 0)
    go (ok a) = refl
    go (refused q) = refl

    both : (m : Result (List (List (Placed Def.Component)))) → each first_stage 0 (placed_lists 0 cs) ≡ m → (dss : List (List (Placed Def.Component)))
        → (each first_stage 0 (placed_lists 0 cs) >>= each second_stage 0) ≡ ok dss → KeptFrom image kept' 0 (joined dss)
    both (ok bss) p dss g =
        subst (λ (x : Tables). KeptIn image x.tree kept' 0 (joined dss)) here (h.are bss dss p (ap (λ m. m >>= each second_stage 0) (sym p) ∙ g))
    both (refused q) p dss g = never (ap (λ m. m >>= each second_stage 0) (sym p) ∙ g)

-- none are left
pub stages_none : (image : List ℕ) (t : Tables) (i s : ℕ) (w : Walk) (kept : List Component) → StagesFrom image t i s [] w w.second kept kept
unfolding each placed_lists joined
stages_none image t i s w kept =
    record {
      long = refl;
      before = refl;
      answer = same_verdict (result_of w.second);
      are = λ bss dss f g.
          subst (λ l. KeptIn image t.tree kept w.k.0 (joined l))
          (sym (tree_none (λ last. simplify) i dss (ap (each second_stage i) (sym (tree_none stage1_component i bss f)) ∙ g))) (kept_none image t.tree kept w.k.0);
    }

module _ (image : List ℕ) (t : Tables) (i s : ℕ) (c : List Node) (cs : List (List Node)) (w : Walk) (o : Std.Result Walk Refusal) (kept kept₁ : List Component)
    (h : TurnsAre image t i s c w o kept kept₁) where
  abbrev behind : ℕ
  behind = s + length (text_of (all_recs c))

  lists_cons : placed_lists s (c ∷ cs) ≡ placed_from s c ∷ placed_lists behind cs
  unfolding placed_lists
  lists_cons = refl

  -- stage 1 of it, then of the others
  each_cons : each first_stage i (placed_lists s (c ∷ cs))
      ≡ (each_in first_stage i 0 (placed_from s c) >>= λ bs. each first_stage (suc i) (placed_lists behind cs) >>= λ bss. ok (bs ∷ bss))
  unfolding placed_lists each
  each_cons = refl

  parts_of : (bss : List (List (Placed Def.Component))) → each first_stage i (placed_lists s (c ∷ cs)) ≡ ok bss
      → TreeParts stage1_component i (placed_from s c) (placed_lists behind cs) bss
  parts_of bss e = tree_parts stage1_component i (placed_from s c) (placed_lists behind cs) bss (ap (each first_stage i) (sym lists_cons) ∙ e)

  -- stage 1 refuses one of its components
  pub stages_refused : (x : Refusal) → o ≡ Err x → StagesFrom image t i s (c ∷ cs) w (Err x) kept kept₁
  stages_refused x e =
      let first : refused_as x ≡ verdict (each_in first_stage i 0 (placed_from s c)) = ap first_in (sym e) ∙ h.first in
      record {
        long = h.long;
        before = h.before;
        answer = stays (refusal_of x.number x.concatenation x.component) (each_in first_stage i 0 (placed_from s c)) first
            (λ bs. each first_stage (suc i) (placed_lists behind cs) >>= λ bss. ok (bs ∷ bss))
            (λ bss. result_of w.second >>= λ _. verdict (each second_stage i bss))
            ∙ ap (λ x. x >>= λ bss. result_of w.second >>= λ _. verdict (each second_stage i bss)) (sym each_cons);
        are = λ bss dss f g. never (first ∙ ap verdict (parts_of bss f).reads);
      }
    where
      stays : {A B : Type 0} (q : Basics.Refusal) (a : Result A) → refused q ≡ verdict a → (f : A → Result B) (g : B → Result Unit)
          → refused q ≡ ((a >>= f) >>= g)
      stays q (ok a) e f g = never e
      stays q (refused w) e f g = e

  joined_one : (ds : List (Placed Def.Component)) (rest dss : List (List (Placed Def.Component))) → dss ≡ ds ∷ rest → joined dss ≡ ds ++ joined rest
  unfolding joined
  joined_one ds rest dss e = ap joined e

  -- one more in front of others
  pub stages_cons : (m : Walk) (q : Std.Result Unit Refusal) (kept' : List Component) → o ≡ Ok m
      → StagesFrom image t (suc i) behind cs m q kept₁ kept' → StagesFrom image t i s (c ∷ cs) w q kept kept'
  stages_cons m q kept' passed r = go (verdict_ok (each_in first_stage i 0 (placed_from s c)) (sym h.first ∙ ap first_in passed))
    where
      k : m.k.0 ≡ w.k.0 + length c
      k = (h.turned m passed).0

      all : (bs : List (Placed Def.Component)) → result_of m.second ≡ (result_of w.second >>= λ _. verdict (each_in second_stage i 0 bs))
          → (x : Result (List (List (Placed Def.Component))))
          → (x >>= λ bss. result_of m.second >>= λ _. verdict (each second_stage (suc i) bss))
          ≡ ((x >>= λ bss. ok (bs ∷ bss)) >>= λ bss. result_of w.second >>= λ _. verdict (each second_stage i bss))
      all bs e (refused q) = refl
      all bs e (ok bss) =
          ap (λ x. x >>= λ _. verdict (each second_stage (suc i) bss)) e
          ∙ bind_on (result_of w.second) (verdict (each_in second_stage i 0 bs)) (verdict (each second_stage (suc i) bss))
          ∙ ap (λ x. result_of w.second >>= λ _. x) (sym (tree_verdict (λ last. simplify) i bs bss))

      are : (bss dss : List (List (Placed Def.Component))) → each first_stage i (placed_lists s (c ∷ cs)) ≡ ok bss → each second_stage i bss ≡ ok dss
          → KeptIn image t.tree kept' w.k.0 (joined dss)
      are bss dss e f =
          let p = parts_of bss e in
          let u = tree_parts (λ last. simplify) i p.one p.rest dss (ap (each second_stage i) (sym p.all) ∙ f) in
          let n : length u.one ≡ length c =
          each_length (λ last. simplify) i 0 p.one u.one u.reads ∙ each_length stage1_component i 0 (placed_from s c) p.one p.reads ∙ placed_length s c in
          let z : m.k.0 ≡ w.k.0 + length u.one = k ∙ ap (λ x. w.k.0 + x) (sym n) in
          subst (KeptIn image t.tree kept' w.k.0) (sym (joined_one u.one u.rest dss u.all))
          (kept_both image t.tree kept' w.k.0 u.one (joined u.rest)
          (kept_alike image t.tree kept₁ kept' w.k.0 u.one (h.are p.one u.one p.reads u.reads) (subst (λ x. take x kept' ≡ take x kept₁) z r.before))
          (subst (λ x. KeptIn image t.tree kept' x (joined u.rest)) z (r.are p.rest u.rest p.others u.others)))

      go : (bs : List (Placed Def.Component)) × (each_in first_stage i 0 (placed_from s c) ≡ ok bs) → StagesFrom image t i s (c ∷ cs) w q kept kept'
      go (bs, e) =
          record {
            long = r.long ∙ h.long;
            before = like_before w.k.0 m.k.0 kept' kept₁ kept (let z = k in omega (arith, z)) r.before h.before;
            answer = r.answer ∙ all bs (h.second m bs passed e) (each first_stage (suc i) (placed_lists behind cs))
                ∙ ap (λ x. (x >>= λ bs. each first_stage (suc i) (placed_lists behind cs) >>= λ bss. ok (bs ∷ bss)) >>= λ bss. result_of w.second >>= λ _. verdict (each second_stage i bss)) (sym e)
                ∙ ap (λ x. x >>= λ bss. result_of w.second >>= λ _. verdict (each second_stage i bss)) (sym each_cons);
            are = are;
          }
