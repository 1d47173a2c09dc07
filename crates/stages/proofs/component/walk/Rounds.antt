-- The components of a concatenation one after the other: one more in front, none, and one that stage 1 refuses.
use Rattle.std.specs.Prelude as Std
use Rattle.std.specs.Prelude.{Ok, Err, ◌+◌, ◌&&◌, ◌∷◌}
use Rattle.std.proofs.Common.{◌≡◌, ◌<◌, ◌≤◌, sym, refl, ap, ◌∙◌, subst, add-zero, arith, length-append, take-take}
use Rattle.definition.specs.Prelude.{ℕ, suc, List, [], length, take, eqb}
use Rattle.definition.specs.Basics.{ok, ◌>>=◌, with_places, is_empty, joined}
use Rattle.definition.specs.Image.{Placed, Unparsed}
use Rattle.definition.specs.Tree.{Node, recs_of, all_recs, literals_of, text_of, packed}
use Rattle.definition.specs.Component as Def
use Rattle.definition.specs.Component.{each_in, stage1_component, simplify}
use Rattle.prepared.specs.Bits.{length_packed}
use Rattle.prepared.specs.Statement.{placed_from}
use Rattle.errors.specs.Refused.{result_of}
use Rattle.errors.specs.declared.Refusal.{Refusal}
use Rattle.stages.specs.token_tree.Rows.{node_of}
use Rattle.stages.specs.component.Kept.{KeptIn}
use Rattle.stages.specs.component.Read.{verdict, first_in, first_stage, second_stage, TurnIs, TurnsAre}
use Rattle.stages.specs.declared.token_tree.types.Tables.{Tables}
use Rattle.stages.specs.declared.component.types.Component.{Component}
use Rattle.stages.specs.declared.component.walk.Walk.{Walk}
use Rattle.stages.proofs.Cases.{never}
use Rattle.stages.proofs.component.Keeping.{kept_none, kept_both, kept_one}
use Rattle.stages.proofs.component.walk.Each.{same_ok, err_ok, bind_on, same_verdict, Parts, each_verdict, each_parts, each_none}

-- those from the j-th on
pub record TurnsFrom (image : List ℕ) (t : Tables) (i j s : ℕ) (ns : List Node) (w : Walk) (q : Std.Result Walk Refusal) (kept kept' : List Component) : Type 0 where
  pub long : length kept' ≡ length kept
  pub before : take w.k.0 kept' ≡ take w.k.0 kept
  pub first : first_in q ≡ verdict (each_in first_stage i j (placed_from s ns))
  pub turned : (r : Walk) → q ≡ Ok r
      → (r.k.0 ≡ w.k.0 + length ns) × (r.r.0 ≡ w.r.0 + length (all_recs ns)) × (r.l ≡ w.l + length (literals_of ns))
  pub second : (r : Walk) (bs : List (Placed Def.Component)) → q ≡ Ok r → each_in first_stage i j (placed_from s ns) ≡ ok bs
      → result_of r.second ≡ (result_of w.second >>= λ _. verdict (each_in second_stage i j bs))
  pub are : (bs ds : List (Placed Def.Component)) → each_in first_stage i j (placed_from s ns) ≡ ok bs → each_in second_stage i j bs ≡ ok ds
      → KeptIn image t.tree kept' w.k.0 ds

pub turns_are : (image : List ℕ) (t : Tables) (i s : ℕ) (ns : List Node) (w : Walk) (q : Std.Result Walk Refusal) (kept kept' : List Component)
    → TurnsFrom image t i 0 s ns w q kept kept' → TurnsAre image t i s ns w q kept kept'
turns_are image t i s ns w q kept kept' h =
    record { long = h.long; before = h.before; first = h.first; turned = h.turned; second = h.second; are = h.are }

joined_recs : (n : Node) (ns : List Node) → length (all_recs (n ∷ ns)) ≡ length (recs_of n) + length (all_recs ns)
unfolding joined
joined_recs n ns = length-append (recs_of n) (all_recs ns)

joined_literals : (n : Node) (ns : List Node) → length (literals_of (n ∷ ns)) ≡ length (packed n.bits) + length (literals_of ns)
unfolding joined
joined_literals n ns = length-append (packed n.bits) (literals_of ns)

same_empty : (s : ℕ) (ns : List Node) → is_empty (placed_from s ns) ≡ is_empty ns
unfolding placed_from
same_empty s [] = refl
same_empty s (n ∷ ns) = refl

-- what stands before a, of a list that is like another up to a later place
pub like_before : {A : Type 0} (a b : ℕ) (x y z : List A) → a ≤ b → take b x ≡ take b y → take a y ≡ take a z → take a x ≡ take a z
like_before a b x y z l e f = sym (take-take a b x l) ∙ ap (take a) e ∙ take-take a b y l ∙ f

module _ (image : List ℕ) (t : Tables) (i j s : ℕ) (n : Node) (ns : List Node) (w : Walk) (o : Std.Result Walk Refusal) (kept kept₁ : List Component)
    (h : TurnIs image t i j (eqb i 0 && is_empty ns) s n w o kept kept₁) where
  abbrev behind : ℕ
  behind = s + length (text_of (recs_of n))

  abbrev here : Placed Unparsed
  here = record { base = s; value = node_of n }

  placed_cons : placed_from s (n ∷ ns) ≡ here ∷ placed_from behind ns
  unfolding placed_from
  placed_cons = refl

  scanned_is : (eqb i 0 && is_empty (placed_from behind ns)) ≡ (eqb i 0 && is_empty ns)
  scanned_is = ap (λ b. eqb i 0 && b) (same_empty behind ns)

  -- stage 1's verdict, by the turn's
  first_is : verdict (each_in first_stage i j (placed_from s (n ∷ ns))) ≡ (first_in o >>= λ _. verdict (each_in first_stage i (suc j) (placed_from behind ns)))
  first_is =
      ap (λ l. verdict (each_in first_stage i j l)) placed_cons ∙ each_verdict stage1_component i j here (placed_from behind ns)
      ∙ ap (λ b. with_places i j (verdict (stage1_component b (node_of n))) >>= λ _. verdict (each_in first_stage i (suc j) (placed_from behind ns))) scanned_is
      ∙ ap (λ x. x >>= λ _. verdict (each_in first_stage i (suc j) (placed_from behind ns))) (sym h.first)

  parts_of : (bs : List (Placed Def.Component)) → each_in first_stage i j (placed_from s (n ∷ ns)) ≡ ok bs → Parts stage1_component i j here (placed_from behind ns) bs
  parts_of bs e = each_parts stage1_component i j here (placed_from behind ns) bs (ap (each_in first_stage i j) (sym placed_cons) ∙ e)

  reads_of : (bs : List (Placed Def.Component)) (p : Parts stage1_component i j here (placed_from behind ns) bs)
      → stage1_component (eqb i 0 && is_empty ns) (node_of n) ≡ ok p.one
  reads_of bs p = ap (λ b. stage1_component b (node_of n)) (sym scanned_is) ∙ p.reads

  -- stage 1 refuses it
  pub turns_refused : (x : Refusal) → o ≡ Err x → TurnsFrom image t i j s (n ∷ ns) w o kept kept₁
  turns_refused x e =
      let stays : first_in o ≡ (first_in o >>= λ _. verdict (each_in first_stage i (suc j) (placed_from behind ns))) = rw e refl in
      record {
        long = h.long;
        before = h.before;
        first = stays ∙ sym first_is;
        turned = λ r f. err_ok (sym e ∙ f);
        second = λ r bs f. err_ok (sym e ∙ f);
        are = λ bs ds f g. never (ap first_in (sym e) ∙ stays ∙ sym first_is ∙ ap verdict f);
      }

  -- one more in front of others
  pub turns_cons : (m : Walk) (q : Std.Result Walk Refusal) (kept' : List Component) → o ≡ Ok m → w.k.0 < length kept
      → TurnsFrom image t i (suc j) behind ns m q kept₁ kept' → TurnsFrom image t i j s (n ∷ ns) w q kept kept'
  turns_cons m q kept' passed room g =
      let k = (h.turned m passed).0 in
      record {
        long = g.long ∙ h.long;
        before = like_before w.k.0 m.k.0 kept' kept₁ kept (omega (arith, k)) g.before h.before;
        first = g.first ∙ sym (first_is ∙ ap (λ x. first_in x >>= λ _. verdict (each_in first_stage i (suc j) (placed_from behind ns))) passed);
        turned = λ r e. turned r (g.turned r e);
        second = second;
        are = are;
      }
    where
      turned : (r : Walk) → (r.k.0 ≡ m.k.0 + length ns) × (r.r.0 ≡ m.r.0 + length (all_recs ns)) × (r.l ≡ m.l + length (literals_of ns))
          → (r.k.0 ≡ w.k.0 + length (n ∷ ns)) × (r.r.0 ≡ w.r.0 + length (all_recs (n ∷ ns))) × (r.l ≡ w.l + length (literals_of (n ∷ ns)))
      turned r (a, b, c) =
          let (k, q, l) = h.turned m passed in
          let x = joined_recs n ns in
          let y = joined_literals n ns in
          let z = length_packed n.bits in
          (omega (arith, a, k), omega (arith, b, q, x), omega (arith, c, l, y, z))

      second : (r : Walk) (bs : List (Placed Def.Component)) → q ≡ Ok r → each_in first_stage i j (placed_from s (n ∷ ns)) ≡ ok bs
          → result_of r.second ≡ (result_of w.second >>= λ _. verdict (each_in second_stage i j bs))
      second r bs f e =
          let p = parts_of bs e in
          let d : Placed Def.Component = record { base = s; value = p.one } in
          g.second r p.rest f p.others
          ∙ ap (λ x. x >>= λ _. verdict (each_in second_stage i (suc j) p.rest)) (h.second m p.one passed (reads_of bs p))
          ∙ bind_on (result_of w.second) (with_places i j (verdict (simplify p.one))) (verdict (each_in second_stage i (suc j) p.rest))
          ∙ ap (λ x. result_of w.second >>= λ _. x) (sym (each_verdict (λ last. simplify) i j d p.rest))
          ∙ ap (λ l. result_of w.second >>= λ _. verdict (each_in second_stage i j l)) (sym p.all)

      are : (bs ds : List (Placed Def.Component)) → each_in first_stage i j (placed_from s (n ∷ ns)) ≡ ok bs → each_in second_stage i j bs ≡ ok ds
          → KeptIn image t.tree kept' w.k.0 ds
      are bs ds e f =
          let p = parts_of bs e in
          let d : Placed Def.Component = record { base = s; value = p.one } in
          let q = each_parts (λ last. simplify) i j d p.rest ds (ap (each_in second_stage i j) (sym p.all) ∙ f) in
          let x : Placed Def.Component = record { base = s; value = q.one } in
          let (c, is, e₁) = h.one q.one (ap (λ a. a >>= simplify) (reads_of bs p) ∙ q.reads) in
          let k : m.k.0 ≡ w.k.0 + 1 = (h.turned m passed).0 in
          subst (KeptIn image t.tree kept' w.k.0) (sym q.all)
          (kept_both image t.tree kept' w.k.0 (x ∷ []) q.rest
          (kept_one image t.tree kept kept' w.k.0 c x is room (subst (λ z. take z kept' ≡ take z kept₁) k g.before ∙ ap (take (w.k.0 + 1)) e₁))
          (subst (λ z. KeptIn image t.tree kept' z q.rest) k (g.are p.rest q.rest p.others q.others)))

-- none are left
pub turns_none : (image : List ℕ) (t : Tables) (i j s : ℕ) (w : Walk) (kept : List Component) → TurnsFrom image t i j s [] w (Ok w) kept kept
unfolding each_in placed_from joined
turns_none image t i j s w kept =
    record {
      long = refl;
      before = refl;
      first = refl;
      turned = λ r e. rw (sym (same_ok w r e)) (sym (add-zero w.k.0), sym (add-zero w.r.0), sym (add-zero w.l));
      second = λ r bs e f. ap (λ (x : Walk). result_of x.second) (sym (same_ok w r e)) ∙ same_verdict (result_of w.second)
          ∙ ap (λ l. result_of w.second >>= λ _. verdict (each_in second_stage i j l)) (sym (each_none stage1_component i j bs f));
      are = λ bs ds f g.
          subst (KeptIn image t.tree kept w.k.0)
          (sym (each_none (λ last. simplify) i j ds (ap (each_in second_stage i j) (sym (each_none stage1_component i j bs f)) ∙ g))) (kept_none image t.tree kept w.k.0);
    }
