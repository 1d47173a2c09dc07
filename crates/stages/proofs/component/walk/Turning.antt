-- One component of the loop: what is said of it by what is read of it.
use Rattle.std.specs.Prelude as Std
use Rattle.std.specs.Prelude.{Ok, Err, set, ◌+◌, ◌*◌, ◌∷◌}
use Rattle.std.specs.Int.{div_ceil}
use Rattle.std.specs.Result.{result_and}
use Rattle.std.proofs.Common.{◌≡◌, sym, refl, ap, ◌∙◌, subst, arith, length-set}
use Rattle.std.proofs.lemmas.List.{take-set}
use Rattle.definition.specs.Prelude.{ℕ, Bool, List, length}
use Rattle.definition.specs.Basics.{Result, ok, refused, refusal_of, ◌>>=◌, with_places}
use Rattle.definition.specs.Image.{u32_at, bits_at, bytes_for}
use Rattle.definition.specs.Tree.{Node, recs_of}
use Rattle.definition.specs.Component as Def
use Rattle.definition.specs.Component.{stage1_component, simplify}
use Rattle.errors.specs.Reasons.{number, refusal}
use Rattle.errors.specs.Refused.{refused_as, result_of}
use Rattle.errors.specs.declared.Refusal.{Refusal}
use Rattle.errors.specs.declared.reasons.Reason.{Reason}
use Rattle.prepared.specs.Bits.{bits_at_holds}
use Rattle.stages.specs.token_tree.Rows.{node_of, Rooted, Rows}
use Rattle.stages.specs.component.Values.{component_of}
use Rattle.stages.specs.component.Parse.{parse_items, items_read}
use Rattle.stages.specs.component.Read.{verdict, ReadIs, TurnIs}
use Rattle.stages.specs.declared.token_tree.types.Tables.{Tables}
use Rattle.stages.specs.declared.component.types.Component.{Component}
use Rattle.stages.specs.declared.component.read.Unread.{Unread}
use Rattle.stages.specs.declared.component.read.Unread.TheVariants as U
use Rattle.stages.specs.declared.component.walk.Walk.{Walk}
use Rattle.stages.proofs.Cases.{never}
use Rattle.stages.proofs.token_tree.Roots.{rows_cons}
use Rattle.stages.proofs.component.parse.Splits.{stage_items}
use Rattle.stages.proofs.component.walk.Each.{ok_is, same_ok, err_ok}

-- a literal's bytes
pub rounded : (w : ℕ) → div_ceil w 8 ≡ bytes_for w
rounded w = omega arith

-- the first refusal of stage 2
later : (a : Std.Result Unit Refusal) (q : Refusal) → result_of {A = Unit} (result_and a (Err q)) ≡ (result_of a >>= λ _. refused_as q)
later (Ok tt) q = refl
later (Err x) q = refl

module _ (image : List ℕ) (t : Tables) (i j : ℕ) (scanned : Bool) (s : ℕ) (n : Node) (w : Walk) (kept : List Component) where
  abbrev first_read : Result Def.Component
  first_read = stage1_component scanned (node_of n)

  -- the walk behind it, with the first refusal of stage 2
  pub record Behind (r : Walk) : Type 0 where
    pub k : r.k.0 ≡ w.k.0 + 1
    pub r_is : r.r.0 ≡ w.r.0 + length (recs_of n)
    pub l : r.l ≡ w.l + bytes_for (length n.bits)

  -- stage 1 refuses it
  pub turn_first : (x : Reason) (q : Refusal) → ReadIs image t.tree s (Err (U.First x)) first_read → refused_as {A = Unit} q ≡ refused (refusal_of (number x) i j)
      → TurnIs image t i j scanned s n w (Err q) kept kept
  turn_first x q h e =
      record {
        long = refl;
        before = refl;
        first = e ∙ ap (λ (y : Result Def.Component). with_places i j (verdict y)) (sym h);
        turned = λ r f. err_ok f;
        second = λ r d f g. err_ok f;
        one = λ d f. never (ap (λ y. y >>= simplify) (sym h) ∙ f);
        refused_one = λ x f. refl;
      }

  -- stage 2 does
  pub turn_second : (x : Reason) (q : Refusal) (r : Walk) → ReadIs image t.tree s (Err (U.Second x)) first_read → Behind r
      → r.second ≡ result_and w.second (Err q) → q ≡ refusal (number x) i j → TurnIs image t i j scanned s n w (Ok r) kept kept
  turn_second x q r (a, e, g) b f₂ eq =
      let h : result_of r.second ≡ (result_of w.second >>= λ _. refused (refusal_of (number x) i j)) =
      ap result_of (f₂ ∙ ap (λ q. result_and w.second (Err q)) eq) ∙ later w.second (refusal (number x) i j) in
      record {
        long = refl;
        before = refl;
        first = ap (λ (y : Result Def.Component). with_places i j (verdict y)) (sym e);
        turned = λ r' f. subst (λ y. (y.k.0 ≡ w.k.0 + 1) × (y.r.0 ≡ w.r.0 + length (recs_of n)) × (y.l ≡ w.l + bytes_for (length n.bits))) (same_ok r r' f) (b.k, b.r_is, b.l);
        second = λ r' d f p. ap (λ (y : Walk). result_of y.second) (sym (same_ok r r' f)) ∙ h
            ∙ ap (λ (y : Result Def.Component). result_of w.second >>= λ _. with_places i j (verdict y)) (sym g ∙ ap simplify (ok_is a d (sym e ∙ p)));
        one = λ d p. never (sym g ∙ ap (λ y. y >>= simplify) (sym e) ∙ p);
        refused_one = λ x f. refl;
      }

  -- neither does
  pub turn_kept : (c : Component) (r : Walk) → ReadIs image t.tree s (Ok c) first_read → Behind r → result_of r.second ≡ result_of w.second
      → TurnIs image t i j scanned s n w (Ok r) kept (set kept w.k.0 c)
  turn_kept c r (e, staged, ended) b h =
      record {
        long = length-set kept w.k.0 c;
        before = take-set kept w.k.0 c;
        first = passed first_read e;
        turned = λ r' f. subst (λ y. (y.k.0 ≡ w.k.0 + 1) × (y.r.0 ≡ w.r.0 + length (recs_of n)) × (y.l ≡ w.l + bytes_for (length n.bits))) (same_ok r r' f) (b.k, b.r_is, b.l);
        second = λ r' d f p. ap (λ (y : Walk). result_of y.second) (sym (same_ok r r' f)) ∙ h ∙ still (result_of w.second)
            ∙ ap (λ (y : Result Def.Component). result_of w.second >>= λ _. with_places i j (verdict y)) (sym e ∙ ap (λ y. y >>= simplify) p);
        one = λ d p. (c, record { value = ok_is (component_of image t.tree s c) d (sym e ∙ p); staged = staged; ended = ended }, refl);
        refused_one = λ x p. never (sym p ∙ e);
      }
    where
      passed : (m : Result Def.Component) → (m >>= simplify) ≡ ok (component_of image t.tree s c) → ok tt ≡ with_places i j (verdict m)
      passed (ok a) e = refl
      passed (refused q) e = never e

      still : (x : Result Unit) → x ≡ (x >>= λ _. ok tt)
      still (ok tt) = refl
      still (refused q) = refl

-- what is read of a node's items is stage 1 of the node
pub staged_read : (image : List ℕ) (t : Tables) (k r s l width : ℕ) (n : Node) (ns : List Node) (scanned : Bool) (q : Std.Result Component Unread) → Rows image t k r s l (n ∷ ns)
    → width ≡ u32_at image (t.components + 8 * k + 4)
    → ReadIs image t.tree s q (parse_items (items_read scanned (node_of n)) (bits_at image (t.literals + l) width))
    → ReadIs image t.tree s q (stage1_component scanned (node_of n))
staged_read image t k r s l width n ns scanned q h e =
    subst (ReadIs image t.tree s q)
    (ap (parse_items (items_read scanned (node_of n))) (ap (bits_at image (t.literals + l)) (e ∙ g.width) ∙ bits_at_holds image (t.literals + l) n.bits g.bits g.literal)
    ∙ sym (stage_items scanned (node_of n)))
  where
    g : Rooted image t k r s l n
    g = (rows_cons image t k r s l n ns h).0
