-- Stage 3 after i concatenations: those that are done, with their heads, and what is left to come.
use Rattle.std.specs.Prelude.{◌+◌, ◌∷◌, ◌++◌, set}
use Rattle.std.proofs.Common.{◌≡◌, ◌<◌, sym, refl, ap, ◌∙◌, subst, append_assoc, append-nil, add-one}
use Rattle.std.proofs.lemmas.List.{take_more_set}
use Rattle.definition.specs.Prelude.{ℕ, suc, List, [], length, take, drop}
use Rattle.definition.specs.Basics.{Result, ok, Refusal, refused, ◌>>=◌}
use Rattle.definition.specs.Component as Def
use Rattle.definition.specs.Image.{Placed}
use Rattle.definition.specs.Concatenation.{Concatenation, check, stage3, merge}
use Rattle.stages.specs.component.Kept.{KeptFrom}
use Rattle.stages.specs.component.Read.{verdict}
use Rattle.stages.specs.concatenation.Check.{concatenation_with}
use Rattle.stages.specs.concatenation.running_check.Running.{running_of}
use Rattle.stages.specs.declared.concatenation.running_check.Running.{Running}
use Rattle.stages.specs.declared.token_tree.types.PVal.{PVal}
use Rattle.stages.specs.concatenation.Heads.{HeadIs, HeadsAre}
use Rattle.stages.specs.declared.component.types.Component.{Component}
use Rattle.stages.specs.declared.concatenation.stage3.Concatenation.{Concatenation as Now}
use Rattle.stages.proofs.concatenation.Kept.{heads_more}
use Rattle.stages.proofs.concatenation.stage3.Parts.{Room}

pub record Done (image : List ℕ) (kept : List Component) (heads : List Now) (i : ℕ) (tree : List (List (Placed Def.Component))) : Type 0 where
  pub done : List Concatenation
  pub heads_are : HeadsAre image kept (take i heads) done
  pub rest : stage3 0 tree ≡ (stage3 i (drop i tree) >>= λ ds. ok (done ++ ds))

regroup : (m : Result (List Concatenation)) (done : List Concatenation) (d : Concatenation)
    → (m >>= (λ ds. ok (d ∷ ds)) >>= (λ ds. ok (done ++ ds))) ≡ (m >>= λ ds. ok ((done ++ d ∷ []) ++ ds))
regroup (ok ds) done d = ap ok (sym (append_assoc done (d ∷ []) ds))
regroup (refused q) done d = refl

module _ (image : List ℕ) (kept : List Component) where
  pub done_none : (heads : List Now) (tree : List (List (Placed Def.Component))) → Done image kept heads 0 tree
  done_none heads tree = record { done = []; heads_are = tt; rest = same (stage3 0 tree) }
    where
      same : (m : Result (List Concatenation)) → m ≡ (m >>= λ ds. ok ([] ++ ds))
      same (ok ds) = refl
      same (refused q) = refl

  -- the head of concatenation i
  pub head_is : (first : PVal) (len m : ℕ) (r : Running) (cs : List (Placed Def.Component)) → m ≡ length (merge cs) → len ≡ length cs
      → Room first.0 len (length kept) → KeptFrom image kept first.0 cs
      → HeadIs image kept (record { first = first; len = len; merged = m; running = r }) (concatenation_with cs (running_of r))
  head_is first len m r cs e n room h =
      record {
        summary = record { align_is = refl; width_is = refl; deterministic_is = refl; nonzero_is = refl };
        merged_is = e;
        len_is = n;
        lies = record { inside = room.inside; few = room.few };
        comps = h;
      }

  module _ (heads : List Now) (i : ℕ) (tree : List (List (Placed Def.Component))) (h : Done image kept heads i tree) where
    module _ (cs : List (Placed Def.Component)) (here : drop i tree ≡ cs ∷ drop (i + 1) tree) where
      pub done_more : (x : Now) (d : Concatenation) → HeadIs image kept x d → ok d ≡ check i cs → i < length heads
          → Done image kept (set heads i x) (i + 1) tree
      unfolding stage3
      done_more x d is said l =
          record {
            done = h.done ++ d ∷ [];
            heads_are = rw (take_more_set heads i x l) (heads_more image kept (take i heads) h.done x d h.heads_are is);
            rest = h.rest ∙ rw (here, ← said, add-one) (regroup (stage3 (suc i) (drop (suc i) tree)) h.done d);
          }

      pub done_off : (q : Refusal) → refused q ≡ check i cs → stage3 0 tree ≡ refused q
      unfolding stage3
      done_off q said = h.rest ∙ rw (here, ← said)

    pub done_end : drop i tree ≡ [] → stage3 0 tree ≡ ok h.done
    unfolding stage3
    done_end e = h.rest ∙ rw (e, append-nil)

-- the answers
module _ (image : List ℕ) (kept : List Component) (heads : List Now) (m : Result (List Concatenation)) where
  pub refused_is : (q : Refusal) → m ≡ refused q → (refused q ≡ verdict m) × ((ds : List Concatenation) → m ≡ ok ds → HeadsAre image kept heads ds)
  refused_is q e = (rw e, λ ds g. let z : refused q ≡ ok ds = sym e ∙ g in cc)

  pub ok_is : (done : List Concatenation) → m ≡ ok done → HeadsAre image kept heads done
      → (ok tt ≡ verdict m) × ((ds : List Concatenation) → m ≡ ok ds → HeadsAre image kept heads ds)
  ok_is done e h = (rw e, λ ds g. let z : ok done ≡ ok ds = sym e ∙ g in let s : done ≡ ds = cc in subst (λ l. HeadsAre image kept heads l) s h)
