-- Stages 3 to 5 give the same answer for the literal and for its pieces.
use Rattle.std.specs.Prelude.{◌≡◌, ◌≤◌, ◌∷◌, ◌++◌}
use Rattle.definition.specs.Prelude.{ℕ, Bool, Option, List, [], map, length}
use Rattle.definition.specs.Basics.{Result, ok, ◌>>=◌}
use Rattle.definition.specs.Image.{Placed}
use Rattle.definition.specs.Text.{Part}
use Rattle.definition.specs.Component.{Component}
use Rattle.definition.specs.Concatenation.{Concatenation, stage3, merged}
use Rattle.definition.specs.Overall.{Overall, stage4}
use Rattle.definition.specs.Answer.{Answer}
use Rattle.definition.specs.Run.{Choices, has_start}
use Rattle.answer_facts.specs.stages.Statement.{later}
use Rattle.cutting_proof.specs.stages.Statement.{CutLater}
use Rattle.cutting_proof.specs.stages.Cuts.{Cuts, uncut, cut_within}
use Rattle.laws.specs.Results.{bind_ok}
use Rattle.cutting_proof.specs.stages.Keeping.{Keeps, bind_keeps}
use Rattle.cutting_proof.specs.stages.Checked.{Alike, Pairwise, done, pair, stage3_alike}
use Rattle.cutting_proof.specs.stages.Overall.{same_merged_list, stage4_keeps}

uncut_tree : (bits : List ℕ) (t : List (List (Placed Component))) → Pairwise (Cuts bits) t t
uncut_tree bits [] = done
uncut_tree bits (c ∷ t) = pair (uncut bits c) (uncut_tree bits t)

cut_tree : (bits : List ℕ) (cb : List (List (Placed Component))) (c d : List (Placed Component)) (ca : List (List (Placed Component))) → Cuts bits c d
    → Pairwise (Cuts bits) (cb ++ c ∷ ca) (cb ++ d ∷ ca)
cut_tree bits [] c d ca k = pair k (uncut_tree bits ca)
cut_tree bits (e ∷ cb) c d ca k = pair (uncut bits e) (cut_tree bits cb c d ca k)

later_keeps : {bits : List ℕ} → length bits ≤ 4096 → (how : Choices) (init : Option (Placed Part)) {t t' : List (List (Placed Component))} → Pairwise (Cuts bits) t t'
    → Keeps (later how (record { init = init; cc = t })) (later how (record { init = init; cc = t' }))
later_keeps small how init {t} {t'} k answer h = let (cs, q, g) = bind_ok _ _ h in go cs (stage3_alike small k 0 cs q) g
  where
    given : Bool
    given = has_start how init

    answered : List Concatenation → Overall → Result Answer
    answered cs o = ok (record { init = init; overall = o; cc = map merged cs })

    go : (cs : List Concatenation) → (ds : List Concatenation) × (stage3 0 t' ≡ ok ds) × Pairwise Alike cs ds
        → (stage4 how.mode given cs >>= answered cs) ≡ ok answer → later how (record { init = init; cc = t' }) ≡ ok answer
    go cs (ds, p, like) g =
        rw p
        (bind_keeps (stage4 how.mode given cs) (stage4 how.mode given ds) (answered cs) (answered ds) (stage4_keeps how.mode given like) (λ o a q. rw (← same_merged_list like) q) answer g)

pub cut_later : CutLater
cut_later how init cb l h ca bits a places b rises within small answer =
    later_keeps small how init (cut_tree bits cb _ _ ca (cut_within bits l a places b h rises within)) answer
