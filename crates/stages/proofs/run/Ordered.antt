-- The run in the order of the code: what it asks before the stages, the starting value, stages 1 and 2, and the later ones.
use Rattle.std.specs.Prelude as Std
use Rattle.std.specs.Prelude.{Ok, Err, ◌∷◌}
use Rattle.std.proofs.Common.{◌≡◌, ◌<◌, sym, refl, ap, ◌∙◌, lt-ltb}
use Rattle.definition.specs.Prelude.{ℕ, suc, Option, List, [], get_or, length, leb, ltb}
use Rattle.definition.specs.Basics.{Result, ok, refused, ◌>>=◌, all}
use Rattle.definition.specs.Limits.{area_needed}
use Rattle.definition.specs.Refusals.{need, mode_above_2, short_area}
use Rattle.definition.specs.Image.{Unparsed, Placed, counts, tree_of}
use Rattle.definition.specs.Check.{check_image}
use Rattle.definition.specs.Text.{Part}
use Rattle.definition.specs.Component.{Component, each, starting_value, source, stage1, stage2}
use Rattle.definition.specs.Run.{Choices, under, stages, run}
use Rattle.laws.specs.Results.{bind_ok, bind_assoc, need_ok, need_then}
use Rattle.laws.specs.Tests.{and_iff, leb_iff}
use Rattle.prepared.specs.Statement.{Bytes}
use Rattle.answer_facts.specs.stages.Statement.{later}
use Rattle.answer_facts.specs.stages.Proved.{in_turn}
use Rattle.errors.specs.Refused.{refused_as, result_of}
use Rattle.errors.specs.declared.Refusal.{Refusal}
use Rattle.stages.specs.admission.Asked.{admitted_of}
use Rattle.stages.specs.component.Read.{first_stage, second_stage, two_stages}
use Rattle.stages.specs.run.Run.{StandsFor, came_to, bytes_of, RunFits}
use Rattle.stages.specs.declared.run.Choices.{Choices as Told}
use Rattle.stages.proofs.token_tree.Trees.{every_grown}

-- ---- the stages

by_stages : (how : Choices) (a : Result (Option (Placed Part))) (b : Result (List (List (Placed Component))))
    → (a >>= (λ init. b >>= λ cc. ok (record { init = init; cc = cc })) >>= stage2 >>= later how)
    ≡ (a >>= λ init. b >>= each second_stage 0 >>= λ cc. later how (record { init = init; cc = cc }))
unfolding stage2
by_stages how (refused q) b = refl
by_stages how (ok init) (refused q) = refl
by_stages how (ok init) (ok v) = sym (bind_assoc (each second_stage 0 v) (λ cc. ok (record { init = init; cc = cc })) (later how))

pub stages_two : (how : Choices) (t : List (List (Placed Unparsed))) → stages how t
    ≡ (starting_value 0 (source t) >>= λ init. two_stages t >>= λ cc. later how (record { init = init; cc = cc }))
unfolding stage1
stages_two how t = in_turn how t ∙ by_stages how (starting_value 0 (source t)) (each first_stage 0 t)

-- ---- the checks before the stages

-- the run is those checks, which ask for the mode alone, and then the stages
run_after : (image : List ℕ) (how : Choices) (area : ℕ) → run image how area ≡ (admitted_of image (under how.mode) area >>= λ _. bytes_of (stages how (tree_of image)))
unfolding admitted_of run
run_after image how area =
    go (need (leb how.mode 2) mode_above_2) (check_image image) (need (leb (area_needed (counts image).c (counts image).n (counts image).b) area) short_area)
    (bytes_of (stages how (tree_of image)))
  where
    go : (a b c : Result Unit) (r : Result (List ℕ)) → (a >>= λ _. b >>= λ _. c >>= λ _. r) ≡ (a >>= (λ _. b >>= λ _. c) >>= λ _. r)
    go (ok u) (ok v) c r = refl
    go (ok u) (refused q) c r = refl
    go (refused q) b c r = refl

pub all_bytes : (s : List ℕ) → ((i : ℕ) → get_or s i 0 < 256) → Bytes s
unfolding all
all_bytes [] h = refl
all_bytes (x ∷ s) h = (and_iff (ltb x 256) (all (λ b. ltb b 256) s)).1 (lt-ltb x 256 (h 0), all_bytes s (λ i. h (suc i)))

fits_after : (image : List ℕ) (how : Choices) (area : ℕ) → ((i : ℕ) → get_or image i 0 < 256) → admitted_of image how area ≡ ok tt → RunFits image area
unfolding admitted_of
fits_after image how area bytes h =
    let (t, g) = need_then (leb how.mode 2) mode_above_2 _ h in
    let (u, c, n) = bind_ok (check_image image) _ g in
    record { grown = every_grown image (all_bytes image bytes) c; checked = c; room = (leb_iff _ _).0 (need_ok _ short_area n) }

module _ (image : List ℕ) (told : Told) (area : List ℕ) (s : Std.Result Unit Refusal) (said : result_of s ≡ admitted_of image (under told.mode) (length area)) where
  pub entered : ((i : ℕ) → get_or image i 0 < 256) → s ≡ Ok tt → RunFits image (length area)
  entered bytes p = fits_after image (under told.mode) (length area) bytes (sym said ∙ ap result_of p)

  module _ (how : Choices) (st : StandsFor told how) where
    asked : result_of s ≡ admitted_of image (under how.mode) (length area)
    asked = said ∙ ap (λ m. admitted_of image (under m) (length area)) (sym st.mode)

    pub whole_entered : s ≡ Ok tt → {r : Result ℕ × List ℕ} → r ≡ came_to area (bytes_of (stages how (tree_of image)))
        → r ≡ came_to area (run image how (length area))
    whole_entered p e =
        let ran : run image how (length area) ≡ bytes_of (stages how (tree_of image)) = run_after image how (length area) ∙ rw (← asked, p) in
        e ∙ ap (came_to area) (sym ran)

    pub whole_refused : {q : Refusal} → s ≡ Err q → (refused_as q, area) ≡ came_to area (run image how (length area))
    whole_refused {q} e =
        let ran : run image how (length area) ≡ refused_as q = run_after image how (length area) ∙ rw (← asked, e) in
        ap (came_to area) (sym ran)
