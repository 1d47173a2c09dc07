-- Concatenations that stage 3 accepts: their components, and how many there are.
use Rattle.std.specs.Prelude.{◌∷◌}
use Rattle.std.proofs.Common.{◌≡◌, sym, refl, ap, ap₂, ◌∙◌}
use lib.ListN.{length-map}
use Rattle.definition.specs.Prelude.{ℕ, suc, true, List, [], length}
use Rattle.definition.specs.Basics.{ok}
use Rattle.definition.specs.Image.{Placed}
use Rattle.definition.specs.Component.{Component}
use Rattle.definition.specs.Concatenation.{Concatenation, unchecked, check_from, check, stage3}
use Rattle.laws.specs.Results.{bind_ok, ok_same}
use Rattle.stages.specs.concatenation.Heads.{HeadsAre}
use Rattle.stages.specs.answer.Stage5.{comps_of}
use Rattle.stages.specs.declared.component.types.Component.{Component as Now}
use Rattle.stages.specs.declared.concatenation.stage3.Concatenation.{Concatenation as Head}

check_comps : (i : ℕ) (cs : List (Placed Component)) (d : Concatenation) → check i cs ≡ ok d → d.comps ≡ cs
unfolding check
check_comps i cs d h =
    let (r, _, q) = bind_ok (check_from i 0 true cs unchecked) _ h in
    let (_, _, p) = bind_ok _ (λ _. ok (record { comps = cs; align = r.align; width = r.width; deterministic = r.deterministic; nonzero = r.nonzero })) q in
    ap (λ (x : Concatenation). x.comps) (sym (ok_same refl p))

pub stage3_comps : (i : ℕ) (cc : List (List (Placed Component))) (ds : List Concatenation) → stage3 i cc ≡ ok ds → comps_of ds ≡ cc
unfolding stage3
stage3_comps i [] ds h = ap comps_of (sym (ok_same refl h))
stage3_comps i (c ∷ cs) ds h =
    let (d, p, q) = bind_ok (check i c) _ h in
    let (es, r, e) = bind_ok (stage3 (suc i) cs) (λ es. ok (d ∷ es)) q in
    ap comps_of (sym (ok_same refl e)) ∙ ap₂ (λ (x : List (Placed Component)) (xs : List (List (Placed Component))). x ∷ xs) (check_comps i c d p) (stage3_comps (suc i) cs es r)

pub stage3_length : (i : ℕ) (cc : List (List (Placed Component))) (ds : List Concatenation) → stage3 i cc ≡ ok ds → length ds ≡ length cc
stage3_length i cc ds h = sym (length-map ds (λ (d : Concatenation). d.comps)) ∙ ap length (stage3_comps i cc ds h)

pub heads_length : (image : List ℕ) (kept : List Now) (xs : List Head) (ds : List Concatenation) → HeadsAre image kept xs ds → length xs ≡ length ds
heads_length image kept [] [] h = refl
heads_length image kept [] (d ∷ ds) h = elim h [ ]
heads_length image kept (x ∷ xs) [] h = elim h [ ]
heads_length image kept (x ∷ xs) (d ∷ ds) h = ap suc (heads_length image kept xs ds h.1)
