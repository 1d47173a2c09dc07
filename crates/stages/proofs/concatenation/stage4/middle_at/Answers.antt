use Rattle.std.proofs.Common.{rules, ◌≡◌, true, ap, ◌∙◌}
use Rattle.definition.specs.Concatenation.{is_align, align_mid, is_unbounded_filler}
use Rattle.definition.specs.Overall.{place_from}
use Rattle.stages.specs.component.Values.{component_of}
use Rattle.stages.specs.concatenation.alignment.Align.{align_of}
use Rattle.stages.specs.declared.component.types.Component.{Component}
use Rattle.stages.specs.token_tree.Table.{tree_in}
use Rattle.stages.proofs.concatenation.stage4.Places.{unbounded_place, middle_found, middle_none}
use Rattle.stages.proofs.concatenation.stage4.middle_at.Goals as goal

pub returns-in-Some : goal.returns-in-Some
returns-in-Some c image d h =
    let s = c.args in
    let p = λ (x : Component). is_unbounded_filler (component_of image (tree_in image) 0 x) in
    let mid : is_align (align_of s.x.running.align) align_mid ≡ true = search rules in
    rw c.at.ensures
    (middle_found s.i d c.in-Some.k (rw h.summary.align_is at mid)
    (c.in-Some.ensures p (λ x b f. f image (tree_in image) 0) ∙ ap (place_from p 0) c.comps.ensures ∙ unbounded_place image s.kept.now s.x d h))

pub returns-in-None : goal.returns-in-None
returns-in-None c image d h =
    let s = c.args in
    let p = λ (x : Component). is_unbounded_filler (component_of image (tree_in image) 0 x) in
    let mid : is_align (align_of s.x.running.align) align_mid ≡ true = search rules in
    middle_none s.i d (rw h.summary.align_is at mid)
    (c.in-None.ensures p (λ x b f. f image (tree_in image) 0) ∙ ap (place_from p 0) c.comps.ensures ∙ unbounded_place image s.kept.now s.x d h)
