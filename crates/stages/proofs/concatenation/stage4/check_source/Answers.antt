use Rattle.std.proofs.Common.{ap, ◌∙◌}
use Rattle.definition.specs.Overall.{place_from, is_filler}
use Rattle.stages.specs.component.Values.{component_of}
use Rattle.stages.specs.declared.component.types.Component.{Component}
use Rattle.stages.specs.token_tree.Table.{tree_in}
use Rattle.stages.proofs.concatenation.stage4.Places.{filler_place, source_found, source_none}
use Rattle.stages.proofs.concatenation.stage4.check_source.Goals as goal

pub returns-in-Some : goal.returns-in-Some
returns-in-Some c image d h =
    let s = c.args in
    let p = λ (x : Component). is_filler (component_of image (tree_in image) 0 x) in
    rw c.at.ensures
    (source_found s.bare s.i d c.in-Some.k
    (c.in-Some.ensures p (λ x b f. f image (tree_in image) 0) ∙ ap (place_from p 0) c.comps.ensures ∙ filler_place image s.kept.now s.x d h)
    c.if-not-bare-i.false)

pub returns-in-None : goal.returns-in-None
returns-in-None c image d h =
    let s = c.args in
    let p = λ (x : Component). is_filler (component_of image (tree_in image) 0 x) in
    source_none s.bare s.i d
    (c.in-None.ensures p (λ x b f. f image (tree_in image) 0) ∙ ap (place_from p 0) c.comps.ensures ∙ filler_place image s.kept.now s.x d h)
