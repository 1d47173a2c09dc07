use Rattle.std.proofs.Common.{◌+◌, ◌∙◌}
use Rattle.stages.proofs.token_tree.Same.{slices_same}
use Rattle.stages.proofs.token_tree.text.same_text.Goals as goal

pub returns : goal.returns
returns c =
    let a = c.args in
    c.eq.ensures ∙ slices_same a.image.now (a.tree.text + a.a.at.0) (a.tree.text + a.b.at.0) a.a.len a.b.len c.requires.0 c.requires.1
