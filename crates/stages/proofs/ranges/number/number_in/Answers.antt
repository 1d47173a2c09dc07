use Rattle.std.proofs.Common.{◌+◌, ◌-◌, ◌∙◌, arith}
use Rattle.stages.proofs.ranges.number.Letters.{number_above, number_whole}
use Rattle.stages.proofs.ranges.number.number_in.Goals as goal

pub returns-then-image-p-gt57 : goal.returns-then-image-p-gt57
returns-then-image-p-gt57 c =
    let a = c.args in
    number_above a.image.now a.p a.len c.requires.0 c.if-image-p-gt57.true

pub returns : goal.returns
returns c =
    let a = c.args in
    c.i128_try_parse.ensures ∙ number_whole a.image.now a.p a.len (a.p + a.len - a.p) c.requires.1 (omega arith)
