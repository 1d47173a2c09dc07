-- They are all there.
use Rattle.std.proofs.Common.{◌∙◌, length, ap, arith, take_all}
use Rattle.std.proofs.lemmas.List.Edits.{sets}
use Rattle.image.proofs.writer.Runs.{padded_take}
use Rattle.image.proofs.writer.put.Goals as goal

pub returns : goal.returns
returns c =
    let a = c.args in
    c.put_bytes.ensures ∙ ap (sets a.area.now a.at) (padded_take (length a.s.now) a.s.now (omega arith) ∙ take_all (length a.s.now) a.s.now (omega arith))
