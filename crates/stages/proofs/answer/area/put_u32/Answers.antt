use Rattle.std.proofs.Common.{ap, ◌∙◌, take, drop}
use Rattle.std.proofs.lemmas.List.Edits.{sets}
use Rattle.stages.proofs.answer.area.put_u32.Goals as goal

pub returns : goal.returns
returns c = let a = c.args in c.copy_bytes.ensures ∙ ap (λ l. sets a.area.now a.at (take 4 (drop 0 l))) c.to_le_bytes.ensures
