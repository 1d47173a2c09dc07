use Rattle.std.proofs.Common.{ap, ◌∙◌}
use Rattle.std.proofs.lemmas.List.Edits.{sets}
use Rattle.definition.specs.Basics.{joined}
use Rattle.image.proofs.writer.put_record.Goals as goal

pub returns : goal.returns
unfolding joined
returns c = let a = c.args in c.put.ensures ∙ ap (sets a.area.now a.at) c.put_numbers.ensures
