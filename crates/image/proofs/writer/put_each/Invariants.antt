-- Before turn i the first i bytes are written.
use Rattle.std.proofs.Common.{◌≡◌}
use Rattle.std.proofs.lemmas.List.Edits.{sets}
use Rattle.definition.specs.Image.{bytes_at}
use Rattle.image.proofs.writer.put_each.Given as goal

abbrev pub invariant-loop-i : goal.invariant-loop-i
invariant-loop-i l = l.area ≡ sets l.initial.area l.at (bytes_at l.s l.from l.i)
