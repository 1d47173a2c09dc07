-- Before turn i the first i bytes are copied.
use Rattle.std.proofs.Common.{◌≡◌}
use Rattle.std.proofs.lemmas.List.Edits.{sets}
use Rattle.definition.specs.Prelude.{length}
use Rattle.definition.specs.Image.{bytes_at}
use Rattle.image.proofs.writer.copy_bytes.Given as goal

abbrev pub invariant-loop-i : goal.invariant-loop-i
invariant-loop-i l = (l.area ≡ sets l.initial.area l.at (bytes_at l.s l.from l.i)) × (length l.area ≡ length l.initial.area)
