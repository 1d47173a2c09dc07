-- Before turn i the first i numbers are written.
use Rattle.std.proofs.Common.{◌≡◌}
use Rattle.std.proofs.lemmas.List.Edits.{sets}
use Rattle.definition.specs.Prelude.{take, map}
use Rattle.definition.specs.Basics.{joined}
use Rattle.definition.specs.Tree.{u32}
use Rattle.image.proofs.writer.put_numbers.Given as goal

abbrev pub invariant-loop-i : goal.invariant-loop-i
invariant-loop-i l = l.area ≡ sets l.initial.area l.at (joined (map u32 (take l.i l.numbers)))
