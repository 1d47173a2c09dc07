-- The first i bytes are still to come.
use Rattle.listing.specs.writer.Writes.{Toward}
use Rattle.listing.proofs.text.Texts.{hexes}
use Rattle.listing.proofs.text.number_into.Given as goal

abbrev pub invariant-loop-i : goal.invariant-loop-i
invariant-loop-i l = Toward l.initial.w (hexes l.s l.from l.count) (hexes l.s l.from l.i) l.w
