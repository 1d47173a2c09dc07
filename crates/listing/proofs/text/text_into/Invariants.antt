-- The first i bytes are written.
use Rattle.definition.specs.Image.{bytes_at}
use Rattle.definition.specs.Listing.{shown}
use Rattle.listing.specs.writer.Writes.{Writes}
use Rattle.listing.proofs.text.text_into.Given as goal

abbrev pub invariant-loop-i : goal.invariant-loop-i
invariant-loop-i l = Writes l.initial.w (shown (bytes_at l.s l.from l.i)) l.w
