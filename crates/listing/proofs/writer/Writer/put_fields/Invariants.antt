-- The lines of the components from k on are still to come.
use Rattle.listing.specs.writer.Writes.{Toward}
use Rattle.listing.proofs.Concatenations.{field_lines}
use Rattle.listing.proofs.writer.Writer.put_fields.Given as goal

abbrev pub invariant-loop-k : goal.invariant-loop-k
invariant-loop-k l =
    let a = l.a in
    Toward l.initial.self (field_lines a.image.now a.bytes.now l.from l.to) (field_lines a.image.now a.bytes.now l.k l.to) l.self
