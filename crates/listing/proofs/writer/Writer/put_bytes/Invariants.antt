-- The first bytes are written.
use Rattle.std.proofs.Common.{take}
use Rattle.listing.specs.writer.Writes.{Writes}
use Rattle.listing.proofs.writer.Writer.put_bytes.Given as goal

abbrev pub invariant-loop-b : goal.invariant-loop-b
invariant-loop-b l = Writes l.initial.self (take l.b-index l.s) l.self
