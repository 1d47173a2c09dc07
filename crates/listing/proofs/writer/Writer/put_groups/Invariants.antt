-- The lines of the concatenations from i and of the components from k on are still to come.
use Rattle.std.proofs.Common.{◌≤◌}
use Rattle.listing.specs.writer.Writes.{Toward}
use Rattle.listing.proofs.Concatenations.{groups_from}
use Rattle.listing.proofs.writer.Writer.put_groups.Given as goal

abbrev pub invariant-loop-i : goal.invariant-loop-i
invariant-loop-i l =
    let from = groups_from l.a.image.now l.a.bytes.now l.groups l.fields in
    record { within : l.k ≤ l.fields; written : Toward l.initial.self (from 0 0) (from l.i l.k) l.self }
