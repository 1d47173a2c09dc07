use Rattle.std.proofs.Common.{◌≡◌}
use Rattle.stages.specs.component.Start.{records_before}
use Rattle.stages.proofs.component.start.records_before.Given as goal

abbrev pub invariant-loop-j : goal.invariant-loop-j
invariant-loop-j l = l.r.0 ≡ records_before l.image l.t l.j
