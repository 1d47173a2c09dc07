-- Each turn counts one entry at most, so the counts fit.
use Rattle.std.proofs.Common.{◌+◌, ◌≤◌}
use Rattle.leaves_replay.proofs.replay.Given as goal

abbrev pub invariant-loop-turn : goal.invariant-loop-turn
invariant-loop-turn g l = l.tally.equal + l.tally.different ≤ l._turn
