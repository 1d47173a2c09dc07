-- The loop's invariant: the sums so far, with those of what is left, are the whole list's, and no limit was passed.
use Rattle.std.proofs.Common.{◌≤◌}
use Rattle.token_stream.specs.counts.Counting.{tally_of}
use Rattle.token_stream.proofs.counts.Walk.{Walked}
use Rattle.token_stream.proofs.list.TokenList.counts.Given as goal

abbrev pub invariant-loop-k : goal.invariant-loop-k
invariant-loop-k l = (l.d ≤ l.k) × Walked l.self.list.now l.self.text.now l.k l.d (tally_of l.t)
