-- Before token j the records counted, and those that the rest up to the closer gives, are the skip.
use Rattle.std.proofs.Common.{◌≡◌, ℕ, ◌+◌, ◌≤◌, List}
use Rattle.std.proofs.Math.Seq.{slice}
use Rattle.definition.specs.Tokens.{tokens}
use Rattle.token_facts.specs.Flat.{inner}
use Rattle.token_stream.proofs.list.TokenList.skip_at.Given as goal

abbrev pub invariant-loop-j : goal.invariant-loop-j
invariant-loop-j l =
    let list = l.self.list.now in
    (l.d ≤ l.j) × (l.r ≤ 1 + l.j)
    × ((text : List ℕ) → l.r + inner l.d (slice l.j l.e (tokens list text)) ≡ 2 + inner 0 (slice (l.k + 1) l.e (tokens list text)))
