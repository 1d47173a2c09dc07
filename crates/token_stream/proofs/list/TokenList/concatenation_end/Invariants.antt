-- What is left to the semicolon from token e on, d groups being open there, is what is left of the whole.
use Rattle.std.proofs.Common.{◌≡◌, ◌+◌, ◌≤◌, drop}
use Rattle.definition.specs.Tokens.{tokens}
use Rattle.token_facts.specs.Flat.{to_semicolon}
use Rattle.token_stream.proofs.list.TokenList.concatenation_end.Given as goal

abbrev pub invariant-loop-e : goal.invariant-loop-e
invariant-loop-e l =
    let ts = tokens l.self.list.now l.self.text.now in
    (l.d + l.a ≤ l.e) × (l.a + to_semicolon 0 (drop l.a ts) ≡ l.e + to_semicolon l.d (drop l.e ts))
