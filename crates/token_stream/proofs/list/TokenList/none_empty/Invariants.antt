-- The loop's invariant: no component is empty in what is left, d groups being open and the first begun or not, where none is in all of it.
use Rattle.std.proofs.Common.{◌≡◌, false, ◌≤◌, drop}
use Rattle.definition.specs.Tokens.{tokens}
use Rattle.token_facts.specs.Flat.{none_empty_in}
use Rattle.token_stream.proofs.list.TokenList.none_empty.Given as goal

abbrev pub invariant-loop-k : goal.invariant-loop-k
invariant-loop-k l =
    let ts = tokens l.self.list.now l.self.text.now in
    (l.d ≤ l.k) × (none_empty_in l.d l.begun (drop l.k ts) ≡ none_empty_in 0 false ts)
