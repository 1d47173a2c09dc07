-- The loop's invariant: what is left is well nested, d groups being open, where all of it is.
use Rattle.std.proofs.Common.{◌≡◌, ℕ, ◌≤◌, List, drop}
use Rattle.definition.specs.Tokens.{tokens, nested}
use Rattle.token_stream.proofs.list.TokenList.well_nested.Given as goal

abbrev pub invariant-loop-k : goal.invariant-loop-k
invariant-loop-k l =
    (l.d ≤ l.k) × ((text : List ℕ) → nested l.d (drop l.k (tokens l.self.list.now text)) ≡ nested 0 (tokens l.self.list.now text))
