-- What is left to the comma from token s back, d groups being open there, is what is left of the whole.
use Rattle.std.proofs.Common.{◌≡◌, ◌+◌, ◌≤◌, reverse}
use Rattle.std.proofs.Math.Seq.{slice}
use Rattle.definition.specs.Tokens.{tokens}
use Rattle.token_facts.specs.Flat.{to_comma}
use Rattle.token_stream.proofs.list.TokenList.component_start.Given as goal

abbrev pub invariant-loop-s : goal.invariant-loop-s
invariant-loop-s l =
    let ts = tokens l.self.list.now l.self.text.now in
    (l.a ≤ l.s) × (l.d + l.s ≤ l.e) × (l.s + to_comma 0 (reverse (slice l.a l.e ts)) ≡ l.e + to_comma l.d (reverse (slice l.a l.s ts)))
