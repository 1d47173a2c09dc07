-- Before token k what was done of the tokens' records stands in the area.
use Rattle.std.proofs.Math.Seq.{slice}
use Rattle.definition.specs.Tokens.{tokens}
use Rattle.token_stream.specs.write.Steps.{span_recs}
use Rattle.token_stream.proofs.write.component.Going.{Going}
use Rattle.token_stream.proofs.list.TokenList.put_tokens.Given as goal

abbrev pub invariant-loop-k : goal.invariant-loop-k
invariant-loop-k l =
    let list = l.self.list.now in
    let text = l.self.text.now in
    Going (span_recs list text l.s l.e) l.base l.initial.m.record l.initial.m.text l.initial.area l.area l.m (slice l.k l.e (tokens list text))
