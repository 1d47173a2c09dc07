use Rattle.std.proofs.Common.{arith}
use Rattle.token_stream.proofs.write.component.Spans.{at_first, at_fits, at_next, at_last}
use Rattle.token_stream.proofs.list.TokenList.put_tokens.Goals as goal

pub loop-k-init : goal.loop-k-init
loop-k-init c =
    let a = c.args in
    at_first a.self.now.list.now a.self.now.text.now a.base a.s a.e a.pen c.requires a.area.now

pub put_token-m-requires : goal.put_token-m-requires
put_token-m-requires c =
    let a = c.args in
    let l = c.loop-k in
    at_fits a.self.now.list.now a.self.now.text.now a.base a.s a.e a.pen c.requires a.area.now l.area l.m l.k l.invariant
    c.loop-k-test.true

pub loop-k-preserved : goal.loop-k-preserved
loop-k-preserved c =
    let a = c.args in
    let l = c.loop-k in
    at_next a.self.now.list.now a.self.now.text.now a.base a.s a.e a.pen c.requires a.area.now l.area l.m l.k l.invariant
    c.loop-k-test.true _ c.put_token-m.result c.put_token-m.ensures

pub returns : goal.returns
returns c =
    let a = c.args in
    let l = c.loop-k in
    at_last a.self.now.list.now a.self.now.text.now a.base a.s a.e a.pen c.requires a.area.now l.area l.m l.k l.invariant
    (omega arith)
