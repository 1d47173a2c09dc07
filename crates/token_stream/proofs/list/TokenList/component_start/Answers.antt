use Rattle.std.proofs.Common.{arith}
use Rattle.token_stream.proofs.write.Dividers.{start_here, start_next, start_last}
use Rattle.token_stream.proofs.list.TokenList.component_start.Goals as goal

pub returns-then-divides : goal.returns-then-divides
returns-then-divides c =
    let a = c.args.self.now in
    let l = c.loop-s in
    let h = start_here a.list.now a.text.now c.requires.2 l.d c.args.a l.s (omega arith) (omega arith) c.divides.ensures c.if-divides.true in
    (omega arith, omega arith)

pub loop-s-preserved : goal.loop-s-preserved
loop-s-preserved c =
    let a = c.args.self.now in
    let l = c.loop-s in
    let h =
    start_next a.list.now a.text.now c.requires.2 l.d c.args.a l.s (omega arith) (omega arith) c.divides.ensures c.if-divides.false
    c.before-d.ensures.open in
    (omega arith, omega arith, omega arith)

pub returns : goal.returns
returns c =
    let a = c.args.self.now in
    let l = c.loop-s in
    let h = start_last a.list.now a.text.now c.requires.2 l.d c.args.a l.s (omega arith) in
    (omega arith, omega arith)
