use Rattle.std.proofs.Common.{arith}
use Rattle.token_stream.proofs.write.Dividers.{end_here, end_next, end_last}
use Rattle.token_stream.proofs.list.TokenList.concatenation_end.Goals as goal

pub returns-then-divides : goal.returns-then-divides
returns-then-divides c =
    let a = c.args.self.now in
    let l = c.loop-e in
    let h = end_here a.list.now a.text.now c.requires.2 l.d l.e (omega arith) c.divides.ensures c.if-divides.true in
    omega arith

pub loop-e-preserved : goal.loop-e-preserved
loop-e-preserved c =
    let a = c.args.self.now in
    let l = c.loop-e in
    let h = end_next a.list.now a.text.now c.requires.2 l.d l.e (omega arith) c.divides.ensures c.if-divides.false c.after-d.ensures.open in
    (omega arith, omega arith)

pub returns : goal.returns
returns c =
    let a = c.args.self.now in
    let l = c.loop-e in
    let h = end_last a.list.now a.text.now c.requires.2 l.d l.e (omega arith) in
    omega arith
