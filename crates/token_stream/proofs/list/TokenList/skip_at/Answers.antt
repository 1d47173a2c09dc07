use Rattle.std.proofs.Common.{ap, ◌+◌, arith}
use Rattle.token_stream.proofs.write.component.Skips.{skip_next, skip_closer, skip_end, ends}
use Rattle.token_stream.proofs.list.TokenList.skip_at.Goals as goal

pub returns-then-closes-d : goal.returns-then-closes-d
returns-then-closes-d c =
    let l = c.loop-j in (
      λ text.
          skip_closer c.args.self.now.list.now text l.j c.args.e c.loop-j-test.true c.requires.1 l.d l.r _
          (rw c.closes.ensures at c.if-closes-d.true) (l.invariant.2 text),
      omega arith,
    )

pub loop-j-preserved : goal.loop-j-preserved
loop-j-preserved c =
    let l = c.loop-j in
    let (is, most) = ends _ (rw c.joined.ensures at c.from-r.ensures) in (
      omega arith,
      omega arith,
      λ text.
          skip_next c.args.self.now.list.now text l.j c.args.e c.loop-j-test.true c.requires.1 l.d _ l.r _ _ c.after-d.ensures.open
          (rw c.closes.ensures at c.if-closes-d.false) (ap (l.r +◌) is) (l.invariant.2 text),
    )

pub returns : goal.returns
returns c =
    let a = c.args in
    let l = c.loop-j in
    (λ text. skip_end a.self.now.list.now text l.d l.r a.e l.j _ (omega arith) (l.invariant.2 text), omega arith)
