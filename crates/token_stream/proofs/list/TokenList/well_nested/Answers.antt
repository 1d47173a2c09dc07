use Rattle.std.proofs.Common.{◌∙◌, arith}
use Rattle.token_stream.proofs.check.Walks.{nested_turn, nested_stop, nested_end}
use Rattle.token_stream.proofs.list.TokenList.well_nested.Goals as goal

pub returns-then-closes-d : goal.returns-then-closes-d
returns-then-closes-d c text =
    nested_stop c.args.self.now.list.now text c.loop-k.k c.loop-k.d (omega arith)
    (rw c.closes.ensures at c.if-closes-d.true) ∙ c.loop-k.invariant.1 text

pub loop-k-preserved : goal.loop-k-preserved
loop-k-preserved c = (
  omega arith,
  λ text.
      nested_turn c.args.self.now.list.now text c.loop-k.k c.loop-k.d (omega arith)
      (rw c.closes.ensures at c.if-closes-d.false) c.after-d.ensures.open ∙ c.loop-k.invariant.1 text,
)

pub returns : goal.returns
returns c text = nested_end c.args.self.now.list.now text c.loop-k.k c.loop-k.d (omega arith) ∙ c.loop-k.invariant.1 text
