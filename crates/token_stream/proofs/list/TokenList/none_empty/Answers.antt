use Rattle.std.proofs.Common.{◌<◌, ◌∙◌, arith}
use Rattle.definition.specs.Tokens.{count}
use Rattle.token_stream.proofs.check.Walks.{empty_divider, empty_other, empty_stop, empty_end}
use Rattle.token_stream.proofs.list.TokenList.none_empty.Goals as goal
use Rattle.token_stream.proofs.list.TokenList.none_empty.Goals.{then-divides+else-not-begun, else-divides}

pub returns-then-not-begun : goal.returns-then-not-begun
returns-then-not-begun c =
    let a = c.args.self.now in
    let v = c.loop-k in
    empty_stop a.list.now a.text.now v.k v.d v.begun c.requires (omega arith)
    (rw (c.divides.ensures, c.divides-in-loop-k.ensures) at c.if-divides.true) c.if-not-begun.true ∙ v.invariant.1

pub loop-k-preserved : goal.loop-k-preserved
loop-k-preserved c =
    let a = c.args.self.now in
    let v = c.loop-k in
    let inside : v.k < count a.list.now = omega arith in
    elim c.if-divides.branch [
      | then-divides+else-not-begun w ↦ (
        omega arith,
        empty_divider a.list.now a.text.now v.k v.d v.begun c.requires inside
            (rw (c.divides.ensures, c.divides-in-loop-k.ensures) at w.if-divides.true) w.if-not-begun.false w.d-is w.begun-is
            ∙ v.invariant.1,
      )
      | else-divides w ↦ (
        omega arith,
        empty_other a.list.now a.text.now v.k v.d v.begun c.requires inside
            (rw (c.divides.ensures, c.divides-in-loop-k.ensures) at w.if-divides.false)
            (w.d-is ∙ w.after-d.ensures.open) w.begun-is ∙ v.invariant.1,
      )
    ]

pub returns : goal.returns
returns c =
    let a = c.args.self.now in
    let v = c.loop-k in
    empty_end a.list.now a.text.now v.k v.d v.begun (omega arith) ∙ v.invariant.1
