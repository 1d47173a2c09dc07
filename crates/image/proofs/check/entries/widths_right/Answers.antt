use mathlib.Core.Path.{sym, ◌∙◌}
use native.Mathlib.Omega.{arith}
use Rattle.image.proofs.check.Sums.{widths_again, widths_end}
use Rattle.image.proofs.check.entries.widths_right.Invariants.{width}
use Rattle.image.proofs.check.entries.widths_right.Goals as goal

pub loop-k-preserved : goal.loop-k-preserved
loop-k-preserved c =
    let a = c.args in
    let v = c.loop-k in (
      omega arith,
      widths_again v.right c.spare_right.result a.image.now (width a.image.now a.components) v.l v.k a.n c.four_at-w.result
          c.div_ceil-l.result a.literals a.total _ c.loop-k-test.true c.four_at-w.ensures (omega arith) c.requires.0
          c.spare_right.ensures v.invariant.1,
    )

pub returns : goal.returns
returns c =
    let a = c.args in
    let v = c.loop-k in
    sym (widths_end v.right a.image.now (width a.image.now a.components) v.l v.k a.n a.total c.loop-k-test.false) ∙ v.invariant.1
