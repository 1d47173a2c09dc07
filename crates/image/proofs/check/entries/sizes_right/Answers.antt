use mathlib.Core.Path.{sym, ◌∙◌}
use native.Mathlib.Omega.{arith}
use Rattle.image.proofs.check.Sums.{sizes_again, sizes_end}
use Rattle.image.proofs.check.entries.sizes_right.Invariants.{size}
use Rattle.image.proofs.check.entries.sizes_right.Goals as goal

pub loop-k-preserved : goal.loop-k-preserved
loop-k-preserved c =
    let a = c.args in
    let v = c.loop-k in (
      omega arith,
      sizes_again v.right (size a.image.now a.from a.step) v.sum v.k a.n c.four_at-size.result a.total _ c.loop-k-test.true
          c.four_at-size.ensures v.invariant.1,
    )

pub returns : goal.returns
returns c =
    let a = c.args in
    let v = c.loop-k in
    sym (sizes_end v.right (size a.image.now a.from a.step) v.sum v.k a.n a.total c.loop-k-test.false) ∙ v.invariant.1
