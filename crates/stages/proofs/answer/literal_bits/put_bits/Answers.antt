use Rattle.std.proofs.Common.{◌≡◌, ℕ, ◌+◌, List, sym, ap, ◌∙◌, arith}
use Rattle.stages.specs.answer.literal_bits.Put.{with_bits}
use Rattle.stages.specs.answer.literal_bits.Places.{with_bits_none, with_bits_more, put_fits, put_over, put_over_from}
use Rattle.stages.proofs.answer.literal_bits.put_bits.Goals as goal

pub returns-then-n-at : goal.returns-then-n-at
returns-then-n-at c =
    let a = c.args in
    sym (put_over a.dst.now a.at a.src.now a.from a.n (omega arith))

pub returns-then-n-from : goal.returns-then-n-from
returns-then-n-from c =
    let a = c.args in
    sym (put_over_from a.dst.now a.at a.src.now a.from a.n (omega arith))

pub loop-i-init : goal.loop-i-init
loop-i-init c =
    let a = c.args in (
      omega arith,
      sym (with_bits_none a.dst.now a.at a.src.now a.from (λ q. (c.slice_known-1.given q).fits)),
    )

pub loop-i-preserved : goal.loop-i-preserved
loop-i-preserved c =
    let l = c.loop-i in
    let a = c.args in (
      omega (arith, c.put_some-i.ensures.0),
      c.put_some-i.ensures.2
          ∙ ap (λ (d : List ℕ). with_bits d (a.at + l.i) a.src.now (a.from + l.i) c.put_some-i.result) l.invariant.1
          ∙ with_bits_more a.dst.now a.at a.src.now a.from l.i c.put_some-i.result,
    )

pub returns : goal.returns
returns c =
    let a = c.args in
    let e : c.loop-i.i ≡ a.n = omega arith in
    c.loop-i.invariant.1
    ∙ ap (with_bits a.dst.now a.at a.src.now a.from) e
    ∙ sym (put_fits a.dst.now a.at a.src.now a.from a.n (omega arith) (omega arith))
