use Rattle.std.proofs.Common.{arith}
use Rattle.stages.proofs.answer.merging.Appended.{near_is, far_off, front}
use Rattle.stages.proofs.answer.merging.Whole.{copied}
use Rattle.stages.proofs.answer.bits.append_front.Goals as goal

pub returns-then-not-near : goal.returns-then-not-near
returns-then-not-near c =
    let a = c.args in
    far_off 0 a.k a.s.now a.from a.n c.near.result a.area.now c.near.ensures c.if-not-near.true-raw

pub copy_bytes-requires : goal.copy_bytes-requires
copy_bytes-requires c = let w = c.whole.ensures c.if-whole.true in (w.3, w.4)

pub returns-then-whole : goal.returns-then-whole
returns-then-whole c =
    let a = c.args in
    let w = c.whole.ensures c.if-whole.true in
    copied a.area.now _ a.k a.s.now a.from a.n w.0 w.1 w.2 w.4 (λ q. (c.type_inv.s q).fits)
    c.copy_bytes.ensures

pub overflow_add-k : goal.overflow_add-k
overflow_add-k c =
    let a = c.args in
    let n = near_is a.k a.n c.near.result c.near.ensures c.if-not-near.false-raw in
    omega (arith, n.had, n.new)

pub returns : goal.returns
returns c =
    let a = c.args in
    front a.area.now _ _ a.k a.s.now a.from a.n c.bytes_for-had.result c.bytes_for-has.result
    c.bytes_for-had.ensures.0 c.bytes_for-has.ensures.0 c.zero_bytes.ensures c.put_bits.ensures
    (λ q. (c.slice_known-2-1.given q).fits)
