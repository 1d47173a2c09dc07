use Rattle.std.proofs.Common.{ℕ, ◌+◌, ◌*◌, List, set, sym, ap, ◌∙◌, arith}
use Rattle.stages.specs.answer.literal_bits.Places.{with_bits_none, whole_more}
use Rattle.stages.proofs.answer.literal_bits.put_whole.Goals as goal

pub loop-i-init : goal.loop-i-init
loop-i-init c =
    let a = c.args in
    sym (with_bits_none a.dst.now (8 * a.q) a.src.now a.from (λ q. (c.slice_known-1.given q).fits))

pub loop-i-preserved : goal.loop-i-preserved
loop-i-preserved c =
    let l = c.loop-i in
    let a = c.args in
    let v = c.byte_of.result in
    ap (λ (d : List ℕ). set d (a.q + l.i) v) l.invariant
    ∙ whole_more a.dst.now a.src.now a.q a.from l.i v (λ q. (c.type_inv.src q).fits) (omega arith) c.byte_of.ensures
