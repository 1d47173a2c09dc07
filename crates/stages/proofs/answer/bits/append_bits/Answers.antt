use Rattle.std.proofs.Common.{arith}
use Rattle.stages.proofs.answer.merging.Appended.{out_of_area, from_place}
use Rattle.stages.proofs.answer.bits.append_bits.Goals as goal

pub returns-then-area-at : goal.returns-then-area-at
returns-then-area-at c =
    let a = c.args in
    out_of_area a.area.now a.at a.k a.s.now a.from a.n (omega arith)

pub returns : goal.returns
returns c =
    let a = c.args in
    from_place a.area.now _ a.at a.k a.s.now a.from a.n (omega arith) c.append_front.ensures
