use Rattle.std.proofs.Common.{map, arith, drop_of_length-le}
use Rattle.definition.specs.Basics.{sum}
use Rattle.stages.proofs.answer.heads.Listed.{size_of, sizes_next, sizes_end}
use Rattle.stages.proofs.answer.heads.merged_of.Goals as goal

pub loop-x-init : goal.loop-x-init
loop-x-init c = (omega arith, λ image kept ds are. record { left = ds; are = are; sum_is = omega arith })

pub loop-x-preserved : goal.loop-x-preserved
loop-x-preserved c =
    let l = c.loop-x in
    (omega arith, λ image kept ds are. sizes_next image kept c.args.heads.now l.x-index _ (sum (map size_of ds)) l.m c.loop-x-test.true (l.invariant.1 image kept ds are))

pub returns : goal.returns
returns c image kept ds are =
    let l = c.loop-x in
    sizes_end image kept c.args.heads.now l.x-index (sum (map size_of ds)) l.m (drop_of_length-le c.args.heads.now c.loop-x-test.false) (l.invariant.1 image kept ds are)
