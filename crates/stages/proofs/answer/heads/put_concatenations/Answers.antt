use Rattle.std.proofs.Common.{refl, drop_of_length-le}
use Rattle.std.proofs.lemmas.List.Edits.{sets}
use Rattle.stages.proofs.answer.heads.Listed.{blocks, blocks_next, blocks_end}
use Rattle.stages.proofs.answer.heads.put_concatenations.Goals as goal

pub loop-i-init : goal.loop-i-init
loop-i-init c image kept ds are = record { left = ds; are = are; bytes = refl }

pub loop-i-preserved : goal.loop-i-preserved
loop-i-preserved c image kept ds are =
    let a = c.args in
    let l = c.loop-i in
    blocks_next image kept a.heads.now l.i _ (sets a.area.now 32 (blocks ds)) l.area _ c.loop-i-test.true (λ d is. c.put_concatenation.ensures image kept d is)
    (l.invariant image kept ds are)

pub returns : goal.returns
returns c image kept ds are =
    let a = c.args in
    let l = c.loop-i in
    blocks_end image kept a.heads.now l.i (sets a.area.now 32 (blocks ds)) l.area (drop_of_length-le a.heads.now c.loop-i-test.false) (l.invariant image kept ds are)
