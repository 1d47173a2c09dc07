use Rattle.std.proofs.Common.{refl, drop_of_length-le}
use Rattle.stages.specs.answer.Stage5.{merged_all, comps_of}
use Rattle.stages.proofs.answer.stage5.Placing.{placing_start, turn_lies, turn_fits, placing_next, placing_end}
use Rattle.stages.proofs.answer.stage5.put_components.Goals as goal

pub loop-x-init : goal.loop-x-init
loop-x-init c ds are fixed room =
    let a = c.args in
    placing_start a.image.now a.kept.now a.area.now a.from (merged_all (comps_of ds)) a.heads.now ds are fixed room refl

pub comps-requires : goal.comps-requires
comps-requires c =
    let a = c.args in
    let l = c.loop-x in
    let p = c.requires in
    turn_lies a.image.now a.kept.now a.area.now a.from (merged_all (comps_of p.ds)) a.heads.now l.x-index _ l.area l.w c.loop-x-test.true
    (l.invariant p.ds p.are p.fixed p.room)

pub simplify-w-requires : goal.simplify-w-requires
simplify-w-requires c =
    let a = c.args in
    let l = c.loop-x in
    let p = c.requires in
    turn_fits a.image.now a.kept.now a.area.now a.from (merged_all (comps_of p.ds)) a.heads.now l.x-index _ l.area l.w c.loop-x-test.true
    c.comps.result.now c.comps.ensures (l.invariant p.ds p.are p.fixed p.room)

pub loop-x-preserved : goal.loop-x-preserved
loop-x-preserved c ds are fixed room =
    let a = c.args in
    let l = c.loop-x in
    placing_next a.image.now a.kept.now a.area.now a.from (merged_all (comps_of ds)) a.heads.now l.x-index _ l.area l.w c.loop-x-test.true
    c.comps.result.now c.simplify-w.result _ c.comps.ensures c.simplify-w.ensures (l.invariant ds are fixed room)

pub returns : goal.returns
returns c ds are fixed room =
    let a = c.args in
    let l = c.loop-x in
    placing_end a.image.now a.kept.now a.area.now a.from (merged_all (comps_of ds)) a.heads.now l.x-index l.area l.w
    (drop_of_length-le a.heads.now c.loop-x-test.false) (l.invariant ds are fixed room)
