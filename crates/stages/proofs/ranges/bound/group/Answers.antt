use Rattle.std.proofs.Common.{arith}
use Rattle.stages.proofs.token_tree.Walks.{runs_order}
use Rattle.stages.proofs.ranges.bound.AtSign.{at_sign, group_whole, group_sign}
use Rattle.stages.proofs.ranges.bound.group.Goals as goal

pub start_of-requires : goal.start_of-requires
start_of-requires c =
    let a = c.args in
    let r = c.requires in
    let k = at_sign a.image.now a.tree r.base a.run.stop.0 a.run.end.0 a.run.r.0 a.s.0 r.items r.laid c.in-Some.sign
    (c.in-Some.ensures r.base a.s.0 r.items r.laid) in
    record { room = omega (arith, k.room, r.fits); small = r.small }

pub sides-requires : goal.sides-requires
sides-requires c =
    let a = c.args in
    let r = c.requires in
    let k = at_sign a.image.now a.tree r.base a.run.stop.0 a.run.end.0 a.run.r.0 a.s.0 r.items r.laid c.in-Some.sign
    (c.in-Some.ensures r.base a.s.0 r.items r.laid) in
    (omega (arith, k.behind, c.start_of.ensures), omega (arith, k.before, c.start_of.ensures), r.text_fits)

pub returns-in-Some : goal.returns-in-Some
returns-in-Some c base is above h =
    let a = c.args in
    group_sign a.image.now a.tree base a.run.stop.0 a.run.end.0 a.run.r.0 a.s.0 is h c.in-Some.sign
    (c.in-Some.ensures base a.s.0 is h) c.start_of.result.0 c.start_of.ensures c.sides.result (c.sides.ensures base above)

pub part_of-requires : goal.part_of-requires
part_of-requires c =
    let a = c.args in
    (runs_order a.image.now a.tree a.run.stop.0 a.run.end.0 a.run.r.0 a.s.0 c.requires).1

pub returns-in-None : goal.returns-in-None
returns-in-None c base is above h =
    let a = c.args in
    group_whole a.image.now a.tree base a.run.stop.0 a.run.end.0 a.run.r.0 a.s.0 is h above c.requires.text_fits
    (c.in-None.ensures base a.s.0 is h) c.part_of.result c.new_s.result c.part_of.ensures c.new_s.ensures
