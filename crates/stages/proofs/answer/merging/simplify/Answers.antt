use Rattle.std.proofs.Common.{drop_of_length-le}
use Rattle.definition.specs.Concatenation.{merge}
use Rattle.stages.proofs.answer.merging.Turns.{walk_starts, put_at, goes_at, walk_ends, to_end}
use Rattle.stages.proofs.answer.merging.simplify.Goals as goal

pub put-s-requires : goal.put-s-requires
put-s-requires c =
    let a = c.args in
    let l = c.loop-c in
    let (t, cs, are, fixed, room) = c.requires in
    put_at a.image.now t a.area.now a.w (merge cs) l.area l.s a.comps.now l.c-index _ c.loop-c-test.true (l.invariant t cs are fixed room)

pub close-requires : goal.close-requires
close-requires c =
    let a = c.args in
    let l = c.loop-c in
    let (t, cs, are, fixed, room) = c.requires in
    to_end a.image.now t a.area.now a.w (merge cs) l.area l.s _ (drop_of_length-le a.comps.now c.loop-c-test.false) (l.invariant t cs are fixed room)

pub loop-c-init : goal.loop-c-init
loop-c-init c t cs are fixed room = walk_starts c.args.image.now t c.args.comps.now c.args.w c.args.area.now cs are fixed room

pub loop-c-preserved : goal.loop-c-preserved
loop-c-preserved c t cs are fixed room =
    let a = c.args in
    let l = c.loop-c in
    goes_at a.image.now t a.area.now a.w (merge cs) l.area l.s a.comps.now l.c-index _ _ c.put-s.result c.loop-c-test.true c.put-s.ensures
    (l.invariant t cs are fixed room)

pub returns : goal.returns
returns c t cs are fixed room =
    let a = c.args in
    let l = c.loop-c in
    walk_ends a.image.now t a.area.now a.w (merge cs) l.area l.s _ _ c.close.result (drop_of_length-le a.comps.now c.loop-c-test.false) c.close.ensures
    (l.invariant t cs are fixed room)
