use Rattle.std.proofs.Common.{sym, arith}
use Rattle.std.proofs.lemmas.Map.Keys.{ge_from_not_lt}
use Rattle.stages.proofs.token_tree.Walks.{record_fits}
use Rattle.stages.proofs.token_tree.Lasts.{before, last_first, last_again, last_place}
use Rattle.stages.proofs.token_tree.items.last_item.Goals as goal

pub behind-next-requires : goal.behind-next-requires
behind-next-requires c =
    let a = c.args in
    let p = c.requires in
    record_fits a.image.now a.tree a.run.stop.0 a.run.«end».0 a.run.r.0 p.1.0 p.1.1 p.0

pub loop-at-init : goal.loop-at-init
loop-at-init c =
    let a = c.args in
    let p = c.requires in
    last_first a.image.now a.tree a.run.stop.0 a.run.«end».0 a.run.r.0 p.1.0 _ p.1.1 p.0 c.behind-next.ensures

pub behind-next-requires-in-loop-at : goal.behind-next-requires-in-loop-at
behind-next-requires-in-loop-at c =
    let a = c.args in
    let h = c.loop-at.invariant in
    record_fits a.image.now a.tree a.run.stop.0 h.tail _ h.s h.runs (before _ _ c.loop-at-test.ensures)

pub loop-at-smaller : goal.loop-at-smaller
loop-at-smaller c =
    let a = c.args in
    let l = before _ _ c.loop-at-test.ensures in
    let o = (last_again a.image.now a.tree a.run.stop.0 a.run.r.0 _ _ _ c.loop-at.invariant l c.behind-next-in-loop-at.ensures).1 in
    omega (arith, l, o)

pub loop-at-preserved : goal.loop-at-preserved
loop-at-preserved c =
    let a = c.args in
    (last_again a.image.now a.tree a.run.stop.0 a.run.r.0 _ _ _ c.loop-at.invariant (before _ _ c.loop-at-test.ensures)
    c.behind-next-in-loop-at.ensures).0

pub returns : goal.returns
returns c base s i is h =
    let a = c.args in
    last_place a.image.now a.tree a.run.stop.0 a.run.r.0 _ _ c.loop-at.invariant (ge_from_not_lt _ _ (sym c.loop-at-test.ensures)) base a.run.«end».0 s i is h
