use Rattle.std.proofs.Common.{sym}
use Rattle.stages.proofs.component.start.Sources.{records_none, records_more, records_small}
use Rattle.stages.proofs.component.start.records_before.Goals as goal

pub loop-j-init : goal.loop-j-init
loop-j-init c = let a = c.args in sym (records_none a.image.now a.t)

pub overflow_add-r : goal.overflow_add-r
overflow_add-r c =
    let a = c.args in
    let v = c.loop-j in
    record { fits = records_small a.image.now a.t a.k.0 v.j c.requires c.loop-j-test.true v.r.0 _ v.invariant c.records_of.ensures }

pub loop-j-preserved : goal.loop-j-preserved
loop-j-preserved c =
    let a = c.args in
    let v = c.loop-j in
    records_more a.image.now a.t v.j v.r.0 _ v.invariant c.records_of.ensures
