use Rattle.stages.proofs.token_tree.Walks.{runs_start, runs_order, record_fits}
use Rattle.stages.proofs.token_tree.items.Items.new.Goals as goal

pub start_or-s-requires : goal.start_or-s-requires
start_or-s-requires c =
    let a = c.args in
    let p = c.requires in
    let o = runs_order a.image.now a.tree a.run.stop.0 a.run.end.0 a.run.r.0 p.0 p.1 in
    (o.0, λ l. (record_fits a.image.now a.tree a.run.stop.0 a.run.end.0 a.run.r.0 p.0 p.1 l).0)

pub returns-clause-walks : goal.returns-clause-walks
returns-clause-walks c =
    let a = c.args in
    let p = c.requires in
    runs_start a.image.now a.tree a.run.stop.0 a.run.end.0 a.run.r.0 p.0 c.start_or-s.result.0 p.1 c.start_or-s.ensures
