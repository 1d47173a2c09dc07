use Rattle.definition.specs.Text.{items}
use Rattle.definition.specs.Tree.{recs_of}
use Rattle.stages.proofs.component.start.Sources.{the_source, size_some, size_room, before_fits, run_room, ran_is, last_is}
use Rattle.stages.proofs.component.start.Afters.{start_by}
use Rattle.stages.proofs.component.start.starting_value.Goals as goal

pub overflow_sub-k : goal.overflow_sub-k
overflow_sub-k c =
    let a = c.args in
    let g = c.requires.0 in
    size_some a.image.now g (the_source a.image.now g) a.t c.requires.1 _ c.components_of.ensures

pub records_before-r-requires : goal.records_before-r-requires
records_before-r-requires c =
    let a = c.args in
    let g = c.requires.0 in
    before_fits a.image.now g (the_source a.image.now g) a.t c.requires.1 _ c.components_of.ensures

pub records_of-requires : goal.records_of-requires
records_of-requires c =
    let a = c.args in
    let g = c.requires.0 in
    size_room a.image.now g (the_source a.image.now g) a.t c.requires.1 _ c.components_of.ensures

pub run_of-run-requires : goal.run_of-run-requires
run_of-run-requires c =
    let a = c.args in
    let g = c.requires.0 in
    run_room a.image.now g (the_source a.image.now g) a.t c.requires.1 _ c.components_of.ensures _ _ c.records_before-r.ensures
    c.records_of.ensures

pub start_in-requires : goal.start_in-requires
start_in-requires c =
    let a = c.args in
    let g = c.requires.0 in
    let d = ran_is a.image.now g (the_source a.image.now g) a.t c.requires.1 _ c.components_of.ensures _ _ c.records_before-r.ensures
    c.records_of.ensures c.run_of-run.result c.run_of-run.ensures in
    (d.some, (_, d.runs))

pub returns : goal.returns
returns c = λ g.
    let a = c.args in
    let o = the_source a.image.now g in
    let et = c.requires.1 in
    let n = c.components_of in
    let d = ran_is a.image.now g o a.t et _ n.ensures _ _ c.records_before-r.ensures c.records_of.ensures c.run_of-run.result
    c.run_of-run.ensures in
    start_by a.image.now g o a.t et _ (last_is a.image.now g o a.t et _ n.ensures) c.run_of-run.result d c.start_in.result
    (c.start_in.ensures _ _ (items 0 (recs_of o.node)) d.laid)
