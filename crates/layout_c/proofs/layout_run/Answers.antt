-- `layout_c::layout_run` meets its contract: the outcome of the run as one number. Assumes nothing.
use Rattle.definition.specs.Run.{under}
use Rattle.layout_c.proofs.Coded.{run_coded}
use Rattle.layout_c.proofs.layout_run.Goals as goal

pub returns : goal.returns
returns c =
    let a = c.args in
    run_coded a.image.now a.area.now c.run-ran.new.area _ (under a.mode) c.run-ran.result.outcome c.run-ran.ensures.0 c.coded.result c.coded.ensures
