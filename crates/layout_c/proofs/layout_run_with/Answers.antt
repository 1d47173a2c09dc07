-- `layout_c::layout_run_with` meets its contract: the outcome of the run as one number, and where the starting value in force stands as
-- another. Assumes nothing.
use Rattle.std.proofs.Common.{sym, refl, subst}
use Rattle.definition.specs.Prelude.{length}
use Rattle.definition.specs.Run.{with_default}
use Rattle.stages.specs.in_force.InForce.{Lies}
use Rattle.stages.proofs.run.Force.{placed}
use Rattle.stages.proofs.run.Ordered.{all_bytes}
use Rattle.layout_c.proofs.Coded.{run_told}
use Rattle.layout_c.proofs.layout_run_with.Goals as goal

pub told-requires : goal.told-requires
told-requires c =
    let a = c.args in
    let bytes = all_bytes a.image.now (λ i. (c.type_inv.image i).fits) in
    subst (Lies a.image.now) (sym c.run-ran.ensures.1) (placed a.image.now bytes (with_default a.mode a.default.now) (length a.area.now) _ refl).1

pub returns : goal.returns
returns c =
    let a = c.args in
    run_told a.image.now a.area.now c.run-ran.new.area _ (with_default a.mode a.default.now) c.run-ran.result.outcome c.run-ran.ensures.0
    c.coded.result c.coded.ensures c.run-ran.result.start c.run-ran.ensures.1 c.told.result c.told.ensures
