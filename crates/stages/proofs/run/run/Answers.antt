use Rattle.std.proofs.Common.{refl}
use Rattle.definition.specs.Run.{with_default}
use Rattle.errors.specs.Refused.{result_of}
use Rattle.stages.proofs.run.Force.{in_force_lem, not_empty}
use Rattle.stages.proofs.run.Ordered.{all_bytes}
use Rattle.stages.proofs.run.run.Goals as goal

pub returns : goal.returns
returns c =
    let a = c.args in
    let o = c.answered-outcome in
    let how = with_default a.mode a.default.now in
    in_force_lem a.image.now (all_bytes a.image.now (λ i. (c.type_inv.image i).fits)) how a.area.now
    (result_of o.result) o.new.area (o.ensures how (record { mode = refl; held = not_empty a.default.now })) c.told_by-start.result c.told_by-start.ensures
