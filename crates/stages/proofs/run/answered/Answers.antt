-- `stages::run::answered` meets its contract: admission, and then the stages. Assumes nothing.
use Rattle.std.specs.Prelude.{Err}
use Rattle.std.proofs.Common.{◌≡◌, rules}
use Rattle.stages.proofs.run.Ordered.{entered, whole_entered, whole_refused}
use Rattle.stages.proofs.run.answered.Goals as goal

pub sized-requires : goal.sized-requires
sized-requires c =
    let a = c.args in
    let s = c.admitted in
    entered a.image.now a.how a.area.now s.result s.ensures (λ i. (c.type_inv.image i).fits) c.in_ok-admitted.was

pub returns : goal.returns
returns c how st =
    let a = c.args in
    let s = c.admitted in
    whole_entered a.image.now a.how a.area.now s.result s.ensures how st c.in_ok-admitted.was (c.sized.ensures how st)

pub returns-in_err-admitted : goal.returns-in_err-admitted
returns-in_err-admitted c how st =
    let a = c.args in
    let s = c.admitted in
    let same : c.from_residual.result ≡ Err c.in_err-admitted.field-0.0 = search rules in
    rw same (whole_refused a.image.now a.how a.area.now s.result s.ensures how st c.in_err-admitted.was)
