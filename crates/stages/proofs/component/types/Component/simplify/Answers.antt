use Rattle.std.specs.Prelude.{Err}
use Rattle.std.proofs.Common.{◌≡◌, arith}
use Rattle.stages.proofs.component.simplify.Answers.{whole_positive, whole_ok, whole_refused}
use Rattle.stages.proofs.component.types.Component.simplify.Goals as goal

pub by_type-requires : goal.by_type-requires
by_type-requires c =
    let a = c.args in
    let p = c.requires in
    let h = c.in_ok-m.ensures p.0 p.1.range in
    (p.0, p.1.c_type, h.held, whole_positive a.image.now a.tree p.0 a.self _ h)

pub returns-in_err-m : goal.returns-in_err-m
returns-in_err-m c base p =
    let a = c.args in
    let same : c.from_residual.result ≡ Err c.in_err-m.field-0.0 = grind arith in
    rw same (whole_refused a.image.now a.tree base a.self _ (c.in_err-m.ensures base p.range))

pub returns : goal.returns
returns c base p =
    let a = c.args in
    let h = c.in_ok-m.ensures base p.range in
    whole_ok a.image.now a.tree base a.self _ _ h
    (c.by_type.ensures base p.c_type h.held (whole_positive a.image.now a.tree base a.self _ h))
