-- `stages::admission::admitted` meets its contract: each way out. Assumes nothing.
use Rattle.std.specs.Prelude.{Err}
use Rattle.std.proofs.Common.{◌≡◌, sym, ap, ◌∙◌, rules}
use Rattle.definition.specs.Run.{under}
use Rattle.errors.specs.Refused.{refused_as, result_of}
use Rattle.stages.proofs.admission.Ways.{mode_above, image_refused, all_passed, area_short}
use Rattle.stages.proofs.admission.admitted.Goals as goal

pub returns-then-mode-gt2 : goal.returns-then-mode-gt2
returns-then-mode-gt2 c =
    let a = c.args in
    mode_above a.image.now a.area (under a.mode) c.into.result (ap (refused_as {A = Unit}) c.into.ensures) c.if-mode-gt2.true

pub returns-in_err-check_image : goal.returns-in_err-check_image
returns-in_err-check_image c =
    let a = c.args in
    let s = c.check_image in
    let refused = image_refused a.image.now a.area (under a.mode) c.if-mode-gt2.false s.result s.ensures _ c.in_err-check_image.was in
    let same : c.from_residual.result ≡ Err c.in_err-check_image.field-0.0 = search rules in
    rw same (sym (ap result_of c.in_err-check_image.was) ∙ refused)

pub returns-then-not-enough : goal.returns-then-not-enough
returns-then-not-enough c =
    let a = c.args in
    let s = c.check_image in
    area_short a.image.now a.area (under a.mode) c.if-mode-gt2.false s.result s.ensures
    c.in_ok-check_image.was c.enough.result c.enough.ensures c.if-not-enough.true
    c.into-then-not-enough.result (ap (refused_as {A = Unit}) c.into-then-not-enough.ensures)

pub returns : goal.returns
returns c =
    let a = c.args in
    let s = c.check_image in
    all_passed a.image.now a.area (under a.mode) c.if-mode-gt2.false s.result s.ensures
    c.in_ok-check_image.was c.enough.result c.enough.ensures c.if-not-enough.false
