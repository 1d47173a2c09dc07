use Rattle.std.specs.Prelude.{Err}
use Rattle.std.proofs.Common.{◌≡◌, arith}
use Rattle.stages.specs.ranges.Values.{usbr_of}
use Rattle.stages.proofs.component.simplify.Answers.{literal_parsed, cut_within, cut_ok, cut_refused}
use Rattle.stages.proofs.component.simplify.by_type.Goals as goal

pub returns-in_err-m-in-Literal : goal.returns-in_err-m-in-Literal
returns-in_err-m-in-Literal c base f m p =
    let a = c.args in
    let v = usbr_of a.image.now a.tree base a.m.range in
    let w = literal_parsed a.image.now a.tree base a.c_type c.in-Literal.b c.in-Literal.is f in
    let same : c.from_residual.result ≡ Err c.in_err-m-in-Literal.field-0.0 = grind arith in
    rw same
    (cut_refused a.image.now a.tree base a.c_type v c.in-Literal.b c.in-Literal.is w.0 _ (c.in_err-m-in-Literal.ensures base m p))

pub cut-requires : goal.cut-requires
cut-requires c =
    let a = c.args in
    let (base, f, m, p) = c.requires in
    let v = usbr_of a.image.now a.tree base a.m.range in
    let w = literal_parsed a.image.now a.tree base a.c_type c.in-Literal.b c.in-Literal.is f in
    (w.0.short, (a.image.now, a.tree, base, cut_within a.image.now a.tree base a.c_type v c.in-Literal.b c.in-Literal.is w.0 _ (c.in_ok-m-in-Literal.ensures base m p) p))

pub returns-in-Literal : goal.returns-in-Literal
returns-in-Literal c base f m p =
    let a = c.args in
    let v = usbr_of a.image.now a.tree base a.m.range in
    let w = literal_parsed a.image.now a.tree base a.c_type c.in-Literal.b c.in-Literal.is f in
    let h = c.in_ok-m-in-Literal.ensures base m p in
    cut_ok a.image.now a.tree base a.c_type v c.in-Literal.b c.in-Literal.is w.0 _ h _
    (c.cut.ensures a.image.now a.tree base w.0 (cut_within a.image.now a.tree base a.c_type v c.in-Literal.b c.in-Literal.is w.0 _ h p) h.held)
