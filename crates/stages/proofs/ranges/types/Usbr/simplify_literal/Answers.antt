use Rattle.std.specs.Prelude.{Ok}
use Rattle.stages.proofs.ranges.literal.Whole.{literal_over, literal_ended, literal_open}
use Rattle.stages.proofs.ranges.types.Usbr.simplify_literal.Goals as goal

pub returns-then-above : goal.returns-then-above
returns-then-above c base m p =
    let a = c.args in
    literal_over a.image.now a.tree base a.self a.w c.requires.0 p c.static_val.result (c.static_val.ensures a.image.now a.tree base)
    c.above.result c.above.ensures c.if-above.true

pub returns-in-Some : goal.returns-in-Some
returns-in-Some c base m p =
    let a = c.args in
    literal_ended a.image.now a.tree base a.self a.w c.requires.0 p c.static_val.result (c.static_val.ensures a.image.now a.tree base)
    c.above.result c.above.ensures c.in-Some.field-0 c.end_checked.result c.if-above.false c.in-Some.is
    (c.end_checked.ensures a.image.now a.tree base m p)

pub returns-in-None : goal.returns-in-None
returns-in-None c base m p =
    let a = c.args in
    literal_open a.image.now a.tree base a.self a.w c.requires.0 p c.static_val.result (c.static_val.ensures a.image.now a.tree base)
    c.above.result c.above.ensures (Ok c.to_width.result) c.if-above.false c.in-None.is
    (c.to_width.ensures base m.fits.start)
