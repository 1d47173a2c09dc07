use Rattle.std.specs.Prelude.{Ok}
use Rattle.std.proofs.Common.{refl, ap, ◌∙◌, arith}
use Rattle.definition.specs.Image.{bits_at}
use Rattle.stages.proofs.component.parse.Types.{plain_filler, plain_typed, plain_refused, unbounded_is}
use Rattle.stages.proofs.component.parse.Wholes.{plain_laid, plain_fits}
use Rattle.stages.proofs.component.parse.unbracketed.Goals as goal

pub typed-requires : goal.typed-requires
typed-requires c =
    let a = c.args in
    let p = c.requires in
    plain_fits a.image.now a.tree a.run.stop.0 a.run.«end».0 a.run.r.0 p.0 p.1.0 _ p.1.1 c.start_of-s.ensures

pub returns-in-Some : goal.returns-in-Some
returns-in-Some c base s is few h =
    let a = c.args in
    let l = plain_laid a.image.now a.tree a.run.stop.0 a.run.«end».0 a.run.r.0 c.requires.0 base s is _ h c.start_of-s.ensures in
    plain_filler a.image.now a.tree base is (bits_at a.image.now a.literal.at a.literal.to) l.0 _ c.parse_range.result (c.parse_range.ensures base s is h) _ _
    (c.in_ok-range.was ∙ ap Ok c.in-Some.is) refl c.component_of.ensures

pub returns-in-None : goal.returns-in-None
returns-in-None c base s is few h =
    let a = c.args in
    let q = c.requires in
    let l = plain_laid a.image.now a.tree a.run.stop.0 a.run.«end».0 a.run.r.0 q.0 base s is _ h c.start_of-s.ensures in
    let f = q.1.1.text_fits in
    let u = unbounded_is a.image.now a.tree base _ c.unbounded.ensures (omega (arith, f)) in
    plain_typed a.image.now a.tree base is (bits_at a.image.now a.literal.at a.literal.to) l.0 _ c.parse_range.result (c.parse_range.ensures base s is h) c.unbounded.result
    (c.in_ok-range.was ∙ ap Ok c.in-None.is) u.0 (c.typed.ensures base a.run.r.0 a.run.stop.0 is few l.0 l.1 u.1)

pub returns-in_err-range : goal.returns-in_err-range
returns-in_err-range c base s is few h =
    let a = c.args in
    let l = plain_laid a.image.now a.tree a.run.stop.0 a.run.«end».0 a.run.r.0 c.requires.0 base s is _ h c.start_of-s.ensures in
    plain_refused a.image.now a.tree base is (bits_at a.image.now a.literal.at a.literal.to) l.0 _ c.parse_range.result (c.parse_range.ensures base s is h) _
    c.in_err-range.was (grind arith)
