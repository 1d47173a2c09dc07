use Rattle.stages.proofs.component.parse.Endings.{last_at, last_fits}
use Rattle.stages.proofs.component.start.Prefixes.{begins, colon_at, mid_laid, mid_runs}
use Rattle.stages.proofs.component.start.start_in.Goals as goal

pub before_range-before-requires : goal.before_range-before-requires
before_range-before-requires c =
    let a = c.args in
    let p = c.requires in
    let w = p.1.1 in
    let l = c.last_item-last in
    last_fits a.image.now a.tree a.run.stop.0 a.run.«end».0 a.run.r.0 l.result.0 p.1.0 w
    (last_at a.image.now a.tree a.run.stop.0 a.run.«end».0 a.run.r.0 l.result.0 p.0 l.ensures w.base p.1.0 w.items w.laid)

pub colon_in-colon-requires : goal.colon_in-colon-requires
colon_in-colon-requires c =
    let a = c.args in
    let p = c.requires in
    let w = p.1.1 in
    let l = c.last_item-last in (
      p.1.0,
      mid_runs a.image.now a.tree a.run l.result.0 _ c.before_range-before.ensures p.1.0 w
          (last_at a.image.now a.tree a.run.stop.0 a.run.«end».0 a.run.r.0 l.result.0 p.0 l.ensures w.base p.1.0 w.items w.laid),
    )

pub value_before-requires : goal.value_before-requires
value_before-requires c =
    let a = c.args in
    let p = c.requires in
    let w = p.1.1 in
    let l = c.last_item-last in
    let b = c.before_range-before in
    let v = mid_runs a.image.now a.tree a.run l.result.0 _ b.ensures p.1.0 w
    (last_at a.image.now a.tree a.run.stop.0 a.run.«end».0 a.run.r.0 l.result.0 p.0 l.ensures w.base p.1.0 w.items w.laid) in
    colon_at a.image.now a.tree v.base b.result.stop.0 b.result.«end».0 b.result.r.0 p.1.0 v.items v.laid _
    (c.colon_in-colon.ensures v.base p.1.0 v.items v.laid) v.fits v.text_fits v.small

pub returns : goal.returns
returns c base s is h =
    let a = c.args in
    let l = c.last_item-last in
    let m = mid_laid a.image.now a.tree a.run l.result.0 _ c.before_range-before.ensures base s is
    (last_at a.image.now a.tree a.run.stop.0 a.run.«end».0 a.run.r.0 l.result.0 c.requires.0 l.ensures base s is h) h in
    rw (← begins a.image.now a.tree a.run l.result.0 _ c.before_range-before.ensures) (c.value_before.ensures base s _ _ m (c.colon_in-colon.ensures base s _ m))
