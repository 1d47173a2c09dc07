use Rattle.std.specs.Prelude.{Ok, Err}
use Rattle.std.proofs.Common.{◌≡◌, refl, ap, ◌∙◌, arith}
use Rattle.stages.specs.ranges.Dots.{scanned_by}
use Rattle.stages.proofs.token_tree.Stepping.{begun, went}
use Rattle.stages.proofs.ranges.scan.Scans.{scanning_start, scanning_next, scanning_end}
use Rattle.stages.proofs.ranges.scan.dots_in.Goals as goal

pub loop-item-init : goal.loop-item-init
loop-item-init c =
    let a = c.args in
    let k = c.new-item-items in
    let b = begun a.image a.tree a.run.r a.run.stop a.run.«end» c.into_iter-item-iterator.result k.result c.into_iter-item-iterator.ensures.into_iter_gives
    k.ensures.is k.ensures.walks k.ensures.text in (
      b.over,
      λ base s' is h. rw b.at (scanning_start a.image.now a.tree base a.run.stop.0 a.run.«end».0 a.run.r.0 s' c.into_iter-item-iterator.result.s.0 is _ refl b.text h),
    )

pub returns-in_err-d : goal.returns-in_err-d
returns-in_err-d c base s' is h =
    let a = c.args in
    let i = c.loop-item.item-iterator in
    let j = c.next.new.self in
    let x = c.in-Some.item in
    let w = went a.image.now a.tree a.run.stop.0 a.run.«end».0 i c.loop-item.invariant.0 x j c.in-Some.ensures.steps c.in-Some.ensures.goes.keeps in
    let same : c.from_residual.result ≡ Err c.in_err-d.field-0.0 = grind arith in
    rw same (scanning_next a.image.now a.tree base a.run.stop.0 a.run.«end».0 a.run.r.0 is c.loop-item.d (Err c.in_err-d.field-0.0) i.at.0 j.at.0 i.s.0 j.s.0 x.byte
    (c.loop-item.invariant.1 base s' is h) w.below w.next w.text w.byte
    (c.in_err-d.ensures ∙ ap (λ n. scanned_by c.loop-item.d n x.next.0 x.byte) w.here ∙ ap (λ n. scanned_by c.loop-item.d i.at.0 n x.byte) w.behind))

pub loop-item-preserved : goal.loop-item-preserved
loop-item-preserved c =
    let a = c.args in
    let i = c.loop-item.item-iterator in
    let j = c.next.new.self in
    let x = c.in-Some.item in
    let w = went a.image.now a.tree a.run.stop.0 a.run.«end».0 i c.loop-item.invariant.0 x j c.in-Some.ensures.steps c.in-Some.ensures.goes.keeps in (
      w.over,
      λ base s' is h.
          scanning_next a.image.now a.tree base a.run.stop.0 a.run.«end».0 a.run.r.0 is c.loop-item.d (Ok c.in_ok-d.d) i.at.0 j.at.0 i.s.0 j.s.0 x.byte
          (c.loop-item.invariant.1 base s' is h) w.below w.next w.text w.byte
          (c.in_ok-d.ensures ∙ ap (λ n. scanned_by c.loop-item.d n x.next.0 x.byte) w.here ∙ ap (λ n. scanned_by c.loop-item.d i.at.0 n x.byte) w.behind),
    )

pub returns-in_err-at_stop : goal.returns-in_err-at_stop
returns-in_err-at_stop c base s' is h =
    let a = c.args in
    let i = c.loop-item.item-iterator in
    let same : c.from_residual-in_err-at_stop.result ≡ Err c.in_err-at_stop.field-0.0 = grind arith in
    rw same (scanning_end a.image.now a.tree base a.run.stop.0 a.run.«end».0 a.run.r.0 is c.loop-item.d i.at.0 i.s.0 (Err c.in_err-at_stop.field-0.0)
    (c.loop-item.invariant.1 base s' is h) (rw (← c.loop-item.invariant.0.stop_is) c.in-None.ensures.steps) c.in_err-at_stop.ensures)

pub returns : goal.returns
returns c base s' is h =
    let a = c.args in
    let i = c.loop-item.item-iterator in
    scanning_end a.image.now a.tree base a.run.stop.0 a.run.«end».0 a.run.r.0 is c.loop-item.d i.at.0 i.s.0 (Ok c.in_ok-at_stop.field-0)
    (c.loop-item.invariant.1 base s' is h) (rw (← c.loop-item.invariant.0.stop_is) c.in-None.ensures.steps) c.in_ok-at_stop.ensures
