use Rattle.std.proofs.Common.{refl, ap, ◌∙◌}
use Rattle.stages.specs.ranges.Signs.{signed_by}
use Rattle.stages.proofs.token_tree.Stepping.{begun, went}
use Rattle.stages.proofs.ranges.signs.Signing.{signing_start, signing_next, signing_end}
use Rattle.stages.proofs.ranges.signs.signs_in.Goals as goal

pub loop-item-init : goal.loop-item-init
loop-item-init c =
    let a = c.args in
    let k = c.new-item-items in
    let b = begun a.image a.tree a.run.r a.run.stop a.run.«end» c.into_iter-item-iterator.result k.result c.into_iter-item-iterator.ensures.into_iter_gives
    k.ensures.is k.ensures.walks k.ensures.text in (
      b.over,
      λ base s' is h. rw b.at (signing_start a.image.now a.tree base a.run.stop.0 a.run.«end».0 a.run.r.0 s' c.into_iter-item-iterator.result.s.0 is _ refl b.text h),
    )

pub loop-item-preserved : goal.loop-item-preserved
loop-item-preserved c =
    let a = c.args in
    let i = c.loop-item.item-iterator in
    let j = c.next.new.self in
    let x = c.in-Some.item in
    let w = went a.image.now a.tree a.run.stop.0 a.run.«end».0 i c.loop-item.invariant.0 x j c.in-Some.ensures.steps c.in-Some.ensures.goes.keeps in (
      w.over,
      λ base s' is h.
          signing_next a.image.now a.tree base a.run.stop.0 a.run.«end».0 a.run.r.0 is c.loop-item.g c.signed-g.result i.at.0 j.at.0 i.s.0 j.s.0 x.byte
          (c.loop-item.invariant.1 base s' is h) w.below w.next w.text w.byte
          (c.signed-g.ensures ∙ ap (λ n. signed_by c.loop-item.g n x.byte) w.here),
    )

pub returns : goal.returns
returns c base s' is h =
    let a = c.args in
    let i = c.loop-item.item-iterator in
    signing_end a.image.now a.tree base a.run.stop.0 a.run.«end».0 a.run.r.0 is c.loop-item.g i.at.0 i.s.0
    (c.loop-item.invariant.1 base s' is h) (rw (← c.loop-item.invariant.0.stop_is) c.in-None.ensures.steps)
