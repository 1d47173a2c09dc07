use Rattle.std.proofs.Common.{sym, ap, ◌∙◌}
use Rattle.stages.specs.component.Start.{colon_by}
use Rattle.stages.proofs.token_tree.Stepping.{begun, went}
use Rattle.stages.proofs.component.start.Colons.{seeing_start, seeing_end, seeing_colon, seeing_other, seeing_found}
use Rattle.stages.proofs.component.start.colon_in.Goals as goal

pub loop-item-init : goal.loop-item-init
loop-item-init c =
    let a = c.args in
    let k = c.new-item-items in
    let b = begun a.image a.tree a.run.r a.run.stop a.run.«end» c.into_iter-item-iterator.result k.result c.into_iter-item-iterator.ensures.into_iter_gives
    k.ensures.is k.ensures.walks k.ensures.text in (
      b.over,
      λ base s' is h. rw b.at (seeing_start a.image.now a.tree base a.run.stop.0 a.run.«end».0 a.run.r.0 is s' c.into_iter-item-iterator.result.s.0 h b.text),
    )

pub returns-then-is_some : goal.returns-then-is_some
returns-then-is_some c base s' is h =
    let a = c.args in
    let i = c.loop-item.item-iterator in
    let j = c.next.new.self in
    let x = c.in-Some.item in
    let w = went a.image.now a.tree a.run.stop.0 a.run.«end».0 i c.loop-item.invariant.0 x j c.in-Some.ensures.steps c.in-Some.ensures.goes.keeps in
    seeing_found a.image.now a.tree base a.run.stop.0 a.run.«end».0 a.run.r.0 i.at.0 i.s.0 j.at.0 j.s.0 x.byte w.below w.next w.text w.byte is c.loop-item.seen
    (c.loop-item.invariant.1 base s' is h) c.if-colon.false (sym c.is_some.ensures ∙ c.if-is_some.true)

pub loop-item-preserved-then-colon : goal.loop-item-preserved-then-colon
loop-item-preserved-then-colon c =
    let a = c.args in
    let i = c.loop-item.item-iterator in
    let j = c.next.new.self in
    let x = c.in-Some.item in
    let w = went a.image.now a.tree a.run.stop.0 a.run.«end».0 i c.loop-item.invariant.0 x j c.in-Some.ensures.steps c.in-Some.ensures.goes.keeps in (
      w.over,
      λ base s' is h.
          seeing_colon a.image.now a.tree base a.run.stop.0 a.run.«end».0 a.run.r.0 i.at.0 i.s.0 j.at.0 j.s.0 x.byte w.below w.next w.text w.byte is c.loop-item.seen _
          (c.loop-item.invariant.1 base s' is h) c.if-colon.true
          (c.opened-seen.ensures ∙ ap (λ n. colon_by c.loop-item.seen (record { 0 = n })) w.here),
    )

pub loop-item-preserved : goal.loop-item-preserved
loop-item-preserved c =
    let a = c.args in
    let i = c.loop-item.item-iterator in
    let j = c.next.new.self in
    let x = c.in-Some.item in
    let w = went a.image.now a.tree a.run.stop.0 a.run.«end».0 i c.loop-item.invariant.0 x j c.in-Some.ensures.steps c.in-Some.ensures.goes.keeps in (
      w.over,
      λ base s' is h.
          seeing_other a.image.now a.tree base a.run.stop.0 a.run.«end».0 a.run.r.0 i.at.0 i.s.0 j.at.0 j.s.0 x.byte w.below w.next w.text w.byte is c.loop-item.seen
          (c.loop-item.invariant.1 base s' is h) c.if-colon.false (sym c.is_some.ensures ∙ c.if-is_some.false),
    )

pub returns : goal.returns
returns c base s' is h =
    let a = c.args in
    let i = c.loop-item.item-iterator in
    seeing_end a.image.now a.tree base a.run.stop.0 a.run.«end».0 a.run.r.0 is c.loop-item.seen i.at.0 i.s.0
    (c.loop-item.invariant.1 base s' is h) (rw (← c.loop-item.invariant.0.stop_is) c.in-None.ensures.steps)
