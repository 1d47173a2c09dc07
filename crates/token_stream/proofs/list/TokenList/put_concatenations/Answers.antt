use mathlib.Core.Path.{◌∙◌}
use native.Mathlib.Omega.{arith}
use Rattle.token_stream.proofs.write.Rounds.{here_round, steps, going_next, going_end}
use Rattle.token_stream.proofs.list.TokenList.put_concatenations.Goals as goal

pub put_concatenation-q-requires : goal.put_concatenation-q-requires
put_concatenation-q-requires c =
    let (cc, h) = c.requires in
    let t = here_round (c.loop-q.invariant.1 cc h) c.concatenation_end-b.ensures in
    (t.c, t.concatenation)

pub overflow_sub-q : goal.overflow_sub-q
overflow_sub-q c =
    let (cc, h) = c.requires in
    let b = c.concatenation_end-b.ensures in
    (steps (c.loop-q.invariant.1 cc h) b c.put_concatenation-q.ensures).grows

pub overflow_cast-q : goal.overflow_cast-q
overflow_cast-q c =
    let (cc, h) = c.requires in
    let b = c.concatenation_end-b.ensures in
    let s = steps (c.loop-q.invariant.1 cc h) b c.put_concatenation-q.ensures in
    omega (arith, s.grows, s.low)

pub returns-then-b-n : goal.returns-then-b-n
returns-then-b-n c =
    let n = c.count-n.ensures in
    λ cc h.
    going_end (c.loop-q.invariant.1 cc h) c.concatenation_end-b.ensures c.put_concatenation-q.ensures
    c.put_u32.ensures (omega (arith, c.if-b-n.true, n))

pub overflow_add-a : goal.overflow_add-a
overflow_add-a c =
    let (cc, h) = c.requires in
    let b = c.concatenation_end-b.ensures in
    let s = steps (c.loop-q.invariant.1 cc h) b c.put_concatenation-q.ensures in
    omega (arith, s.stops, h.listed.few)

pub loop-q-smaller : goal.loop-q-smaller
loop-q-smaller c =
    let (cc, h) = c.requires in
    let n = c.count-n.ensures in
    let b = c.concatenation_end-b.ensures in
    let s = steps (c.loop-q.invariant.1 cc h) b c.put_concatenation-q.ensures in
    omega (arith, s.order, s.stops, c.if-b-n.false, n)

pub loop-q-preserved : goal.loop-q-preserved
loop-q-preserved c =
    let n = c.count-n.ensures in
    let l = c.loop-q in
    let b = c.concatenation_end-b.ensures in
    let q = c.put_concatenation-q in
    let put = c.put_u32 in (
      put.auto.area ∙ q.auto.area ∙ l.invariant.0,
      λ cc h.
          let s = steps (l.invariant.1 cc h) b q.ensures in
          going_next (l.invariant.1 cc h) b q.ensures put.ensures (omega (arith, s.stops, c.if-b-n.false, n)),
    )
