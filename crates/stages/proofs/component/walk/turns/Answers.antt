use Rattle.std.specs.Prelude.{Err, ◌&&◌}
use Rattle.std.proofs.Common.{◌≡◌, ◌+◌, sym, refl, subst, arith}
use Rattle.definition.specs.Prelude.{eqb}
use Rattle.definition.specs.Basics.{is_empty}
use Rattle.stages.specs.component.Start.{after_of}
use Rattle.stages.proofs.component.walk.Going.{Stands, next_standing, fits_here, stands_next, going_start, going_end, going_refused, going_next}
use Rattle.stages.proofs.component.walk.turns.Goals as goal

pub loop-j-init : goal.loop-j-init
loop-j-init c =
    let a = c.args in
    let (s, ns, ms, e, h, f, g) = c.requires in (
      record { s = s; rest = ns; ms = ms; count = omega (arith, e); left = record { rows = h; after_in = g }; fits = f },
      λ s ns ms e h g. going_start a.image.now a.t (after_of a.start) a.i s ns ms a.from a.kept.now (record { rows = h; after_in = g }),
    )

pub turn-requires : goal.turn-requires
turn-requires c =
    let a = c.args in
    let v = c.loop-j in
    let st = v.invariant.0 in
    let x = next_standing a.image.now a.t (after_of a.start) a.i a.n v.j _ v.w st c.loop-j-test.true in
    (st.s, x.node, _, eqb a.i 0 && is_empty x.others, x.rows, fits_here a.image.now a.t (after_of a.start) a.i a.n v.j _ v.w st x, x.after_is)

pub returns-in_err-w : goal.returns-in_err-w
returns-in_err-w c = λ s ns ms z some h g.
    let a = c.args in
    let v = c.loop-j in
    let k = c.loop-j-test.true in
    let same : c.from_residual.result ≡ Err c.in_err-w.field-0.0 = grind arith in
    rw same
    (going_refused a.image.now a.t (after_of a.start) a.i s ns ms a.from a.kept.now v.j v.w _ v.kept _ (v.invariant.1 s ns ms z h g)
    (omega (arith, k, z)) c.in_err-w.ensures _ refl)

pub loop-j-preserved : goal.loop-j-preserved
loop-j-preserved c =
    let a = c.args in
    let v = c.loop-j in
    let st = v.invariant.0 in
    let k = c.loop-j-test.true in
    let x = next_standing a.image.now a.t (after_of a.start) a.i a.n v.j _ v.w st k in
    let m = c.in_ok-w.w in
    let room = (fits_here a.image.now a.t (after_of a.start) a.i a.n v.j _ v.w st x).room_fits in (
      subst (λ r. Stands a.image.now a.t (after_of a.start) a.i a.n (v.j + 1) r m) (sym c.turn.auto.kept)
          (stands_next a.image.now a.t (after_of a.start) a.i a.n v.j _ v.w m st x _ v.kept _
          (c.in_ok-w.ensures st.s x.node _ (eqb a.i 0 && is_empty x.others) x.rows x.after_is)),
      λ s ns ms z h g.
          going_next a.image.now a.t (after_of a.start) a.i s ns ms a.from a.kept.now v.j v.w _ v.kept _ (v.invariant.1 s ns ms z h g)
          (omega (arith, k, z)) c.in_ok-w.ensures m refl (omega (arith, room)),
    )

pub returns : goal.returns
returns c = λ s ns ms z some h g.
    let a = c.args in
    let v = c.loop-j in
    let k = c.loop-j-test.false in
    going_end a.image.now a.t (after_of a.start) a.i s ns ms a.from a.kept.now v.j v.w v.kept (v.invariant.1 s ns ms z h g)
    (omega (arith, k, z))
