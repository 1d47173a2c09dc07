use Rattle.std.specs.Prelude.{Err}
use Rattle.std.proofs.Common.{◌≡◌, sym, refl, ◌∙◌, arith}
use Rattle.stages.specs.component.Start.{after_of}
use Rattle.stages.proofs.component.walk.Whole.{stands_start, stands_end, next_standing, all_refused, stands_next}
use Rattle.stages.proofs.component.walk.stage2.Goals as goal

pub loop-i-init : goal.loop-i-init
loop-i-init c =
    let a = c.args in
    let (g, e, room, after) = c.requires in
    stands_start a.image.now a.t (after_of a.start) g a.kept.now e room after

pub turns-requires : goal.turns-requires
turns-requires c =
    let a = c.args in
    let v = c.loop-i in
    let x = next_standing a.image.now a.t (after_of a.start) v.i v.w _ v.invariant c.loop-i-test.true in
    (v.invariant.s, x.nodes, _, sym (c.components_of.ensures ∙ x.size), x.rows, x.fits, x.after_in)

pub returns-in_err-w : goal.returns-in_err-w
returns-in_err-w c =
    let a = c.args in
    let v = c.loop-i in
    let x = next_standing a.image.now a.t (after_of a.start) v.i v.w _ v.invariant c.loop-i-test.true in
    let n = c.components_of.ensures ∙ x.size in
    let some = x.some in
    let same : c.from_residual.result ≡ Err c.in_err-w.field-0.0 = grind arith in
    rw same
    (all_refused a.image.now a.t (after_of a.start) v.i v.w _ v.kept _ v.invariant x
    (c.in_err-w.ensures v.invariant.s x.nodes _ (sym n) (omega (arith, n, some)) x.rows x.after_in) _ refl)

pub loop-i-preserved : goal.loop-i-preserved
loop-i-preserved c =
    let a = c.args in
    let v = c.loop-i in
    let x = next_standing a.image.now a.t (after_of a.start) v.i v.w _ v.invariant c.loop-i-test.true in
    let n = c.components_of.ensures ∙ x.size in
    let some = x.some in
    stands_next a.image.now a.t (after_of a.start) v.i v.w _ v.kept _ v.invariant x
    (c.in_ok-w.ensures v.invariant.s x.nodes _ (sym n) (omega (arith, n, some)) x.rows x.after_in) c.in_ok-w.w refl

pub returns : goal.returns
returns c =
    let a = c.args in
    let v = c.loop-i in
    stands_end a.image.now a.t (after_of a.start) v.i v.w _ v.invariant c.loop-i-test.false
