-- Turn after turn, by the laws of proofs/check/Whole.
use Rattle.std.proofs.Common.{◌≡◌, ℕ, ◌+◌, ◌*◌, Err, List, ap, arith}
use Rattle.errors.specs.Reasoned.{reasoned}
use Rattle.definition.specs.Image.{u32_at, tables, record_count}
use Rattle.image.proofs.check.Whole.{own, sum_goes, component_stops, component_goes, components_end}
use Rattle.image.proofs.check.records.components_check.Goals as goal

-- the number of records that was read is component k's
counted : (image : List ℕ) (at k n : ℕ) → at ≡ (tables image).components → n ≡ u32_at image (at + 8 * k) → n ≡ record_count image k
counted image at k n p e = rw (← p) e

pub check_in-requires : goal.check_in-requires
check_in-requires c =
    let e = counted _ _ c.loop-k.k _ c.requires.2 c.four_at-count.ensures in
    let room = sum_goes _ _ _ _ _ c.loop-k-test.true e _ _ c.loop-k.invariant.0 c.requires.4 in
    (c.requires.0, room.0, omega arith)

pub returns-in_err-check_in : goal.returns-in_err-check_in
returns-in_err-check_in c =
    let e = counted _ _ c.loop-k.k _ c.requires.2 c.four_at-count.ensures in
    let said = own _ c.args.p _ _ (reasoned c.check_in.result) c.requires.1 c.check_in.ensures in
    let same : c.from_residual.result ≡ Err c.in_err-check_in.field-0.0 = grind arith in
    rw same
    (component_stops _ _ _ _ _ c.loop-k-test.true e _ _ _ said c.loop-k.invariant.1 _ (ap reasoned c.in_err-check_in.was))

pub overflow_add-from : goal.overflow_add-from
overflow_add-from c =
    let e = counted _ _ c.loop-k.k _ c.requires.2 c.four_at-count.ensures in
    let room = sum_goes _ _ _ _ _ c.loop-k-test.true e _ _ c.loop-k.invariant.0 c.requires.4 in
    omega (arith, room.0)

pub loop-k-preserved : goal.loop-k-preserved
loop-k-preserved c =
    let e = counted _ _ c.loop-k.k _ c.requires.2 c.four_at-count.ensures in
    let room = sum_goes _ _ _ _ _ c.loop-k-test.true e _ _ c.loop-k.invariant.0 c.requires.4 in
    let said = own _ c.args.p _ _ (reasoned c.check_in.result) c.requires.1 c.check_in.ensures in
    (room.1, component_goes _ _ _ _ _ c.loop-k-test.true e _ _ _ said c.loop-k.invariant.1 (ap reasoned c.in_ok-check_in.was))

pub returns : goal.returns
returns c = components_end _ _ _ _ _ _ c.loop-k-test.false c.loop-k.invariant.1
