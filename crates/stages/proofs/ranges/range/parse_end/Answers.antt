use Rattle.std.specs.Prelude.{Err}
use Rattle.std.proofs.Common.{◌≡◌, sym, arith, eqb-true}
use Rattle.std.proofs.lemmas.Bool.{eqb-false}
use Rattle.stages.proofs.ranges.range.Bounds.{end_none, end_refused, end_kept, end_over, end_raised}
use Rattle.stages.proofs.token_tree.Walks.{runs_some}
use Rattle.stages.proofs.ranges.range.parse_end.Goals as goal

pub returns-then-eq : goal.returns-then-eq
returns-then-eq c base s is h =
    let a = c.args in
    end_none a.image.now a.tree base a.run.stop.0 a.run.end.0 a.hi.0 s is a.inclusive (eqb-true a.hi.0 a.run.stop.0 (sym c.if-eq.ensures)) h

pub parse_usb-requires : goal.parse_usb-requires
parse_usb-requires c =
    let a = c.args in
    let apart = eqb-false a.hi.0 a.run.stop.0 (sym c.if-eq.ensures) in
    (runs_some a.image.now a.tree a.run.stop.0 a.run.end.0 a.hi.0 c.requires.0 apart c.requires.1, c.requires)

pub returns-in_err-end : goal.returns-in_err-end
returns-in_err-end c base s is h =
    let a = c.args in
    let apart = eqb-false a.hi.0 a.run.stop.0 (sym c.if-eq.ensures) in
    let some = runs_some a.image.now a.tree a.run.stop.0 a.run.end.0 a.hi.0 c.requires.0 apart c.requires.1 in
    let same : c.from_residual.result ≡ Err c.in_err-end.field-0.0 = grind arith in
    rw same (end_refused a.image.now a.tree base a.run.stop.0 a.run.end.0 a.hi.0 s is some h c.in_err-end.field-0.0 a.inclusive
    (c.in_err-end.ensures base s is h))

pub returns-in_err-raised : goal.returns-in_err-raised
returns-in_err-raised c base s is h =
    let a = c.args in
    let apart = eqb-false a.hi.0 a.run.stop.0 (sym c.if-eq.ensures) in
    let some = runs_some a.image.now a.tree a.run.stop.0 a.run.end.0 a.hi.0 c.requires.0 apart c.requires.1 in
    let k = c.in_ok-end.ensures base s is h in
    let same : c.from_residual-in_err-raised.result ≡ Err c.in_err-raised.field-0.0 = grind arith in
    rw same (end_over a.image.now a.tree base a.run.stop.0 a.run.end.0 a.hi.0 s is some h c.in_ok-end.«end» k a.inclusive c.in_err-raised.field-0.0
    c.if-inclusive.true (c.in_err-raised.ensures a.image.now a.tree base k.held))

pub returns-in_ok-raised : goal.returns-in_ok-raised
returns-in_ok-raised c base s is h =
    let a = c.args in
    let apart = eqb-false a.hi.0 a.run.stop.0 (sym c.if-eq.ensures) in
    let some = runs_some a.image.now a.tree a.run.stop.0 a.run.end.0 a.hi.0 c.requires.0 apart c.requires.1 in
    let k = c.in_ok-end.ensures base s is h in
    end_raised a.image.now a.tree base a.run.stop.0 a.run.end.0 a.hi.0 s is some h c.in_ok-end.«end» k a.inclusive c.in_ok-raised.field-0
    c.if-inclusive.true (c.in_ok-raised.ensures a.image.now a.tree base k.held)

pub returns-else-inclusive : goal.returns-else-inclusive
returns-else-inclusive c base s is h =
    let a = c.args in
    let apart = eqb-false a.hi.0 a.run.stop.0 (sym c.if-eq.ensures) in
    let some = runs_some a.image.now a.tree a.run.stop.0 a.run.end.0 a.hi.0 c.requires.0 apart c.requires.1 in
    end_kept a.image.now a.tree base a.run.stop.0 a.run.end.0 a.hi.0 s is some h c.in_ok-end.«end» (c.in_ok-end.ensures base s is h) a.inclusive
    c.if-inclusive.false
