use Rattle.std.specs.Prelude.{Ok}
use Rattle.std.proofs.Common.{arith}
use Rattle.stages.proofs.ranges.bound.Lone.{first_ends, parse_many, parse_token, parse_other, parse_group, token_order, group_order, inner_runs}
use Rattle.stages.proofs.ranges.bound.parse_usb.Goals as goal

pub returns-then-run-e : goal.returns-then-run-e
returns-then-run-e c base s is h =
    let a = c.args in
    parse_many a.image.now a.tree base a.run.stop.0 a.run.«end».0 a.run.r.0 s is c.requires.0 h c.record-e.result.kind c.record-e.result.start.0 c.record-e.result.skip
    c.record-e.ensures.0 c.record-e.ensures.1.0 c.record-e.ensures.1.1 c.if-run-e.true

pub token-requires : goal.token-requires
token-requires c =
    let a = c.args in
    let w = c.requires.1.1 in (
      token_order a.image.now a.tree w.base a.run.stop.0 a.run.«end».0 a.run.r.0 c.requires.1.0 w.items c.requires.0 w.laid c.record-e.result.kind
          c.record-e.result.start.0 c.record-e.result.skip c.record-e.ensures.0 c.record-e.ensures.1.0 c.record-e.ensures.1.1 c.if-run-e.false,
      w.text_fits,
    )

pub returns-in-0 : goal.returns-in-0
returns-in-0 c base s is h =
    let a = c.args in
    parse_token a.image.now a.tree base a.run.stop.0 a.run.«end».0 a.run.r.0 s is c.requires.0 h c.record-e.result.kind c.record-e.result.start.0 c.record-e.result.skip
    c.record-e.ensures.0 c.record-e.ensures.1.0 c.record-e.ensures.1.1 c.if-run-e.false c.in-0.is (Ok c.token.result) c.token.ensures

pub returns-in_default : goal.returns-in_default
returns-in_default c base s is h =
    let a = c.args in
    parse_other a.image.now a.tree base a.run.stop.0 a.run.«end».0 a.run.r.0 s is c.requires.0 h c.record-e.result.kind c.record-e.result.start.0 c.record-e.result.skip
    c.record-e.ensures.0 c.record-e.ensures.1.0 c.record-e.ensures.1.1 c.if-run-e.false (λ z. omega (arith, z)) (λ z. omega (arith, z))

pub overflow_add-s : goal.overflow_add-s
overflow_add-s c =
    let e = c.record-e in
    let a = c.args in
    let w = c.requires.1.1 in
    let o = group_order a.image.now a.tree w.base a.run.stop.0 a.run.«end».0 a.run.r.0 c.requires.1.0 w.items c.requires.0 w.laid e.result.kind
    e.result.start.0 e.result.skip e.ensures.0 e.ensures.1.0 e.ensures.1.1 c.if-run-e.false c.in-2.is in
    omega (arith, o, w.text_small)

pub group-requires : goal.group-requires
group-requires c =
    let e = c.record-e in
    let a = c.args in
    inner_runs a.image.now a.tree a.run.stop.0 a.run.«end».0 a.run.r.0 c.requires.1.0 c.requires.0 c.requires.1.1 e.result.kind
    e.result.start.0 e.result.skip e.ensures.0 e.ensures.1.0 e.ensures.1.1 c.if-run-e.false c.in-2.is

pub returns-in-2 : goal.returns-in-2
returns-in-2 c base s is h =
    let e = c.record-e in
    let a = c.args in
    parse_group a.image.now a.tree base a.run.stop.0 a.run.«end».0 a.run.r.0 s is c.requires.0 h e.result.kind e.result.start.0 e.result.skip
    e.ensures.0 e.ensures.1.0 e.ensures.1.1 c.if-run-e.false c.in-2.is c.group.result c.group.ensures

pub overflow_add-run : goal.overflow_add-run
overflow_add-run c =
    let a = c.args in
    let w = c.requires.1.1 in
    let n = first_ends a.image.now a.tree w.base a.run.stop.0 a.run.«end».0 a.run.r.0 c.requires.1.0 w.items c.requires.0 w.laid in
    omega (arith, n, c.record-e.ensures.1.1, w.fits, w.small)

pub overflow_sub-run-in-2 : goal.overflow_sub-run-in-2
overflow_sub-run-in-2 c =
    let e = c.record-e in
    let a = c.args in
    let w = c.requires.1.1 in
    let o = group_order a.image.now a.tree w.base a.run.stop.0 a.run.«end».0 a.run.r.0 c.requires.1.0 w.items c.requires.0 w.laid e.result.kind
    e.result.start.0 e.result.skip e.ensures.0 e.ensures.1.0 e.ensures.1.1 c.if-run-e.false c.in-2.is in
    omega (arith, o)
