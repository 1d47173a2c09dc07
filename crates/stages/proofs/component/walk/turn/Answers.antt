use Rattle.std.specs.Prelude.{Ok, Err}
use Rattle.std.proofs.Common.{◌+◌, refl, ap, ◌∙◌}
use Rattle.errors.specs.Refused.{refused_as, result_of}
use Rattle.definition.specs.Image.{bytes_for}
use Rattle.stages.specs.component.Start.{after_of}
use Rattle.stages.specs.declared.component.read.Unread.TheVariants as U
use Rattle.stages.proofs.component.walk.Cutting.{cut_of}
use Rattle.stages.proofs.component.walk.Turning.{rounded, turn_first, turn_second, turn_kept, staged_read}
use Rattle.stages.proofs.component.walk.Standing.{run_asked, width_is, width_small}
use Rattle.stages.proofs.component.walk.turn.Goals.{in-Ok, in-Err-Second}
use Rattle.stages.proofs.component.walk.turn.Goals as goal

pub run_of-run-requires : goal.run_of-run-requires
run_of-run-requires c =
    let a = c.args in
    let (s, n, ns, b, h, f, e) = c.requires in
    run_asked a.image.now a.t a.w.k.0 a.w.r.0 s a.w.l _ _ _ n ns h f.tables c.records_of.result c.records_of.ensures

pub read-requires : goal.read-requires
read-requires c =
    let a = c.args in
    let (s, n, ns, b, h, f, e) = c.requires in
    let (u, z) = cut_of a.image.now a.t a.w.k.0 a.w.r.0 s a.w.l _ _ _ (after_of a.start) n ns b h f.tables e c.records_of.result
    c.run_of-run.result c.without_start.result c.records_of.ensures c.run_of-run.ensures c.without_start.ensures in (
      record {
        from = refl;
        short = width_small a.image.now a.t a.w.k.0 a.w.r.0 s a.w.l n ns h c.width_of-width.result c.width_of-width.ensures;
        inside = f.literals;
      },
      u.some,
      (u.from, u.runs),
    )

pub returns-in-Err-First : goal.returns-in-Err-First
returns-in-Err-First c = λ s n ns b h e.
    let a = c.args in
    let f = c.requires.5 in
    let (u, z) = cut_of a.image.now a.t a.w.k.0 a.w.r.0 s a.w.l _ _ _ (after_of a.start) n ns b h f.tables e c.records_of.result
    c.run_of-run.result c.without_start.result c.records_of.ensures c.run_of-run.ensures c.without_start.ensures in
    turn_first a.image.now a.t a.i a.j b s n a.w a.kept.now c.in-Err-First.reason c.at.result
    (staged_read a.image.now a.t a.w.k.0 a.w.r.0 s a.w.l c.width_of-width.result n ns b (Err (U.First c.in-Err-First.reason)) h c.width_of-width.ensures
    (rw c.in-Err-First.field-0-is at (c.in-Err-First.ensures s u.from _ u.laid)))
    (ap (refused_as {A = Unit}) c.at.ensures)

pub returns : goal.returns
returns c = λ s n ns b h e.
    let a = c.args in
    let f = c.requires.5 in
    let room = f.room_fits in
    let (u, z) = cut_of a.image.now a.t a.w.k.0 a.w.r.0 s a.w.l _ _ _ (after_of a.start) n ns b h f.tables e c.records_of.result
    c.run_of-run.result c.without_start.result c.records_of.ensures c.run_of-run.ensures c.without_start.ensures in
    let width = width_is a.image.now a.t a.w.k.0 a.w.r.0 s a.w.l n ns h c.width_of-width.result c.width_of-width.ensures in
    let l = ap (λ m. a.w.l + m) (c.div_ceil.ensures ∙ rounded c.width_of-width.result ∙ ap bytes_for width) in
    elim c.match-read.branch [
      | in-Ok w ↦
          rw (w.kept-is, w.room.ensures)
          (turn_kept a.image.now a.t a.i a.j b s n a.w a.kept.now w.in-Ok.c _
          (staged_read a.image.now a.t a.w.k.0 a.w.r.0 s a.w.l c.width_of-width.result n ns b (Ok w.in-Ok.c) h c.width_of-width.ensures
          (w.in-Ok.ensures s u.from _ u.laid))
          (record { k = refl; r_is = z; l = l }) (ap result_of w.second-is))
      | in-Err-Second w ↦
          rw w.kept-is
          (turn_second a.image.now a.t a.i a.j b s n a.w a.kept.now w.in-Err-Second.reason w.at-in-Err-Second.result _
          (staged_read a.image.now a.t a.w.k.0 a.w.r.0 s a.w.l c.width_of-width.result n ns b (Err (U.Second w.in-Err-Second.reason)) h c.width_of-width.ensures
          (rw w.in-Err-Second.field-0-is at (w.in-Err-Second.ensures s u.from _ u.laid)))
          (record { k = refl; r_is = z; l = l })
          (w.second-is ∙ w.and-second.ensures) w.at-in-Err-Second.ensures)
    ]
