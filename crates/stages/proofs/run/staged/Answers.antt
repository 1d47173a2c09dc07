-- `stages::run::staged` meets its contract: the starting value, stages 1 and 2, and the later ones. Assumes nothing.
use Rattle.std.specs.Prelude.{Err}
use Rattle.std.proofs.Common.{◌≡◌, ap, rules, arith}
use Rattle.stages.specs.declared.token_tree.types.Tables.{Tables}
use Rattle.stages.proofs.run.Starting.{start_text, start_is, start_after, start_refused}
use Rattle.stages.proofs.run.Outcomes.{unstarted, read_fits, staged_on, staged_off}
use Rattle.stages.proofs.run.staged.Goals as goal

pub stage2-requires : goal.stage2-requires
stage2-requires c =
    let (fits, room) = c.requires in
    let g = fits.grown in
    (g, c.tables_of-t.ensures, room, start_after c.starting_value.ensures g c.in_ok-s.was c.tables_of-t.ensures)

pub later-requires : goal.later-requires
later-requires c =
    let (fits, room) = c.requires in
    let g = fits.grown in
    let q = c.starting_value.ensures in (
      fits,
      read_fits c.stage2.ensures c.in_ok-s.s (start_is q g c.in_ok-s.was) c.in_ok-stage2.was
          (ap (λ (t : Tables). t.c) c.tables_of-t.ensures) (start_text q g c.in_ok-s.was) (omega arith),
    )

pub returns : goal.returns
returns c how st =
    let q = c.starting_value.ensures in
    staged_on c.stage2.ensures c.in_ok-s.s (start_is q c.requires.0.grown c.in_ok-s.was) c.in_ok-stage2.was how c.args.area.now (c.later.ensures how st)

pub returns-in_err-s : goal.returns-in_err-s
returns-in_err-s c how st =
    let same : c.from_residual.result ≡ Err c.in_err-s.field-0.0 = search rules in
    rw same (unstarted c.args.image.now how c.args.area.now (start_refused c.starting_value.ensures c.requires.0.grown c.in_err-s.was))

pub returns-in_err-stage2 : goal.returns-in_err-stage2
returns-in_err-stage2 c how st =
    let q = c.starting_value.ensures in
    let same : c.from_residual-in_err-stage2.result ≡ Err c.in_err-stage2.field-0.0 = search rules in
    rw same (staged_off c.stage2.ensures c.in_ok-s.s (start_is q c.requires.0.grown c.in_ok-s.was) how c.args.area.now c.in_err-stage2.was)
