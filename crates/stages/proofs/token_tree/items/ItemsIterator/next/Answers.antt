use Rattle.std.proofs.Common.{sym, refl, arith}
use Rattle.std.proofs.lemmas.Bool.{eqb-false}
use Rattle.stages.proofs.token_tree.Walks.{runs_some, runs_next, record_fits}
use Rattle.stages.proofs.token_tree.items.ItemsIterator.next.Goals as goal

pub behind-next-requires : goal.behind-next-requires
behind-next-requires c =
    let i = c.args.self.now in
    let l = runs_some i.image.now i.tree i.stop.0 i.end.0 i.at.0 i.s.0 (eqb-false i.at.0 i.stop.0 (sym c.if-eq.ensures)) c.requires in
    record_fits i.image.now i.tree i.stop.0 i.end.0 i.at.0 i.s.0 c.requires l

pub start_or-t-requires : goal.start_or-t-requires
start_or-t-requires c =
    let i = c.args.self.now in
    let l = runs_some i.image.now i.tree i.stop.0 i.end.0 i.at.0 i.s.0 (eqb-false i.at.0 i.stop.0 (sym c.if-eq.ensures)) c.requires in
    let n = runs_next i.image.now i.tree i.stop.0 i.end.0 i.at.0 i.s.0 c.behind-next.result.0 _ c.requires l c.behind-next.ensures refl in
    (n.stop_order, λ k. (record_fits i.image.now i.tree i.stop.0 i.end.0 c.behind-next.result.0 _ n.runs k).0)

pub single-byte-requires : goal.single-byte-requires
single-byte-requires c =
    let i = c.args.self.now in
    let l = runs_some i.image.now i.tree i.stop.0 i.end.0 i.at.0 i.s.0 (eqb-false i.at.0 i.stop.0 (sym c.if-eq.ensures)) c.requires in
    let n = runs_next i.image.now i.tree i.stop.0 i.end.0 i.at.0 i.s.0 c.behind-next.result.0 c.start_or-t.result.0 c.requires l
    c.behind-next.ensures c.start_or-t.ensures in
    let r = n.runs in
    (n.text_order, omega (arith, n.text_fits, r.text_fits))

pub returns-clause-steps : goal.returns-clause-steps
returns-clause-steps c =
    let i = c.args.self.now in
    record {
      below = runs_some i.image.now i.tree i.stop.0 i.end.0 i.at.0 i.s.0 (eqb-false i.at.0 i.stop.0 (sym c.if-eq.ensures)) c.requires;
      at = refl;
      next = c.behind-next.ensures;
      byte = c.single-byte.ensures;
      left = refl;
      text = c.start_or-t.ensures;
    }

pub returns-clause-goes : goal.returns-clause-goes
returns-clause-goes c =
    let i = c.args.self.now in
    let l = runs_some i.image.now i.tree i.stop.0 i.end.0 i.at.0 i.s.0 (eqb-false i.at.0 i.stop.0 (sym c.if-eq.ensures)) c.requires in
    let n = runs_next i.image.now i.tree i.stop.0 i.end.0 i.at.0 i.s.0 c.behind-next.result.0 c.start_or-t.result.0 c.requires l
    c.behind-next.ensures c.start_or-t.ensures in
    record { on = λ f. (n.runs, f, omega (arith, n.order, n.stop_order)); keeps = n.runs; rests = λ f. tt }
