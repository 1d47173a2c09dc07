use Rattle.std.proofs.Common.{◌∙◌, sym, ap, refl, arith}
use Rattle.token_stream.specs.counts.Counting.{tally_of, sum_of}
use Rattle.token_stream.proofs.counts.Walk.{walked_turn, walked_over, walked_end, walked_counts}
use Rattle.token_stream.proofs.list.TokenList.counts.Goals as goal

pub returns-then-not-within : goal.returns-then-not-within
returns-then-not-within c =
    let a = c.args.self.now in
    let v = c.loop-k in (
      walked_over a.list.now a.text.now v.k v.d (tally_of v.t) v.invariant.1 (omega arith) c.after-d.ensures.open
          (c.add-t.ensures ∙ ap (sum_of (tally_of v.t)) c.weight.ensures.0) (sym c.within.ensures ∙ c.if-not-within.true),
      refl,
    )

pub loop-k-preserved : goal.loop-k-preserved
loop-k-preserved c =
    let a = c.args.self.now in
    let v = c.loop-k in (
      omega arith,
      walked_turn a.list.now a.text.now v.k v.d (tally_of v.t) v.invariant.1 (omega arith) c.after-d.ensures.open
          (c.add-t.ensures ∙ ap (sum_of (tally_of v.t)) c.weight.ensures.0) (sym c.within.ensures ∙ c.if-not-within.false),
    )

pub returns : goal.returns
returns c =
    let a = c.args.self.now in
    let v = c.loop-k in (
      walked_end a.list.now a.text.now v.k v.d (tally_of v.t) v.invariant.1 (omega arith),
      walked_counts a.list.now a.text.now v.k v.d (tally_of v.t) v.invariant.1 (omega arith),
    )
