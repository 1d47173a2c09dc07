use mathlib.Core.Path.{◌∙◌}
use native.Mathlib.Omega.{arith}
use Rattle.token_stream.proofs.write.Turns.{here_turn, going_next, going_end}
use Rattle.token_stream.proofs.list.TokenList.put_concatenation.Goals as goal

pub put_component-p-requires : goal.put_component-p-requires
put_component-p-requires c =
    let (cs, h) = c.requires in
    let (from, low) = c.component_start-s.ensures in
    let t = here_turn (c.loop-p.invariant.1 cs h) from low in
    (t.c, t.component)

pub returns-then-s-a : goal.returns-then-s-a
returns-then-s-a c =
    let l = c.loop-p in
    let (from, low) = c.component_start-s.ensures in
    λ cs h. going_end (l.invariant.1 cs h) from low c.put_component-p.ensures (omega arith)

pub loop-p-preserved : goal.loop-p-preserved
loop-p-preserved c =
    let l = c.loop-p in
    let (from, low) = c.component_start-s.ensures in
    let p = c.put_component-p in
    (p.auto.area ∙ l.invariant.0, λ cs h. going_next (l.invariant.1 cs h) from low p.ensures (omega arith))
