use Rattle.std.proofs.Common.{sym, ◌∙◌}
use Rattle.stages.proofs.concatenation.Places.{place_here, place_next, place_end}
use Rattle.stages.proofs.concatenation.position.position.Goals as goal

pub returns-then-test : goal.returns-then-test
returns-then-test g c p h =
    let i = c.index-items-i in
    place_here p c.args.n c.loop-i.i c.args.items.now i.result c.loop-i-test.true i.is (sym (h i.result c.test.result c.test.ensures) ∙ c.if-test.true)
    ∙ c.loop-i.invariant p h

pub loop-i-preserved : goal.loop-i-preserved
loop-i-preserved g c p h =
    let i = c.index-items-i in
    place_next p c.args.n c.loop-i.i c.args.items.now i.result c.loop-i-test.true i.is (sym (h i.result c.test.result c.test.ensures) ∙ c.if-test.false)
    ∙ c.loop-i.invariant p h

pub returns : goal.returns
returns g c p h = place_end p c.args.n c.loop-i.i c.args.items.now c.loop-i-test.false ∙ c.loop-i.invariant p h
