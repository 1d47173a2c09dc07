use Rattle.std.proofs.Common.{rules, ◌+◌, drop, get_or, ◌∙◌}
use Rattle.stages.proofs.concatenation.stage4.Places.{opposite_to, opposite_place, opposite_found, opposite_none, nowhere, align_here}
use Rattle.stages.proofs.concatenation.stage4.opposite_at.Goals as goal

pub returns-in-Some : goal.returns-in-Some
returns-in-Some c image kept ds d h e =
    let s = c.args in
    let a = (get_or s.heads.now s.i nowhere).running.align in
    rw c.at.ensures
    (opposite_found s.i d (drop (s.i + 1) ds) c.in-Some.j
    (c.in-Some.ensures (opposite_to a) (λ x b k. search rules)
    ∙ opposite_place image kept a d (align_here image kept s.heads.now ds s.i d h c.requires.0 e nowhere) s.heads.now ds (s.i + 1) (s.i + 1) h))

pub returns-in-None : goal.returns-in-None
returns-in-None c image kept ds d h e =
    let s = c.args in
    let a = (get_or s.heads.now s.i nowhere).running.align in
    opposite_none s.i d (drop (s.i + 1) ds)
    (c.in-None.ensures (opposite_to a) (λ x b k. search rules)
    ∙ opposite_place image kept a d (align_here image kept s.heads.now ds s.i d h c.requires.0 e nowhere) s.heads.now ds (s.i + 1) (s.i + 1) h)
