use Rattle.stages.proofs.ranges.sides.Ways.{kept_whole}
use Rattle.stages.proofs.ranges.sides.text_right.Goals as goal

pub returns-in-None : goal.returns-in-None
returns-in-None c image tree base between n =
    let a = c.args in
    kept_whole image tree base a.s.0 a.p.0 a.t.0 a.l a.negative between c.requires.0 c.requires.1 n c.part_of-in-None.result c.new_s.result
    c.in-None.is c.part_of-in-None.ensures c.new_s.ensures
