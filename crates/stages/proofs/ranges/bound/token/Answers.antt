use Rattle.std.proofs.Common.{rules, arith}
use Rattle.stages.proofs.ranges.bound.Lone.{lone_sign, lone_text}
use Rattle.stages.proofs.ranges.bound.token.Goals as goal

pub returns-in-43 : goal.returns-in-43
returns-in-43 c base stop r i h =
    let a = c.args in
    lone_sign a.image.now a.tree base stop a.«end».0 r a.s.0 i h c.single.result c.single.ensures c.zero.result c.zero.ensures
    (omega (arith, c.requires.1)) c.in-43.is

pub returns-in_default : goal.returns-in_default
returns-in_default c base stop r i h =
    let a = c.args in
    lone_text a.image.now a.tree base stop a.«end».0 r a.s.0 i h c.single.result c.single.ensures c.part_of.result c.new_s.result
    c.part_of.ensures c.new_s.ensures c.requires.0 c.requires.1 (search rules) (search rules)
