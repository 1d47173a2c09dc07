use Rattle.stages.proofs.ranges.range.Texts.{single_is, start_order}
use Rattle.stages.proofs.ranges.range.single_bit.Goals as goal

pub part_of-s-requires : goal.part_of-s-requires
part_of-s-requires c =
    let a = c.args in
    let r = c.requires.1.1 in
    start_order a.image.now a.tree r.base a.run.stop.0 a.run.end.0 a.run.r.0 c.requires.1.0 _ r.items c.requires.0 r.laid
    c.start_of.ensures

pub returns : goal.returns
returns c = λ base s is h.
    let a = c.args in
    single_is a.image.now a.tree base a.run.stop.0 a.run.end.0 a.run.r.0 s c.start_of.result.0 is
    c.part_of-s.result c.new_s.result c.requires.0 c.requires.1.1.text_fits h c.start_of.ensures
    c.part_of-s.ensures c.new_s.ensures
