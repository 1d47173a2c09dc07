use Rattle.stages.proofs.ranges.signs.Signing.{cut_is}
use Rattle.stages.proofs.ranges.signs.cut_in.Goals as goal

pub returns : goal.returns
returns c base s is h =
    rw (c.cut_of.ensures, c.signs_in.ensures base s is h) (cut_is c.args.image.now c.args.tree c.args.run.r.0 is)
