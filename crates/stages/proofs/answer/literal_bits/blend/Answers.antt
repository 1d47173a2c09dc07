-- The three parts of the byte, by powers of two. Their sum is below 256, so each is.
use Rattle.stages.proofs.answer.literal_bits.blend.Goals as goal

pub returns : goal.returns
returns c = rw (c.two_to.ensures.0, c.two_to-high.ensures.0, c.two_to-low.ensures.0)
