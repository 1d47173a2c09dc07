use Rattle.std.proofs.Common.{◌∙◌, ne_eqb}
use Rattle.stages.proofs.ranges.Bounds.{zero_yes, zero_no}
use Rattle.stages.proofs.ranges.types.Usb.is_guaranteed_zero.Goals as goal

pub returns-then-self-eq0 : goal.returns-then-self-eq0
returns-then-self-eq0 c image t base = zero_yes image t base c.args.self c.is_zero.result c.if-self-eq0.true c.is_zero.ensures

pub returns-else-self-eq0 : goal.returns-else-self-eq0
returns-else-self-eq0 c image t base = ne_eqb c.args.self.s.len 0 c.if-self-eq0.false ∙ zero_no image t base c.args.self c.if-self-eq0.false
