-- `U128::step` meets its contract: the product by halves, and whether anything is over.
use Rattle.std.proofs.Common.{rules}
use Rattle.numbers.proofs.parse.Product.{step_fits, step_past}
use Rattle.numbers.proofs.parse.halves.U128.step.Goals as goal

pub returns-then-high-ne0 : goal.returns-then-high-ne0
returns-then-high-ne0 c = step_past _ _ _ _ _ _ _ _ c.mul_small-low.ensures.0 c.mul_small-high.ensures.0 c.if-high-ne0.true

pub returns : goal.returns
returns c =
    step_fits _ _ _ _ _ _ _ _ c.mul_small-low.ensures.0 c.mul_small-high.ensures.0 c.if-high-ne0.false (search rules) (search rules)
