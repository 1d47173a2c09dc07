use Rattle.std.proofs.Common.{◌||◌, sym, ap, ◌∙◌}
use Rattle.stages.proofs.ranges.literal.Whole.{filler_passed, filler_open}
use Rattle.stages.proofs.ranges.types.Usbr.simplify_filler.Goals as goal

pub returns-then-is_some-is_guaranteed_zero : goal.returns-then-is_some-is_guaranteed_zero
returns-then-is_some-is_guaranteed_zero c image t base m =
    let z = c.is_guaranteed_zero in
    filler_passed image t base c.args.self z.result (z.ensures image t base)
    (ap (λ b. b || z.result) (sym c.is_some.ensures) ∙ c.if-is_some-is_guaranteed_zero.true) c.args.width m

pub returns-else-is_some-is_guaranteed_zero : goal.returns-else-is_some-is_guaranteed_zero
returns-else-is_some-is_guaranteed_zero c image t base m =
    let z = c.is_guaranteed_zero in
    filler_open image t base c.args.self z.result (z.ensures image t base)
    (ap (λ b. b || z.result) (sym c.is_some.ensures) ∙ c.if-is_some-is_guaranteed_zero.false)
