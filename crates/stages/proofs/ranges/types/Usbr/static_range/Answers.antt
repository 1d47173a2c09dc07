use Rattle.std.proofs.Common.{ap, ◌∙◌}
use Rattle.definition.specs.Prelude.{Option, ℤ}
use Rattle.definition.specs.Ranges.{static_val}
use Rattle.numbers.specs.Value.{option_of}
use Rattle.stages.specs.ranges.Values.{usb_of}
use Rattle.stages.specs.ranges.Checks.{both_of}
use Rattle.stages.proofs.ranges.Bounds.{zipped}
use Rattle.stages.proofs.ranges.types.Usbr.static_range.Goals as goal

pub returns : goal.returns
returns c image t base =
    let a = c.args in
    rw c.zip.ensures (zipped c.static_val.result c.end_val.result
    ∙ ap (λ (s : Option ℤ). both_of s (option_of c.end_val.result)) (c.static_val.ensures image t base)
    ∙ ap (both_of (static_val (usb_of image t base a.self.start))) (c.end_val.ensures image t base))
