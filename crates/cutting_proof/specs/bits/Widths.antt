-- The known width of a short range.
use Rattle.std.specs.Prelude.{◌≡◌, ◌≤◌}
use Rattle.std.proofs.Common.{add-zero, lt-ltb}
use Rattle.definition.specs.Prelude.{ℕ}
use Rattle.definition.specs.Basics.{same_bytes}
use Rattle.definition.specs.Numbers.{half128, narrow}
use Rattle.definition.specs.Ranges.{static_width}
use Rattle.definition.specs.Component.{ComponentType}
use Rattle.cutting.specs.Statement.{width_of}
use Rattle.laws.specs.Numbers.{small_fits}
use Rattle.answer_facts.specs.fits.Normal.{up_to}

pub width_known : (b : ℕ) (t : ComponentType) (n : ℕ) → n ≤ 4096 → width_of (record { base = b; value = record { c_type = t; range = up_to n } }) ≡ n
unfolding same_bytes
width_known b t n h = rw (width_of, static_width, narrow, add-zero, lt-ltb n half128 (small_fits n h))
