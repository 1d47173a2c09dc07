-- A component's numbers.
use Rattle.std.proofs.Common.{◌≡◌, ◌+◌, ◌*◌, ◌^◌, ap, arith}
use Rattle.definition.specs.Prelude.{ℕ, List}
use Rattle.definition.specs.Basics.{sum, tab}
use Rattle.definition.specs.Image.{u32_at}
use Rattle.definition.specs.Answer.{width_at}

-- a bound's x: four numbers of 32 bits, as two of 64
pub four : (s : List ℕ) (at : ℕ) → width_at s (at + 16) * 2 ^ 64 + width_at s (at + 8) ≡ sum (tab (λ i. u32_at s (at + 8 + 4 * i) * 2 ^ (32 * i)) 0 4)
unfolding sum tab
four s at =
    let g = u32_at s in
    let e : at + 16 ≡ at + 8 + 8 = omega arith in
    let f : at + 16 + 4 ≡ at + 8 + 12 = omega arith in
    let o : at + 8 ≡ at + 8 + 0 = omega arith in
    omega (arith, ap g e, ap g f, ap g o)
