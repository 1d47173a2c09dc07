-- A number of 128 bits in two's complement: its sign and its size.
use Rattle.std.specs.Prelude.{◌+◌, ◌*◌, ◌-◌, ◌^◌, ◌∷◌}
use mathlib.Core.Path.{◌≡◌, ap}
use Prim.Native.Nat.{◌≤◌, ◌<◌}
use native.Mathlib.Nat.{suc-mul, mul-le-mul_right}
use native.Mathlib.Omega.{arith}
use borrow.Author.Tests.{lt-ltb, le-ltb}
use Rattle.definition.specs.Prelude.{ℕ, suc}
use Rattle.definition.specs.Numbers.{half128}
use Rattle.definition.specs.Answer.{untwos}
use Rattle.definition.specs.Listing.{decimal, signed}

within : (H B h l : ℕ) → h < H → l < B → h * B + l < H * B
within H B h l p q = omega (arith, mul-le-mul_right B p, suc-mul h B, q)

from : (H B h l : ℕ) → H ≤ h → H * B ≤ h * B + l
from H B h l k = omega (arith, mul-le-mul_right B k)

-- below 2^127 it is the number itself
pub plus_of : (h l : ℕ) → h < 2 ^ 63 → l < 2 ^ 64 → 43 ∷ decimal (h * 2 ^ 64 + l) ≡ signed (untwos (h * 2 ^ 64 + l))
unfolding half128
plus_of h l p q = rw (lt-ltb (h * 2 ^ 64 + l) half128 (within (2 ^ 63) (2 ^ 64) h l p q))

-- from 2^127 on it stands for itself less 2^128
complement : (T n m : ℕ) → m + n ≡ T → n < T → m ≡ suc (T - suc n)
complement T n m e h = omega arith

pub minus_of : (h l m : ℕ) → 2 ^ 63 ≤ h → h < 2 ^ 64 → l < 2 ^ 64 → m + (h * 2 ^ 64 + l) ≡ 2 ^ 64 * 2 ^ 64 → 45 ∷ decimal m ≡ signed (untwos (h * 2 ^ 64 + l))
unfolding half128
minus_of h l m k p q e =
    let n = h * 2 ^ 64 + l in
    rw (le-ltb n half128 (from (2 ^ 63) (2 ^ 64) h l k))
    (ap (λ (x : ℕ). 45 ∷ decimal x) (complement (2 ^ 64 * 2 ^ 64) n m e (within (2 ^ 64) (2 ^ 64) h l p q)))
