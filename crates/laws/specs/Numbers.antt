-- Laws of 128-bit numbers: small ones fit, and differences of natural numbers.
use Rattle.std.specs.Prelude.{◌≡◌, ◌≤◌, ◌<◌, ◌-◌, ◌^◌, ◌-ℤ◌}
use Rattle.std.proofs.Common.{ap, le_trans, arith, lit≤, le-ltb}
use Rattle.definition.specs.Prelude.{ℕ, zero, suc, pos}
use Rattle.definition.specs.Numbers.{half128}

-- widths of literals are far below 2^127
pub small_fits : (n : ℕ) → n ≤ 4096 → n < half128
unfolding half128
small_fits n h = let k : suc n ≤ 4097 = omega arith in le_trans k (lit≤ {m = 4097} {n = 2 ^ 127} tt)

pub difference : (d c : ℕ) → c ≤ d → pos d -ℤ pos c ≡ pos (d - c)
difference d zero h = ap pos (omega arith)
difference d (suc c) h = rw (le-ltb d (suc c) h)
