-- Widths: numbers that fit 64 bits, and a number of 128 bits without its sign.
use Rattle.std.specs.Prelude.{◌+◌, ◌*◌, ◌-◌, ◌^◌}
use Rattle.std.proofs.Common.{◌≡◌, ◌<◌, ◌≤◌, arith, le-ltb, lt-ltb}
use Rattle.definition.specs.Prelude.{ℕ, none, some, ltb, nat_abs}
use Rattle.laws.specs.Tests.{by_test}
use Rattle.numbers.specs.Value.{value_of}
use Rattle.numbers.specs.declared.I128.{I128}
use Rattle.stages.specs.concatenation.width.Fitting.{fitting}

pub fits : (n : ℕ) → n < 2 ^ 64 → some n ≡ fitting n
fits n h = rw (lt-ltb n (2 ^ 64) h)

pub exceeds : (n : ℕ) → 2 ^ 64 ≤ n → none ≡ fitting n
exceeds n h = rw (le-ltb n (2 ^ 64) h)

-- nat_abs of two halves
pub low_only : (x : I128) → x.high ≡ 0 → nat_abs (value_of x) ≡ x.low
unfolding value_of
low_only x h = rw h (omega arith)

large : (k l : ℕ) → 1 ≤ k → 2 ^ 64 ≤ k * 2 ^ 64 + l
large k l h = omega arith

pub high_part : (x : I128) → 0 < x.high → x.high < 2 ^ 64 - 1 → 2 ^ 64 ≤ nat_abs (value_of x)
unfolding value_of
high_part x h g =
    by_test (ltb x.high (2 ^ 63)) (λ t. rw t (large x.high x.low h))
    (λ t. rw t (omega (arith, large (2 ^ 64 - 1 - x.high) (2 ^ 64 - 1 - x.low) (omega arith))))

pub negative : (x : I128) → x.high ≡ 2 ^ 64 - 1 → nat_abs (value_of x) ≡ 2 ^ 64 - 1 - x.low + 1
unfolding value_of
negative x h = rw h (omega arith)
