-- An integer as a difference of two numbers, so that sums and limits of integers are facts of numbers.
-- Assumes nothing.
use Rattle.std.proofs.Common.{◌≡◌, ℕ, zero, suc, ◌+◌, ◌<◌, ◌≤◌, true, false, ltb, ◌⊎◌, ℤ, pos, negsuc, ◌+ℤ◌, neg_ℤ, ap, inl, inr, arith, ltb-false, ltb-true, le-ltb, lt-ltb}
use mathlib.Core.Option.{none, some}
use lib.IntN.{sub_ℕ}
use Rattle.definition.specs.Numbers.{half128, fits128, narrow}
use Rattle.numbers.proofs.Halves.{by_test}

-- z is p less n
abbrev pub Is : ℤ → ℕ → ℕ → Type 0
Is (pos a) p n = a + n ≡ p
Is (negsuc a) p n = suc (a + p) ≡ n

move : (z : ℤ) (p n q m : ℕ) → Is z p n → p + m ≡ q + n → Is z q m
move (pos a) p n q m h e = omega arith
move (negsuc a) p n q m h e = omega arith

sub_is : (a b : ℕ) → Is (sub_ℕ a b) a b
sub_is a b =
    by_test (ltb a b) (λ e. rw e (let h : a < b = ltb-true a b e in omega arith)) (λ e. rw e (let h : b ≤ a = ltb-false a b e in omega arith))

pub add_is : (z v : ℤ) (p n q m : ℕ) → Is z p n → Is v q m → Is (z +ℤ v) (p + q) (n + m)
add_is (pos a) (pos b) p n q m h k = omega arith
add_is (pos a) (negsuc b) p n q m h k = move (sub_ℕ a (suc b)) a (suc b) (p + q) (n + m) (sub_is a (suc b)) (omega arith)
add_is (negsuc a) (pos b) p n q m h k = move (sub_ℕ b (suc a)) b (suc a) (p + q) (n + m) (sub_is b (suc a)) (omega arith)
add_is (negsuc a) (negsuc b) p n q m h k = omega arith

pub neg_is : (z : ℤ) (p n : ℕ) → Is z p n → Is (neg_ℤ z) n p
neg_is (pos zero) p n h = omega arith
neg_is (pos (suc a)) p n h = omega arith
neg_is (negsuc a) p n h = omega arith

-- two integers that are the same difference
pub same_is : (z v : ℤ) (p n q m : ℕ) → Is z p n → Is v q m → p + m ≡ q + n → z ≡ v
same_is (pos a) (pos b) p n q m h k e = ap pos (omega arith)
same_is (pos a) (negsuc b) p n q m h k e = absurd (clash h k e)
  where
    clash : a + n ≡ p → suc (b + q) ≡ m → p + m ≡ q + n → ⊥
    clash h k e = omega arith
same_is (negsuc a) (pos b) p n q m h k e = absurd (clash h k e)
  where
    clash : suc (a + p) ≡ n → b + m ≡ q → p + m ≡ q + n → ⊥
    clash h k e = omega arith
same_is (negsuc a) (negsuc b) p n q m h k e = ap negsuc (omega arith)

-- a difference within the limits, and one beyond them
pub within_fits : (z : ℤ) (p n : ℕ) → Is z p n → p < n + half128 → n ≤ p + half128 → fits128 z ≡ true
within_fits (pos a) p n h u v = lt-ltb a half128 (omega arith)
within_fits (negsuc a) p n h u v = lt-ltb a half128 (omega arith)

abbrev pub Beyond : ℕ → ℕ → ℕ → Type 0
Beyond H p n = (n + H ≤ p) ⊎ (p + H < n)

pub beyond_fits : (z : ℤ) (p n : ℕ) → Is z p n → Beyond half128 p n → fits128 z ≡ false
beyond_fits (pos a) p n h (inl u) = le-ltb a half128 (omega arith)
beyond_fits (pos a) p n h (inr u) = le-ltb a half128 (omega arith)
beyond_fits (negsuc a) p n h (inl u) = le-ltb a half128 (omega arith)
beyond_fits (negsuc a) p n h (inr u) = le-ltb a half128 (omega arith)

pub narrow_some : (z v : ℤ) → z ≡ v → fits128 v ≡ true → narrow z ≡ some v
narrow_some z v e f = rw (e, f)

pub narrow_none : (z : ℤ) → fits128 z ≡ false → narrow z ≡ none
narrow_none z f = rw f
