-- The digits that are left to write.
use Rattle.std.specs.Prelude.{◌+◌, ◌-◌, ◌/◌, ◌%◌, ◌^◌, ◌∷◌, ◌++◌}
use mathlib.Core.Path.{◌≡◌, refl, sym, ◌∙◌}
use mathlib.Core.List.{append_assoc}
use Prim.Native.Nat.{◌≤◌, ◌<◌}
use native.Mathlib.Omega.{arith}
use borrow.Author.Tests.{ltb-true}
use Rattle.laws.specs.Tests.{by_test}
use Rattle.definition.specs.Prelude.{ℕ, zero, suc, true, false, List, [], length, ltb}
use Rattle.definition.specs.Listing.{decimal_onto}
use Rattle.listing.specs.writer.Writes.{Writes, ◌⨾◌, read_as, writes_none}
use Rattle.listing.specs.declared.writer.Writer.{Writer}

-- ---- the digits in front of others

module _ (d n : ℕ) (s : List ℕ) where
  one_digit : ltb n 10 ≡ true → decimal_onto (suc d) n s ≡ (48 + n) ∷ s
  unfolding decimal_onto
  one_digit t = rw (t, decimal_onto)

  a_digit : ltb n 10 ≡ false → decimal_onto (suc d) n s ≡ decimal_onto d (n / 10) ((48 + n % 10) ∷ s)
  unfolding decimal_onto
  a_digit t = rw (t, decimal_onto)

pub digits_onto : (d n : ℕ) (s : List ℕ) → decimal_onto d n s ≡ decimal_onto d n [] ++ s
unfolding decimal_onto
digits_onto zero n s = refl
digits_onto (suc d) n s =
    by_test (ltb n 10) (λ t. rw (one_digit d n s t, one_digit d n [] t)) λ t.
    a_digit d n s t
    ∙ (digits_onto d (n / 10) ((48 + n % 10) ∷ s)
    ∙ sym (rw (a_digit d n [] t, digits_onto d (n / 10) ((48 + n % 10) ∷ []), append_assoc)))

pub last_digit : (d n : ℕ) → 1 ≤ d → ltb n 10 ≡ true → (48 + n % 10) ∷ [] ≡ decimal_onto d n []
last_digit zero n h t = absurd (omega arith)
last_digit (suc d) n h t =
    let e : 48 + n % 10 ≡ 48 + n = omega (arith, ltb-true n 10 t) in
    rw e (sym (one_digit d n [] t))

pub more_digits : (d n : ℕ) → 1 ≤ d → ltb n 10 ≡ false → decimal_onto (d - 1) (n / 10) [] ++ ((48 + n % 10) ∷ []) ≡ decimal_onto d n []
more_digits zero n h t = absurd (omega arith)
more_digits (suc d) n h t =
    let e : suc d - 1 ≡ d = omega arith in
    rw e (sym (a_digit d n [] t ∙ digits_onto d (n / 10) ((48 + n % 10) ∷ [])))

-- ---- what is written, step by step

pub put_none : (w : Writer) (n : ℕ) → length w.out.now < 2 ^ 63 → Writes w (decimal_onto 0 n []) w
unfolding decimal_onto
put_none w n h = writes_none w h

pub put_last : {w v : Writer} (d n x : ℕ) → 1 ≤ d → ltb n 10 ≡ true → x ≡ 48 + n % 10 → Writes w (x ∷ []) v → Writes w (decimal_onto d n []) v
put_last d n x o t e p = read_as (last_digit d n o t) (rw e at p)

pub put_more : {u v w : Writer} (d n k x : ℕ) → 1 ≤ d → ltb n 10 ≡ false → k ≡ n / 10 → x ≡ 48 + n % 10 → Writes u (decimal_onto (d - 1) k []) v → Writes v (x ∷ []) w
    → Writes u (decimal_onto d n []) w
put_more d n k x o t f e p y = read_as (more_digits d n o t) (rw f at p ⨾ rw e at y)
