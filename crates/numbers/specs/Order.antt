-- The order of two numbers is that of their values: what `a < b` says, as a test of integers.
use Rattle.std.specs.Prelude.{◌≡◌, Bool, true, false, cond, ℤ, int_lt, refl}
use Rattle.std.specs.Ordering.{is_lt, int_cmp}
use Rattle.std.specs.declared.cmp.Ordering.TheVariants.{Less, Equal, Greater}

by_tests : (t u : Bool) → is_lt (cond t Less (cond u Greater Equal)) ≡ t
by_tests true u = refl
by_tests false true = refl
by_tests false false = refl

pub less_is : (z v : ℤ) → is_lt (int_cmp z v) ≡ int_lt z v
less_is z v = by_tests (int_lt z v) (int_lt v z)
