-- A number that passes the program's test is the one that the entry tells. Assumes nothing.
use Rattle.std.specs.Prelude as Std
use Rattle.std.specs.Prelude.{Some, None}
use Rattle.std.specs.Ordering.{int_eq}
use Rattle.std.proofs.lemmas.Bool.Decides.{Decides-int_eq}
use mathlib.Core.Path.{◌≡◌, refl, ap}
use Rattle.definition.specs.Prelude.{ℕ, true, ℤ, some, eqb}
use Rattle.laws.specs.Tests.{and_iff, eqb_iff}
use Rattle.numbers.specs.Value.{value_of, option_of}
use Rattle.numbers.specs.declared.I128.{I128}
use Rattle.leaves_replay.specs.Told.{told_by, agrees}

pub agreeing : (o : Std.Option I128) (found : ℕ) (told : I128) → agrees o found told ≡ true → option_of o ≡ told_by found told.high told.low
agreeing (Some w) found told e =
    let (one, same) = (and_iff (eqb found 1) (int_eq (value_of w) (value_of told))).0 e in
    rw ((eqb_iff found 1).0 one) (ap (λ (z : ℤ). some z) ((Decides-int_eq (value_of w) (value_of told)).0 same))
agreeing None found told e =
    rw ((eqb_iff found 0).0 ((and_iff (eqb found 0) (int_eq (value_of told) (value_of (record { high = 0; low = 0 })))).0 e).0) refl

pub told_alike : (f g h i l m : ℕ) → f ≡ g → h ≡ i → l ≡ m → told_by f h l ≡ told_by g i m
told_alike f g h i l m p q r = rw (p, q, r)
