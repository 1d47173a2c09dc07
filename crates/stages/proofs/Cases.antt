-- What cannot be.
use Rattle.std.proofs.Common.{◌≡◌, arith}
use Rattle.definition.specs.Prelude.{ℕ, true, false, none, some}
use Rattle.definition.specs.Basics.{ok, Refusal, refused}

pub untrue : {G : Type 0} → false ≡ true → G
untrue h = let z : ◌≡◌ {A = ℕ} 0 1 = cc in absurd (omega arith)

pub none_some : {G A : Type 0} {a : A} → none ≡ some a → G
none_some h = let z : ◌≡◌ {A = ℕ} 0 1 = cc in absurd (omega arith)

pub some_is : {A : Type 0} {a b : A} → some a ≡ some b → a ≡ b
some_is h = cc

pub never : {G A : Type 0} {q : Refusal} {a : A} → refused q ≡ ok a → G
never h = let z : ◌≡◌ {A = ℕ} 0 1 = cc in absurd (omega arith)
