-- What an answer `ok` says of the steps that gave it.
use Rattle.std.specs.Prelude.{◌≡◌, refl}
use Rattle.std.proofs.Common.{arith}
use Rattle.definition.specs.Prelude.{ℕ, Bool, true, false}
use Rattle.definition.specs.Basics.{Result, ok, refused, ◌>>=◌, with_places}
use Rattle.definition.specs.Refusals.{Reason, need, needs}

pub bind_ok : {A B : Type 0} (m : Result A) (f : A → Result B) {b : B} → (m >>= f) ≡ ok b → (a : A) × (m ≡ ok a) × (f a ≡ ok b)
bind_ok (ok a) f h = (a, refl, h)
bind_ok (refused q) f {b} h = let z : ◌≡◌ {A = ℕ} 0 1 = cc in absurd (omega arith)

pub need_ok : (t : Bool) (r : Reason) {u : Unit} → need t r ≡ ok u → t ≡ true
need_ok true r h = refl
need_ok false r h = cc

-- a test that was needed, and what came after it
pub need_then : {B : Type 0} (t : Bool) (r : Reason) (m : Result B) {b : B} → (need t r >>= (λ _. m)) ≡ ok b → (t ≡ true) × (m ≡ ok b)
need_then true r m h = (refl, h)
need_then false r m h = let z : ◌≡◌ {A = ℕ} 0 1 = cc in absurd (omega arith)

-- the same of a test that is refused with a number of its own
pub needs_then : {B : Type 0} (t : Bool) (n : ℕ) (m : Result B) {b : B} → (needs t n >>= (λ _. m)) ≡ ok b → (t ≡ true) × (m ≡ ok b)
needs_then true n m h = (refl, h)
needs_then false n m h = let z : ◌≡◌ {A = ℕ} 0 1 = cc in absurd (omega arith)

pub placed_ok : {A : Type 0} (i k : ℕ) (m : Result A) {a : A} → with_places i k m ≡ ok a → m ≡ ok a
placed_ok i k (ok b) h = h
placed_ok i k (refused q) h = let z : ◌≡◌ {A = ℕ} 0 1 = cc in absurd (omega arith)

pub bind_assoc : {A B C : Type 0} (m : Result A) (f : A → Result B) (g : B → Result C) → (m >>= λ a. f a >>= g) ≡ (m >>= f >>= g)
bind_assoc (ok a) f g = refl
bind_assoc (refused q) f g = refl

pub ok_same : {A : Type 0} {m : Result A} {a b : A} → m ≡ ok a → m ≡ ok b → a ≡ b
ok_same p q = cc
