-- How a fact is carried along: to what an operation gives where it does not refuse, to what is found, to every element of a list.
use Rattle.std.specs.Prelude.{◌∷◌, ◌++◌, if◌then◌else◌}
use Rattle.definition.specs.Prelude.{ℕ, Bool, true, false, Option, none, some, List, []}
use Rattle.definition.specs.Basics.{Result, ok, Refusal, refused, ◌>>=◌, with_places}

pub data Yields {A : Type 0} (P : A → Type 0) : Result A → Type 0 where
  given : {a : A} → P a → Yields P (ok a)
  nothing : {q : Refusal} → Yields P (refused q)

pub data Found {A : Type 0} (P : A → Type 0) : Option A → Type 0 where
  found : {a : A} → P a → Found P (some a)
  missing : Found P none

pub data Every {A : Type 0} (P : A → Type 0) : List A → Type 0 where
  every_nil : Every P []
  every_cons : {a : A} {l : List A} → P a → Every P l → Every P (a ∷ l)

module _ {A : Type 0} {P : A → Type 0} where
  pub the_given : {a : A} → Yields P (ok a) → P a
  the_given (given p) = p

  pub yields_placed : {m : Result A} (i k : ℕ) → Yields P m → Yields P (with_places i k m)
  yields_placed i k (given p) = given p
  yields_placed i k nothing = nothing

  -- what is bound after a step that tells nothing
  pub after : {B : Type 0} (m : Result B) {f : B → Result A} → ((b : B) → Yields P (f b)) → Yields P (m >>= f)
  after (ok b) h = h b
  after (refused q) h = nothing

  pub bound : {B : Type 0} {Q : B → Type 0} {m : Result B} {f : B → Result A} → Yields Q m → ((b : B) → Q b → Yields P (f b)) → Yields P (m >>= f)
  bound (given {a = b} q) h = h b q
  bound nothing h = nothing

  pub yields_if : (b : Bool) {m n : Result A} → Yields P m → Yields P n → Yields P (if b then m else n)
  yields_if true p q = p
  yields_if false p q = q

  pub every_append : {k l : List A} → Every P k → Every P l → Every P (k ++ l)
  every_append every_nil q = q
  every_append (every_cons p ps) q = every_cons p (every_append ps q)

  pub every_split : (k : List A) {l : List A} → Every P (k ++ l) → Every P k × Every P l
  every_split [] q = (every_nil, q)
  every_split (a ∷ k) (every_cons p ps) = let (x, y) = every_split k ps in (every_cons p x, y)

-- a fact that follows from another
module _ {A : Type 0} {P Q : A → Type 0} (f : (a : A) → P a → Q a) where
  pub yields_of : {m : Result A} → Yields P m → Yields Q m
  yields_of (given {a = a} p) = given (f a p)
  yields_of nothing = nothing

  pub every_of : {l : List A} → Every P l → Every Q l
  every_of every_nil = every_nil
  every_of (every_cons {a = a} p ps) = every_cons (f a p) (every_of ps)
