-- Answers that are kept: what one operation accepts, another accepts with the same answer, wherever either would refuse.
use Rattle.std.specs.Prelude.{◌≡◌}
use Rattle.definition.specs.Prelude.{ℕ}
use Rattle.definition.specs.Basics.{Result, ok, ◌>>=◌, with_places}
use Rattle.laws.specs.Results.{bind_ok, placed_ok}

-- n accepts what m accepts, with the same answer
abbrev pub Keeps : {A : Type 0} → Result A → Result A → Type 0
Keeps {A} m n = (a : A) → m ≡ ok a → n ≡ ok a

pub bind_keeps : {A B : Type 0} (m n : Result A) (f g : A → Result B) → Keeps m n → ((a : A) → Keeps (f a) (g a)) → Keeps (m >>= f) (n >>= g)
bind_keeps m n f g h k b e = go (bind_ok m f e)
  where
    go : (a : _) × (m ≡ ok a) × (f a ≡ ok b) → (n >>= g) ≡ ok b
    go (a, p, q) = rw (h a p) (k a b q)

pub placed_keeps : {A : Type 0} (i k i' k' : ℕ) (m n : Result A) → Keeps m n → Keeps (with_places i k m) (with_places i' k' n)
placed_keeps i k i' k' m n h a e = rw (h a (placed_ok i k m e))
