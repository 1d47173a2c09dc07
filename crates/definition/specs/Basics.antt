-- What the definitions share: tables of values, and the answers of an operation that may refuse.
use Rattle.std.specs.Prelude.{◌+◌, ◌&&◌, ◌∷◌, ◌++◌}
use Rattle.definition.specs.Prelude.{ℕ, zero, suc, code, String, []ˢ, ◌∷ˢ◌, Bool, true, false, List, [], length, drop, leb, eqb}

-- lo ≤ n ≤ hi
abbrev pub within : ℕ → ℕ → ℕ → Bool
within lo hi n = leb lo n && leb n hi

-- Document 01, "How each operation refuses": a refusal is a number and two places (concatenation, component; 0 where none).
pub record Refusal : Type 0 where
  pub number : ℕ
  pub concatenation : ℕ
  pub component : ℕ

-- of this number, with these places
abbrev pub refusal_of : ℕ → ℕ → ℕ → Refusal
refusal_of n i k = record { number = n; concatenation = i; component = k }

pub data Result (A : Type 0) : Type 0 where
  ok : A → Result A
  refused : Refusal → Result A

infixl 20 ◌>>=◌
abbrev pub ◌>>=◌ : {A B : Type 0} → Result A → (A → Result B) → Result B
ok a >>= f = f a
refused q >>= f = refused q

-- a refusal met below is given its places
abbrev pub with_places : {A : Type 0} → ℕ → ℕ → Result A → Result A
with_places i k (ok a) = ok a
with_places i k (refused q) = refused (refusal_of q.number i k)

-- a lent area after an operation that writes it: "the full answer from its first byte with the bytes beyond untouched, or, after a
-- refusal, exactly as lent"
abbrev pub area_after : List ℕ → Result (List ℕ) → List ℕ
area_after area (ok bytes) = bytes ++ drop (length bytes) area
area_after area (refused q) = area

abbrev pub is_empty : {A : Type 0} → List A → Bool
is_empty [] = true
is_empty (a ∷ rest) = false

-- two texts are equal when their bytes are
unfoldable pub same_bytes : List ℕ → List ℕ → Bool
same_bytes [] [] = true
same_bytes [] (b ∷ t) = false
same_bytes (a ∷ s) [] = false
same_bytes (a ∷ s) (b ∷ t) = eqb a b && same_bytes s t

unfoldable pub sum : List ℕ → ℕ
sum [] = 0
sum (n ∷ ns) = n + sum ns

unfoldable pub all : {A : Type 0} → (A → Bool) → List A → Bool
all p [] = true
all p (a ∷ rest) = p a && all p rest

unfoldable pub joined : {A : Type 0} → List (List A) → List A
joined [] = []
joined (l ∷ ls) = l ++ joined ls

-- f from, f (from + 1), ..: n values
unfoldable pub tab : {A : Type 0} → (ℕ → A) → ℕ → ℕ → List A
tab f from zero = []
tab f from (suc n) = f from ∷ tab f (suc from) n

-- the bytes of a plain text
unfoldable pub ascii : String → List ℕ
ascii []ˢ = []
ascii (c ∷ˢ s) = code c ∷ ascii s
