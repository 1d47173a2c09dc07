-- A rule of a table, proved at all of its entries by one test that antt computes, one entry after the other.
-- After the kit's examples/laws.
use Rattle.std.proofs.Common.{ℕ, zero, suc, ◌+◌, ◌<◌, Bool, true, false, ◌&&◌, T, List, [], ◌∷◌, length, get_or, le_of_suc-le-suc, not-suc-le-zero, add-zero, add-suc, suc-add, zero-add}

and_left : (a b : Bool) → T (a && b) → T a
and_left true b t = tt
and_left false b t = t

and_right : (a b : Bool) → T (a && b) → T b
and_right true b t = t
and_right false b t = absurd t

-- the test f passes at each entry of the list and its place, counted from i
abbrev pub every : (ℕ → ℕ → Bool) → ℕ → List ℕ → Bool
every f i [] = true
every f i (x ∷ xs) = f i x && every f (suc i) xs

from : (f : ℕ → ℕ → Bool) (xs : List ℕ) (i : ℕ) → T (every f i xs) → (k : ℕ) → k < length xs → T (f (i + k) (get_or xs k 0))
from f [] i t k h = absurd (not-suc-le-zero h)
from f (x ∷ xs) i t zero h = rw add-zero (and_left (f i x) (every f (suc i) xs) t)
from f (x ∷ xs) i t (suc k) h =
    rw (add-suc, ← suc-add) (from f xs (suc i) (and_right (f i x) (every f (suc i) xs) t) k (le_of_suc-le-suc h))

pub at : (f : ℕ → ℕ → Bool) (xs : List ℕ) → T (every f 0 xs) → (k : ℕ) → k < length xs → T (f k (get_or xs k 0))
at f xs t k h = rw zero-add at (from f xs 0 t k h)
