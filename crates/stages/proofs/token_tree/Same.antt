-- When two runs of bytes are the same.
use Rattle.std.proofs.Common.{◌≡◌, ℕ, zero, suc, ◌+◌, ◌-◌, ◌≤◌, ◌&&◌, eqb, List, [], ◌∷◌, length, get_or, take, drop, sym, refl, ap, arith, length-drop}
use lib.Pointwise.{pointwise}
use Rattle.definition.specs.Basics.{same_bytes}
use Rattle.definition.specs.Image.{padded, bytes_at}

-- the first byte, and the others
pub first_on : (m k : ℕ) (s : List ℕ) → padded (suc m) (drop k s) ≡ get_or s k 0 ∷ padded m (drop (suc k) s)
unfolding padded
first_on m zero [] = refl
first_on m zero (b ∷ s) = refl
first_on m (suc k) [] = refl
first_on m (suc k) (b ∷ s) = first_on m k s

-- a text within the image is a part of it
pub whole : (n : ℕ) (s : List ℕ) → n ≤ length s → padded n s ≡ take n s
unfolding padded
whole zero s h = refl
whole (suc n) [] h = absurd (omega arith)
whole (suc n) (b ∷ s) h = ap (λ (r : List ℕ). b ∷ r) (whole n s (omega arith))

pub whole_at : (s : List ℕ) (p n m : ℕ) → p + n ≤ length s → m ≡ n → take m (drop p s) ≡ bytes_at s p n
whole_at s p n m h e = rw e (sym (whole n (drop p s) (rw length-drop (omega arith))))

-- std's comparison is the definition's
same_is : (s t : List ℕ) → pointwise eqb s t ≡ same_bytes s t
unfolding same_bytes
same_is [] [] = refl
same_is [] (b ∷ t) = refl
same_is (a ∷ s) [] = refl
same_is (a ∷ s) (b ∷ t) = ap (λ r. eqb a b && r) (same_is s t)

pub slices_same : (s : List ℕ) (p q m n : ℕ) → p + m ≤ length s → q + n ≤ length s
    → pointwise eqb (take (p + m - p) (drop p s)) (take (q + n - q) (drop q s)) ≡ same_bytes (bytes_at s p m) (bytes_at s q n)
slices_same s p q m n h k = rw (whole_at s p m (p + m - p) h (omega arith), whole_at s q n (q + n - q) k (omega arith)) (same_is _ _)
