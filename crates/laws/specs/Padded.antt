-- Laws of bytes read with zeros past the end (definition, padded).
use Rattle.std.specs.Prelude.{◌≡◌, refl, ◌<◌, ◌+◌, ◌∷◌, ◌++◌}
use Rattle.std.proofs.Common.{ap, ◌∙◌, zero-add, suc-add, add-zero, arith}
use lib.Seq.{drop-drop, get_or-drop}
use Rattle.definition.specs.Prelude.{ℕ, zero, suc, List, [], length, get_or, drop}
use Rattle.definition.specs.Image.{padded, bytes_at}

pub length_padded : (n : ℕ) (s : List ℕ) → length (padded n s) ≡ n
unfolding padded
length_padded zero s = refl
length_padded (suc n) [] = ap suc (length_padded n [])
length_padded (suc n) (b ∷ s) = ap suc (length_padded n s)

pub get_or_padded : (n : ℕ) (s : List ℕ) (k : ℕ) → k < n → get_or (padded n s) k 0 ≡ get_or s k 0
unfolding padded
get_or_padded zero s k h = absurd (omega arith)
get_or_padded (suc n) [] zero h = refl
get_or_padded (suc n) [] (suc k) h = get_or_padded n [] k (omega arith)
get_or_padded (suc n) (b ∷ s) zero h = refl
get_or_padded (suc n) (b ∷ s) (suc k) h = get_or_padded n s k (omega arith)

padded_add : (a b : ℕ) (s : List ℕ) → padded (a + b) s ≡ padded a s ++ padded b (drop a s)
unfolding padded
padded_add zero b s = rw zero-add
padded_add (suc a) b [] = rw (suc-add, padded_add a b [], lib.Seq.drop-nil a)
padded_add (suc a) b (x ∷ s) = rw (suc-add, padded_add a b s)

-- bytes in two parts
pub bytes_add : (image : List ℕ) (from a b : ℕ) → bytes_at image from (a + b) ≡ bytes_at image from a ++ bytes_at image (from + a) b
bytes_add image from a b = padded_add a b (drop from image) ∙ rw (drop-drop a from image)

-- one byte, and one byte more
padded_one : (s : List ℕ) → padded 1 s ≡ get_or s 0 0 ∷ []
unfolding padded
padded_one [] = refl
padded_one (b ∷ s) = refl

pub bytes_next : (image : List ℕ) (from n : ℕ) → bytes_at image from (n + 1) ≡ bytes_at image from n ++ (get_or image (from + n) 0 ∷ [])
bytes_next image from n =
    bytes_add image from n 1
    ∙ ap (λ (x : List ℕ). bytes_at image from n ++ x)
    (padded_one (drop (from + n) image) ∙ ap (λ (b : ℕ). b ∷ []) (get_or-drop (from + n) image 0 0 ∙ rw add-zero))
