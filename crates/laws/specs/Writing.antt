-- Writing a list of bytes into a longer one: bytes next to bytes, bytes past the end, and bytes from the front.
-- Assumes nothing.
use Rattle.std.specs.Prelude.{◌≡◌, refl, List, [], ◌∷◌, ◌++◌, ℕ, ◌+◌, ◌≤◌, length, set, get_or, drop}
use Rattle.std.proofs.Common.{sym, ap, ◌∙◌, arith, length-append}
use Rattle.std.proofs.lemmas.List.Edits.{sets}
use Rattle.definition.specs.Image.{bytes_at}
use Rattle.laws.specs.Padded.{length_padded, bytes_next}
use Rattle.laws.specs.Sets.{sets_append, sets_past}

-- past the end
pub sets_out : (l : List ℕ) (i : ℕ) (a : List ℕ) → length l ≤ i → l ≡ sets l i a
sets_out l i a h = sym (sets_past l i a h)

-- one write after another, m being what the first leaves and e what the second leaves
pub and_then : (l : List ℕ) (i n : ℕ) (a b : List ℕ) {m e : List ℕ} → m ≡ sets l i a → length a ≡ n → e ≡ sets m (i + n) b → e ≡ sets l i (a ++ b)
and_then l i n a b p q r = rw (r, p, ← q) (sets_append l i a b)

pub four : (l : List ℕ) (i a b c d : ℕ) {l₁ l₂ l₃ e : List ℕ} → l₁ ≡ set l i a → l₂ ≡ set l₁ (i + 1) b → l₃ ≡ set l₂ (i + 2) c → e ≡ set l₃ (i + 3) d
    → e ≡ sets l i (a ∷ b ∷ c ∷ d ∷ [])
four l i a b c d p q r s =
    and_then l i 3 (a ∷ b ∷ c ∷ []) (d ∷ []) (and_then l i 2 (a ∷ b ∷ []) (c ∷ []) (and_then l i 1 (a ∷ []) (b ∷ []) p refl q) refl r) refl s

-- four blocks, each next to the one before
pub four_blocks : (l : List ℕ) (i n₁ n₂ n₃ : ℕ) (a b c d : List ℕ) {m₁ m₂ m₃ e : List ℕ} → m₁ ≡ sets l i a → length a ≡ n₁
    → m₂ ≡ sets m₁ (i + n₁) b → n₁ + length b ≡ n₂ → m₃ ≡ sets m₂ (i + n₂) c → n₂ + length c ≡ n₃ → e ≡ sets m₃ (i + n₃) d
    → e ≡ sets l i (a ++ b ++ c ++ d)
four_blocks l i n₁ n₂ n₃ a b c d p₁ q₁ p₂ q₂ p₃ q₃ p₄ =
    and_then l i n₃ ((a ++ b) ++ c) d
    (and_then l i n₂ (a ++ b) c (and_then l i n₁ a b p₁ q₁ p₂) (simp length-append (omega arith)) p₃) (simp length-append (omega arith)) p₄

-- and two more
pub six_blocks : (l : List ℕ) (i n₁ n₂ n₃ n₄ n₅ : ℕ) (a b c d e f : List ℕ) {m₁ m₂ m₃ m₄ m₅ m₆ : List ℕ} → m₁ ≡ sets l i a → length a ≡ n₁
    → m₂ ≡ sets m₁ (i + n₁) b → n₁ + length b ≡ n₂ → m₃ ≡ sets m₂ (i + n₂) c → n₂ + length c ≡ n₃ → m₄ ≡ sets m₃ (i + n₃) d
    → n₃ + length d ≡ n₄ → m₅ ≡ sets m₄ (i + n₄) e → n₄ + length e ≡ n₅ → m₆ ≡ sets m₅ (i + n₅) f
    → m₆ ≡ sets l i (a ++ b ++ c ++ d ++ e ++ f)
six_blocks l i n₁ n₂ n₃ n₄ n₅ a b c d e f p₁ q₁ p₂ q₂ p₃ q₃ p₄ q₄ p₅ q₅ p₆ =
    and_then l i n₅ (a ++ b ++ c ++ d ++ e) f
    (and_then l i n₄ (a ++ b ++ c ++ d) e (four_blocks l i n₁ n₂ n₃ a b c d p₁ q₁ p₂ q₂ p₃ q₃ p₄) (simp length-append (omega arith)) p₅)
    (simp length-append (omega arith)) p₆

-- ---- bytes copied one by one, from so many bytes of another list

pub copy_next : (l : List ℕ) (at : ℕ) (s : List ℕ) (from i : ℕ) {m : List ℕ} → m ≡ sets l at (bytes_at s from i)
    → set m (at + i) (get_or s (from + i) 0) ≡ sets l at (bytes_at s from (i + 1))
copy_next l at s from i e =
    and_then l at i (bytes_at s from i) (get_or s (from + i) 0 ∷ []) e (length_padded i (drop from s)) refl
    ∙ ap (sets l at) (sym (bytes_next s from i))
