-- A line of the listing: its first word, the other words with a space before each, a newline.
use Rattle.std.specs.Prelude.{◌≡◌, refl, ◌∷◌, ◌++◌}
use Rattle.std.proofs.Common.{sym, ◌∙◌, append_assoc, append-nil}
use Rattle.definition.specs.Prelude.{ℕ, List, []}
use Rattle.definition.specs.Listing.{line}

-- words, each with a space before it
unfoldable pub spaced : List (List ℕ) → List ℕ
spaced [] = []
spaced (w ∷ ws) = (32 ∷ w) ++ spaced ws

pub spaced_append : (a b : List (List ℕ)) → spaced (a ++ b) ≡ spaced a ++ spaced b
unfolding spaced
spaced_append [] b = refl
spaced_append (w ∷ a) b = rw (spaced_append a b, append_assoc)

pub line_spaced : (w : List ℕ) (ws : List (List ℕ)) → line (w ∷ ws) ≡ w ++ (spaced ws ++ (10 ∷ []))
unfolding line spaced
line_spaced w [] = refl
line_spaced w (v ∷ ws) = rw (line_spaced v ws, append_assoc)

-- a line that begins with two words after its first
pub line_counted : (w a b : List ℕ) (ws : List (List ℕ)) → w ++ ((32 ∷ a) ++ ((32 ∷ b) ++ (spaced ws ++ (10 ∷ [])))) ≡ line (w ∷ a ∷ b ∷ ws)
unfolding spaced
line_counted w a b ws = sym (line_spaced w (a ∷ b ∷ ws) ∙ rw (append_assoc, append_assoc))

pub spaced_one : (v : List ℕ) → spaced (v ∷ []) ≡ 32 ∷ v
unfolding spaced
spaced_one v = rw append-nil

pub two_spaced : (a b : List ℕ) → (32 ∷ []) ++ (a ++ ((32 ∷ []) ++ b)) ≡ spaced (a ∷ b ∷ [])
unfolding spaced
two_spaced a b = rw append-nil

-- and ends with one more
pub line_last : (ws : List (List ℕ)) (v : List ℕ) → spaced ws ++ ((32 ∷ v) ++ (10 ∷ [])) ≡ spaced (ws ++ (v ∷ [])) ++ (10 ∷ [])
line_last ws v = sym (rw (spaced_append ws (v ∷ []), append_assoc, spaced_one v))

pub line_parts : (w : List ℕ) (a b : List (List ℕ)) → line (w ∷ (a ++ b)) ≡ w ++ (spaced a ++ (spaced b ++ (10 ∷ [])))
line_parts w a b = line_spaced w (a ++ b) ∙ rw (spaced_append a b, append_assoc)
