-- Lines, of the parts that are written one after the other.
use Rattle.std.specs.Prelude.{◌≡◌, ◌∷◌, ◌++◌}
use Rattle.std.proofs.Common.{sym, ap, ◌∙◌}
use Rattle.definition.specs.Prelude.{ℕ, List, []}
use Rattle.definition.specs.Basics.{ascii}
use Rattle.definition.specs.Listing.{decimal, line, listing}
use Rattle.errors.specs.Refused.{refused_as}
use Rattle.errors.specs.declared.Refusal.{Refusal}
use Rattle.listing.specs.words.Spaced.{spaced, spaced_one, line_counted, line_last}

-- a refusal's
pub refused_line : (r : Refusal) → ascii "refused" ++ ((32 ∷ decimal r.number) ++ ((32 ∷ decimal r.concatenation) ++ ((32 ∷ decimal r.component) ++ (10 ∷ [])))) ≡ listing [] (refused_as r)
unfolding listing
refused_line r =
    ap (λ x. ascii "refused" ++ ((32 ∷ decimal r.number) ++ ((32 ∷ decimal r.concatenation) ++ (x ++ (10 ∷ []))))) (sym (spaced_one (decimal r.component)))
    ∙ line_counted (ascii "refused") (decimal r.number) (decimal r.concatenation) (decimal r.component ∷ [])

-- line 1
pub headed : (w a b v : List ℕ) (ws : List (List ℕ)) → w ++ ((32 ∷ a) ++ ((32 ∷ b) ++ (spaced ws ++ ((32 ∷ v) ++ (10 ∷ []))))) ≡ line (w ∷ a ∷ b ∷ (ws ++ (v ∷ [])))
headed w a b v ws = ap (λ (x : List ℕ). w ++ ((32 ∷ a) ++ ((32 ∷ b) ++ x))) (line_last ws v) ∙ line_counted w a b (ws ++ (v ∷ []))
