-- An input is judged on its first `max_input` bytes, so what is printed of a full buffer is what is printed of the whole input.
use Rattle.std.proofs.Common.{◌≡◌, ℕ, ◌-◌, List, [], ◌∷◌, length, take, refl, sym, ap, subst, ◌∙◌, Some, None, IfSome, Option, le_refl}
use Rattle.std.proofs.lemmas.List.{take-take}
use Rattle.std.specs.Io.KnownBytes.{Appends}
use Rattle.definition.specs.Limits.{max_input}
use Rattle.definition.specs.Listing.{output, listing, program_area}
use Rattle.definition.specs.Run.{under, run}

output_judged : (input : List ℕ) → output (take max_input input) ≡ output input
unfolding output
output_judged [] = refl
output_judged (mode ∷ rest) = ap (λ image. listing image (run image (under mode) program_area)) (take-take (max_input - 1) (max_input - 1) rest (le_refl _))

pub appends_judged : (known a b : Option (List ℕ)) (buf : List ℕ) (n : ℕ) → max_input ≡ length buf
    → IfSome known (λ input. take n buf ≡ take (length buf) input) → Appends a b (output (take n buf)) → IfSome known (λ input. Appends a b (output input))
appends_judged None a b buf n full front h = tt
appends_judged (Some input) a b buf n full front h =
    subst (λ bytes. Appends a b bytes) (ap output (front ∙ ap (λ k. take k input) (sym full)) ∙ output_judged input) h
