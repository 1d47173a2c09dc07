-- The listing of what a run leaves in its area is that of the definition's run, and an input's is the program's output.
use Rattle.std.specs.Prelude as Std
use Rattle.std.specs.Prelude.{Ok, Err, ◌≡◌, ◌≤◌, ◌-◌, ◌∷◌}
use Rattle.std.proofs.Common.{ap, ◌∙◌, arith}
use Rattle.std.proofs.Math.Seq.{take-append_seam}
use Rattle.definition.specs.Prelude.{ℕ, List, [], length, take, drop, get_or}
use Rattle.definition.specs.Basics.{Result, ok, refused, refusal_of, ◌>>=◌, area_after}
use Rattle.definition.specs.Limits.{max_input}
use Rattle.definition.specs.Listing.{listing, output, program_area}
use Rattle.definition.specs.Run.{Choices, under, run, ran_on}
use Rattle.errors.specs.Refused.{result_of}
use Rattle.errors.specs.declared.Refusal.{Refusal}
use Rattle.listing.specs.Outcomes.{result_as, listing_of}

-- the outcome's answer, read from the area afterwards, is the run's
read_back : (area after : List ℕ) (o : Std.Result ℕ Refusal) (r : Result (List ℕ))
    → result_of o ≡ (r >>= λ bytes. ok (length bytes)) → after ≡ area_after area r → result_as after o ≡ r
read_back area after (Ok n) (ok bytes) e a =
    let size : n ≡ length bytes = cc in rw (size, a) (ap ok (take-append_seam bytes (drop (length bytes) area)))
read_back area after (Ok n) (refused q) e a = cc
read_back area after (Err q) (ok bytes) e a = cc
read_back area after (Err q) (refused w) e a =
    let same : refusal_of q.number q.concatenation q.component ≡ w = cc in rw same

pub listed : (image area after start : List ℕ) (how : Choices) (o : Std.Result ℕ Refusal)
    → (result_of o, after, start) ≡ ran_on image how area → listing_of image after o ≡ listing image (run image how (length area))
listed image area after start how o e =
    ap (listing image) (read_back area after o (run image how (length area)) (ap (λ p. p.0) e) (ap (λ p. p.1) e))

-- a mode and what follows it, as much of it as is judged
pub judged : (input : List ℕ) → 1 ≤ length input → (part : List ℕ) → part ≡ take (max_input - 1) (drop 1 input)
    → listing part (run part (under (get_or input 0 0)) program_area) ≡ output input
unfolding output
judged [] h part e = absurd (omega arith)
judged (x ∷ rest) h part e = rw e
