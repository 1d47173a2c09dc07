-- The listing of every run, accepted or refused, is of at most `longest_listing` bytes.
use Rattle.std.specs.Prelude.{◌≡◌, refl, ◌≤◌, ◌-◌, ◌∷◌}
use Rattle.std.proofs.Common.{le_trans, lit≤}
use Rattle.definition.specs.Prelude.{ℕ, List, [], length, take}
use Rattle.definition.specs.Basics.{Result, ok, refused, refusal_of}
use Rattle.definition.specs.Limits.{max_input}
use Rattle.definition.specs.Listing.{listing, program_area, output}
use Rattle.definition.specs.Run.{Choices, under, run}
use Rattle.answer_facts.specs.fits.Accepts.{run_accepts}
use Rattle.listing_length.specs.run.Listing.{longest_listing}
use Rattle.listing_length.proofs.Lines.{refused_most}
use Rattle.listing_length.proofs.run.Accepted.{answer_listing}

accepted_listing : (image : List ℕ) (how : Choices) (area : ℕ) (bytes : List ℕ) → run image how area ≡ ok bytes
    → length (listing image (ok bytes)) ≤ longest_listing
accepted_listing image how area bytes e =
    let h = run_accepts image how area bytes e in
    rw h.bytes at (answer_listing image how h.said h.checked h.staged)

-- ---- every run

pub listing_most : (image : List ℕ) (how : Choices) (area : ℕ) → length (listing image (run image how area)) ≤ longest_listing
listing_most image how area = go (run image how area) refl
  where
    go : (r : Result (List ℕ)) → run image how area ≡ r → length (listing image r) ≤ longest_listing
    go (ok bytes) e = accepted_listing image how area bytes e
    go (refused q) e = le_trans (refused_most image q) (lit≤ tt)

pub output_most : (input : List ℕ) → length (output input) ≤ longest_listing
unfolding output
output_most [] = le_trans (refused_most [] (refusal_of 2 0 0)) (lit≤ tt)
output_most (mode ∷ rest) = listing_most (take (max_input - 1) rest) (under mode) program_area
