-- What the program prints: a buffer of `longest_listing` bytes has room for every output, so that `answer` never says `None` of it, and the
-- bytes written are the output, whole.
use Rattle.std.specs.Prelude as Std
use Rattle.std.specs.Prelude.{Some, ◌≡◌, refl, ◌≤◌, replicate}
use Rattle.std.proofs.Common.{ap, ◌∙◌, le_trans, le_refl}
use Rattle.std.proofs.lemmas.List.{length-replicate}
use Rattle.std.proofs.Math.Seq.{take-append_seam}
use Rattle.definition.specs.Prelude.{ℕ, List, length, take, drop}
use Rattle.definition.specs.Listing.{output}
use Rattle.laws.specs.Tests.{leb_iff}
use Rattle.listing_length.specs.run.Listing.{longest_listing}
use Rattle.listing_length.proofs.run.Listing.{output_most}
use Rattle.listing.specs.Outcomes.{filled, filled_fits, written_as}
use Rattle.listing.specs.Shown.{Shown}

pub printed : (input before after : List ℕ) (w : Std.Option ℕ) → longest_listing ≤ length before → Shown before (output input) after w
    → (w ≡ Some (length (output input))) × (take (length (output input)) after ≡ output input)
printed input before after w room (shows, says) =
    let fits = le_trans (output_most input) room in
    let whole : written_as (length (output input)) (length before) ≡ Some (length (output input)) =
    rw ((leb_iff (length (output input)) (length before)).1 fits) refl in (
      says ∙ whole,
      ap (take (length (output input))) (shows ∙ filled_fits before (output input) fits)
          ∙ take-append_seam (output input) (drop (length (output input)) before),
    )

-- the premises are met by a buffer of zeros, for every input
unfoldable pub zeros : List ℕ
zeros = replicate longest_listing 0

pub met : (input : List ℕ) → (longest_listing ≤ length zeros)
    × Shown zeros (output input) (filled zeros (output input)) (written_as (length (output input)) (length zeros))
unfolding zeros
met input = (rw (length-replicate {A = ℕ} longest_listing 0) (le_refl longest_listing), (refl, refl))
