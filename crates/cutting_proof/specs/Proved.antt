-- Demand 3: cutting a literal changes nothing. The claim stands, with all that it names, in crate `cutting`, Statement.
use Rattle.std.specs.Prelude.{◌≡◌}
use Rattle.definition.specs.Prelude.{ℕ, true, List}
use Rattle.definition.specs.Basics.{ok}
use Rattle.definition.specs.Tree.{Tree, image_of, fits}
use Rattle.definition.specs.Run.{Choices, run}
use Rattle.prepared.specs.Statement.{Bytes}
use Rattle.prepared.specs.back.Every.{every_image}
use Rattle.cutting.specs.Statement.{Cutting}
use Rattle.cutting_proof.specs.component.Proof.{literal_reads, piece_reads, prefix_kept}
use Rattle.cutting_proof.specs.stages.Early.{cut_early_from}
use Rattle.cutting_proof.specs.stages.Later.{cut_later}
use Rattle.answer_facts.specs.stages.Proved.{in_turn}
use Rattle.answer_facts.specs.fits.Accepts.{run_accepts}
use Rattle.cutting_proof.specs.Cut as Cut

pub cutting : Cutting
cutting = Cut.cutting in_turn (cut_early_from literal_reads piece_reads prefix_kept) cut_later

-- "every image": what the run accepts is the image of a tree that fits, so the claim speaks of all of them
pub every_accepted : (image : List ℕ) → Bytes image → (how : Choices) (area : ℕ) (answer : List ℕ) → run image how area ≡ ok answer
    → (t : Tree) × (fits t ≡ true) × (image ≡ image_of t)
every_accepted image b how area answer h = every_image image b (run_accepts image how area answer h).checked
