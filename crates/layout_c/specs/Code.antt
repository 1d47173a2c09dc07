-- What the functions for C promise.
use Rattle.std.specs.Prelude.{if◌then◌else◌}
use Rattle.definition.specs.Prelude.{ℕ, List, length, leb}
use Rattle.definition.specs.Listing.{output}
use Rattle.listing.specs.Outcomes.{filled}
use Rattle.definition.specs.Run.{Choices, run, ran_on}
use Rattle.definition.specs.Tokens.{tokens_on}
use Rattle.stages.specs.in_force.InForce.{place_in}
use Rattle.layout_c.specs.outcome.Code.{code_of}
use Rattle.layout_c.specs.start.Told.{number_at}

-- what a run on a lent area comes to, as one number, and the area afterwards
abbrev pub coded_on : List ℕ → Choices → List ℕ → ℕ × List ℕ
coded_on image how area = (code_of (ran_on image how area).0, (ran_on image how area).1)

-- and where the starting value in force stands, as another
abbrev pub coded_with : List ℕ → Choices → List ℕ → ℕ × List ℕ × ℕ
coded_with image how area = ((coded_on image how area).0, (coded_on image how area).1, number_at (place_in image (run image how (length area))))

-- what tokens come to on a lent area (document 02, L2)
abbrev pub tokens_coded : List ℕ → List ℕ → List ℕ → ℕ × List ℕ
tokens_coded list text area = (code_of (tokens_on list text area).0, (tokens_on list text area).1)

-- the length of the program's output where a buffer has room for it, else 0, and the buffer with the output from its front on
abbrev pub listed_in : List ℕ → List ℕ → ℕ × List ℕ
listed_in input out = (if leb (length (output input)) (length out) then length (output input) else 0, filled out (output input))
