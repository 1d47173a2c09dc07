-- A concatenation's own line.
use Rattle.std.specs.Prelude.{◌∷◌}
use Rattle.definition.specs.Prelude.{ℕ, List}
use Rattle.definition.specs.Basics.{ascii}
use Rattle.definition.specs.Answer.{Concat}
use Rattle.definition.specs.Listing.{line, decimal, summary_words}

abbrev pub group_line : ℕ → Concat → List ℕ
group_line i g = line (ascii "c" ∷ decimal i ∷ decimal g.size ∷ summary_words g.width g.align g.flags)
