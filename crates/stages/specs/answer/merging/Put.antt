-- Merged components in the answer area: their blocks one after the other, and their literal bytes in the literal block.
use Rattle.std.specs.Prelude.{◌≡◌, ◌<◌, ◌≤◌, ◌+◌, ◌*◌, ◌^◌}
use Rattle.std.proofs.lemmas.List.Edits.{sets}
use Rattle.definition.specs.Prelude.{ℕ, List, length}
use Rattle.definition.specs.Limits.{sizes}
use Rattle.definition.specs.Image.{Placed}
use Rattle.definition.specs.Component.{Component}
use Rattle.definition.specs.Concatenation.{merge}
use Rattle.definition.specs.Answer.{components_bytes}
use Rattle.answer_facts.specs.fits.Fixed.{AllFixed}
use Rattle.answer_facts.specs.fits.Statement.{literals_of}
use Rattle.stages.specs.ranges.Values.{Tree}
use Rattle.stages.specs.component.Kept.{Are}
use Rattle.stages.specs.declared.component.types.Component.{Component as Now}
use Rattle.stages.specs.declared.answer.merging.Writing.{Writing}

-- components written from the place w on
abbrev pub put_all : List ℕ → Writing → List (Placed Component) → List ℕ
put_all area w ms = sets (sets area w.at (components_bytes w.offset ms)) (w.literals + w.offset) (literals_of ms)

-- the place after them
abbrev pub written_to : Writing → List (Placed Component) → Writing
written_to w ms = record { at = w.at + sizes.component * length ms; literals = w.literals; offset = w.offset + length (literals_of ms) }

-- the blocks end before the literal block, and the literal block before the area; its bits are fewer than 2^32
pub record Room (area : List ℕ) (w : Writing) (ms : List (Placed Component)) : Type 0 where
  pub blocks : w.at + sizes.component * length ms ≤ w.literals
  pub literal_block : w.literals + w.offset + length (literals_of ms) ≤ length area
  pub offsets : w.offset + length (literals_of ms) < 2 ^ 29

-- components that are kept, merged: where there is room for them, they stand in the area afterwards, and r is the place after them
abbrev pub PutIs : List ℕ → List Now → Writing → Writing → List ℕ → List ℕ → Type 0
PutIs image comps w r before after =
    (t : Tree) (cs : List (Placed Component)) → Are image t comps cs → AllFixed cs → Room before w (merge cs)
    → (after ≡ put_all before w (merge cs)) × (r ≡ written_to w (merge cs))
