-- A part of the text table as the definition's part of a component's text, that begins at text place `base`.
use Rattle.std.specs.Prelude.{◌≡◌, ◌<◌, ◌≤◌, ◌+◌, ◌-◌, if◌then◌else◌}
use Rattle.definition.specs.Prelude.{ℕ, List, length, eqb}
use Rattle.definition.specs.Image.{bytes_at, padded}
use Rattle.definition.specs.Text as Text
use Rattle.stages.specs.declared.token_tree.types.Part.{Part}
use Rattle.stages.specs.declared.token_tree.types.Tree.{Tree}

abbrev pub no_part : Part
no_part = record { at = record { 0 = 0 }; len = 0 }

-- the text from s to t; an empty one starts at 0
abbrev pub part_by : ℕ → ℕ → Part
part_by s t = if eqb s t then no_part else record { at = record { 0 = s }; len = t - s }

-- the bytes that a part names
abbrev pub bytes_in : List ℕ → Tree → Part → List ℕ
bytes_in image t p = bytes_at image (t.text + p.at.0) p.len

abbrev pub part_of : List ℕ → Tree → ℕ → Part → Text.Part
part_of image t base p = record { at = p.at.0 - base; bytes = bytes_in image t p }

-- the part lies within the image
abbrev pub Room : List ℕ → Tree → Part → Type 0
Room image t p = t.text + p.at.0 + p.len ≤ length image

-- and behind the component's text start, so that `part_of` loses nothing; an empty one starts at 0
pub record PartFits (image : List ℕ) (t : Tree) (base : ℕ) (p : Part) : Type 0 where
  pub room : Room image t p
  pub none : p.len ≡ 0 → p.at.0 ≡ 0
  pub some : 0 < p.len → base ≤ p.at.0

-- an empty part is no text
no_part_lem : (image : List ℕ) (t : Tree) (base : ℕ) → 0 - base ≡ 0 → part_of image t base no_part ≡ Text.no_text
unfolding padded
no_part_lem image t base e = rw e
