-- The bytes of text of a component before and after the stages, and of a starting value.
use Rattle.std.specs.Prelude.{◌*◌}
use Rattle.definition.specs.Prelude.{ℕ, Option, none, some, length}
use Rattle.definition.specs.Image.{Unparsed, Placed}
use Rattle.definition.specs.Tree.{text_of}
use Rattle.definition.specs.Text.{Part}
use Rattle.definition.specs.Component.{Component}
use Rattle.listing_length.specs.run.Components.{component_text}

-- the bytes of a component's records, twice
abbrev pub twice : Placed Unparsed → ℕ
twice u = 2 * length (text_of u.value.recs)

abbrev pub texts_of : Placed Component → ℕ
texts_of c = component_text c.value

abbrev pub init_text : Option (Placed Part) → ℕ
init_text none = 0
init_text (some p) = length p.value.bytes
