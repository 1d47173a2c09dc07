-- A component as stage 2 leaves it.
use Rattle.std.specs.Prelude.{◌≡◌, ◌∷◌}
use Rattle.definition.specs.Prelude.{true, List, []}
use Rattle.definition.specs.Image.{Placed}
use Rattle.definition.specs.Component.{Component}
use Rattle.definition.specs.Concatenation.{is_static_literal, bits_of, whole_literal}
use Rattle.prepared.specs.Bits.{Bits}

-- a literal of static range is the literal of its own bits from 0 to their number
pub record Fixed (c : Placed Component) : Type 0 where
  pub fixed : is_static_literal c.value ≡ true → c.value ≡ whole_literal (bits_of c.value)
  pub bits : Bits (bits_of c.value)

pub data AllFixed : List (Placed Component) → Type 0 where
  none_left : AllFixed []
  one_more : {c : Placed Component} {cs : List (Placed Component)} → Fixed c → AllFixed cs → AllFixed (c ∷ cs)
