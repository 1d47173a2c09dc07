-- A component in code as the definition's: `base` is where its text begins in the text table.
use Rattle.std.specs.Prelude as Std
use Rattle.std.specs.Prelude.{Some, None, ◌≡◌, ◌≤◌, ◌-◌}
use Rattle.definition.specs.Prelude.{ℕ, List, length, drop}
use Rattle.definition.specs.Basics.{Result}
use Rattle.definition.specs.Component as Def
use Rattle.errors.specs.declared.reasons.Reason.{Reason}
use Rattle.stages.specs.answer.literal_bits.Put.{bits_from}
use Rattle.stages.specs.token_tree.Parts.{part_of, PartFits}
use Rattle.stages.specs.ranges.Values.{Tree, zero_by, usbr_of, answered, Held, UsbrFits, Measured}
use Rattle.stages.specs.declared.ranges.types.Usb.{Usb}
use Rattle.stages.specs.declared.ranges.types.Usbr.{Usbr}
use Rattle.stages.specs.declared.component.types.Bits.{Bits}
use Rattle.stages.specs.declared.component.types.ComponentType.{ComponentType}
use Rattle.stages.specs.declared.component.types.ComponentType.TheVariants as T
use Rattle.stages.specs.declared.component.types.Component.{Component}

abbrev pub component_by : ComponentType → Usbr → Component
component_by t r = record { c_type = t; range = r; width = None }

abbrev pub end_or : Std.Option Usb → Usb
end_or (Some u) = u
end_or None = zero_by

-- ---- what they mean

abbrev pub bits_of : List ℕ → Bits → List ℕ
bits_of image b = bits_from (drop b.at image) b.from (b.to - b.from)

abbrev pub type_of : List ℕ → Tree → ℕ → ComponentType → Def.ComponentType
type_of image t base (T.Literal b) = Def.literal (bits_of image b)
type_of image t base (T.Variable p) = Def.variable (part_of image t base p)
type_of image t base T.Filler = Def.filler

abbrev pub component_of : List ℕ → Tree → ℕ → Component → Def.Component
component_of image t base c = record { c_type = type_of image t base c.c_type; range = usbr_of image t base c.range }

-- ---- texts and literals within the image, and bits in order and within a literal's 4,096

-- a whole literal, maybe of no bit
pub record Whole (image : List ℕ) (b : Bits) : Type 0 where
  pub from : b.from ≡ 0
  pub short : b.to ≤ 4096
  pub inside : b.at ≤ length image

-- some of a literal's bits
pub record BitsFit (image : List ℕ) (b : Bits) : Type 0 where
  pub order : b.from ≤ b.to
  pub short : b.to ≤ 4096
  pub inside : b.at ≤ length image

abbrev pub Ordered : ComponentType → Type 0
Ordered (T.Literal b) = b.from ≤ b.to
Ordered (T.Variable p) = Unit
Ordered T.Filler = Unit

abbrev pub TypeFits : List ℕ → Tree → ℕ → ComponentType → Type 0
TypeFits image t base (T.Literal b) = BitsFit image b
TypeFits image t base (T.Variable p) = PartFits image t base p
TypeFits image t base T.Filler = Unit

-- as stage 1 leaves it: a literal has one bit or more, and is whole
abbrev pub TypeParsed : List ℕ → Tree → ℕ → ComponentType → Type 0
TypeParsed image t base (T.Literal b) = Whole image b × (1 ≤ b.to)
TypeParsed image t base (T.Variable p) = PartFits image t base p
TypeParsed image t base T.Filler = Unit

pub record ComponentParsed (image : List ℕ) (t : Tree) (base : ℕ) (c : Component) : Type 0 where
  pub c_type : TypeParsed image t base c.c_type
  pub range : UsbrFits image t base c.range

-- as stage 2 leaves it: with its static width
pub record ComponentStaged (image : List ℕ) (t : Tree) (base : ℕ) (c : Component) : Type 0 where
  pub c_type : TypeFits image t base c.c_type
  pub measured : Measured image t base c.range c.width

-- ---- an answer is the definition's m

-- of stage 1
pub record ComponentReads (image : List ℕ) (t : Tree) (base : ℕ) (q : Std.Result Component Reason) (m : Result Def.Component) : Type 0 where
  pub is : answered (component_of image t base) q ≡ m
  pub held : Held (ComponentParsed image t base) q

-- of stage 2
pub record StagedReads (image : List ℕ) (t : Tree) (base : ℕ) (q : Std.Result Component Reason) (m : Result Def.Component) : Type 0 where
  pub is : answered (component_of image t base) q ≡ m
  pub held : Held (ComponentStaged image t base) q
