-- What the type of a kept component says of the placed component.
use Rattle.std.proofs.Common.{◌≡◌, sym, refl, ap, ◌∙◌}
use Rattle.definition.specs.Prelude.{ℕ, Bool, List}
use Rattle.definition.specs.Image.{Placed}
use Rattle.definition.specs.Component as Def
use Rattle.definition.specs.Concatenation.{bits_of, is_static_literal}
use Rattle.stages.specs.ranges.Values.{Tree}
use Rattle.stages.specs.component.Kept.{Is}
use Rattle.stages.specs.component.Values as Values
use Rattle.stages.specs.component.Values.{component_of}
use Rattle.stages.specs.declared.component.types.Bits.{Bits}
use Rattle.stages.specs.declared.component.types.ComponentType.TheVariants as T
use Rattle.stages.specs.declared.component.types.Component.{Component}

abbrev pub NoLiteral : Component → Type 0
NoLiteral c = (b : Bits) → c.c_type ≡ T.Literal b → ⊥

module _ (image : List ℕ) (t : Tree) (c : Component) (d : Placed Def.Component) (is : Is image t c d) where
  -- a literal's bits in the image
  pub bits_are : (b : Bits) → c.c_type ≡ T.Literal b → bits_of d.value ≡ Values.bits_of image b
  bits_are b e = ap bits_of (sym is.value) ∙ rw e refl

  -- whether it is a static literal
  pub static_is : (x : Bool) → is_static_literal (component_of image t d.base c) ≡ x → is_static_literal d.value ≡ x
  static_is x e = ap is_static_literal (sym is.value) ∙ e
