-- The components that stages 1 and 2 keep for the stages behind, and the placed components that they are.
use Rattle.std.specs.Prelude.{◌≡◌, ◌∷◌}
use Rattle.definition.specs.Prelude.{ℕ, true, List, [], length, take, drop, non_neg}
use Rattle.definition.specs.Image.{Placed}
use Rattle.definition.specs.Component as Def
use Rattle.definition.specs.Component.{if_static_end}
use Rattle.stages.specs.token_tree.Table.{tree_in}
use Rattle.stages.specs.ranges.Values.{Tree, usbr_of}
use Rattle.stages.specs.component.Values.{component_of, ComponentStaged}
use Rattle.stages.specs.declared.component.types.Component.{Component}

-- after stage 2 no end is a number below 0
abbrev pub EndGiven : List ℕ → Tree → ℕ → Component → Type 0
EndGiven image t base c = if_static_end non_neg (usbr_of image t base c.range) ≡ true

-- a component that is kept of an image, and the placed component that it is
pub record Is (image : List ℕ) (t : Tree) (c : Component) (p : Placed Def.Component) : Type 0 where
  pub value : component_of image t p.base c ≡ p.value
  pub staged : ComponentStaged image t p.base c
  pub ended : EndGiven image t p.base c

-- one by one
abbrev pub Are : List ℕ → Tree → List Component → List (Placed Def.Component) → Type 0
Are image t [] [] = Unit
Are image t [] (p ∷ ps) = ⊥
Are image t (c ∷ cs) [] = ⊥
Are image t (c ∷ cs) (p ∷ ps) = Is image t c p × Are image t cs ps

-- those from component k on
abbrev pub KeptIn : List ℕ → Tree → List Component → ℕ → List (Placed Def.Component) → Type 0
KeptIn image t kept k ps = Are image t (take (length ps) (drop k kept)) ps

abbrev pub KeptFrom : List ℕ → List Component → ℕ → List (Placed Def.Component) → Type 0
KeptFrom image = KeptIn image (tree_in image)
