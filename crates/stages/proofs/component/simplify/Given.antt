-- Of a component as stage 1 leaves it, stage 2 in code leaves no end that is a number below 0.
use Rattle.std.specs.Prelude.{Ok, ◌-◌}
use Rattle.std.proofs.Common.{◌≤◌, sym, arith}
use Rattle.definition.specs.Prelude.{ℕ, List, drop}
use Rattle.definition.specs.Component.{simplify}
use Rattle.laws.specs.Lists.{length_tab}
use Rattle.stages.specs.answer.literal_bits.Put.{bit_of}
use Rattle.stages.specs.ranges.Values.{Tree}
use Rattle.stages.specs.component.Values.{type_of, component_of, TypeParsed, ComponentParsed, StagedReads}
use Rattle.stages.specs.component.Kept.{EndGiven}
use Rattle.stages.specs.declared.component.types.ComponentType.{ComponentType}
use Rattle.stages.specs.declared.component.types.ComponentType.TheVariants as T
use Rattle.stages.specs.declared.component.types.Component.{Component}
use Rattle.stages.proofs.component.simplify.Ends.{FewBits, end_given}

module _ (image : List ℕ) (t : Tree) (base : ℕ) where
  pub few_bits : (c : ComponentType) → TypeParsed image t base c → FewBits (type_of image t base c)
  few_bits (T.Literal b) h =
      let e = length_tab (bit_of (drop b.at image)) b.from (b.to - b.from) in
      let l : b.to ≤ 4096 = h.0.short in
      omega arith
  few_bits (T.Variable p) h = tt
  few_bits T.Filler h = tt

  pub staged_given : (c d : Component) → ComponentParsed image t base c → StagedReads image t base (Ok d) (simplify (component_of image t base c))
      → EndGiven image t base d
  staged_given c d p h = end_given (component_of image t base c) (component_of image t base d) (few_bits c.c_type p.c_type) (sym h.is)
