-- What a component's two stages give, by cases.
use Rattle.std.specs.Prelude as Std
use Rattle.std.specs.Prelude.{Ok, Err}
use Rattle.std.specs.Result.{MatchResult, IsErrAnd}
use Rattle.std.proofs.Common.{◌≡◌, sym, ap, ◌∙◌}
use Rattle.definition.specs.Prelude.{ℕ, List}
use Rattle.definition.specs.Basics.{Result, ◌>>=◌}
use Rattle.definition.specs.Component as Def
use Rattle.definition.specs.Component.{simplify}
use Rattle.errors.specs.declared.reasons.Reason.{Reason}
use Rattle.stages.specs.ranges.Values.{Tree}
use Rattle.stages.specs.component.Values.{component_of, ComponentReads, StagedReads}
use Rattle.stages.specs.component.Read.{ReadIs}
use Rattle.stages.specs.declared.component.types.Component.{Component}
use Rattle.stages.specs.declared.component.read.Unread.{Unread}
use Rattle.stages.specs.declared.component.read.Unread.TheVariants as U
use Rattle.stages.proofs.component.simplify.Given.{staged_given}

-- what stage 1 reads, by what stage 2 gives of it
pub read_is : (image : List ℕ) (t : Tree) (base : ℕ) (m : Result Def.Component) (c : Component) → ComponentReads image t base (Ok c) m
    → (q : Std.Result Component Reason) (o : Std.Result Component Unread) → StagedReads image t base q (simplify (component_of image t base c))
    → MatchResult q (λ d. o ≡ Ok d) (λ r. IsErrAnd o (λ u. u ≡ U.Second r)) → ReadIs image t base o m
read_is image t base m c h (Ok d) o g e =
    rw e (ap (λ x. x >>= simplify) (sym h.is) ∙ sym g.is, g.held, staged_given image t base c d h.held g)
read_is image t base m c h (Err r) (Ok d) g e = absurd e
read_is image t base m c h (Err r) (Err u) g e = rw e (component_of image t base c, sym h.is, sym g.is)
