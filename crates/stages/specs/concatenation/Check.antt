-- Stage 3 of one concatenation over its kept components.
use Rattle.std.specs.Prelude as Std
use Rattle.std.specs.Prelude.{Ok, Err}
use Rattle.definition.specs.Prelude.{List}
use Rattle.definition.specs.Basics.{Result, ok}
use Rattle.definition.specs.Image.{Placed}
use Rattle.definition.specs.Component.{Component}
use Rattle.definition.specs.Concatenation.{Concatenation, Running}
use Rattle.errors.specs.Refused.{refused_as}
use Rattle.errors.specs.declared.Refusal.{Refusal}
use Rattle.stages.specs.concatenation.running_check.Running.{running_of}
use Rattle.stages.specs.declared.concatenation.running_check.Running.{Running as Now}

-- a concatenation of these components, by the running check after its last
abbrev pub concatenation_with : List (Placed Component) → Running → Concatenation
concatenation_with cs r = record { comps = cs; align = r.align; width = r.width; deterministic = r.deterministic; nonzero = r.nonzero }

-- the definition's answer of a concatenation of these components
abbrev pub concatenation_of : List (Placed Component) → Std.Result Now Refusal → Result Concatenation
concatenation_of cs (Ok r) = ok (concatenation_with cs (running_of r))
concatenation_of cs (Err q) = refused_as q
