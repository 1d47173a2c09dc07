-- `from_str_radix` meets its contract: a law for each way through it.
use Rattle.std.proofs.Common.{pos, ap, ◌∙◌, arith}
use Rattle.definition.specs.Numbers.{signed_as}
use Rattle.numbers.specs.parse.Parts.{negated}
use Rattle.numbers.proofs.parse.Reading.{inner_minus, inner_plus, inner_bare}
use Rattle.numbers.proofs.parse.from_str_radix.Goals as goal

pub returns-in_err-magnitude-in-45 : goal.returns-in_err-magnitude-in-45
returns-in_err-magnitude-in-45 c =
    rw c.from_residual.ensures (ap (signed_as negated) c.in_err-magnitude-in-45.ensures ∙ inner_minus _ _ c.in-45.len_at_least (omega arith))

pub returns-in_err-magnitude-in-43 : goal.returns-in_err-magnitude-in-43
returns-in_err-magnitude-in-43 c =
    rw c.from_residual-in_err-magnitude-in-43.ensures (ap (signed_as (λ n. pos n)) c.in_err-magnitude-in-43.ensures ∙ inner_plus _ _ c.in-43.len_at_least (omega arith))

pub returns-in_err-magnitude-in_default : goal.returns-in_err-magnitude-in_default
returns-in_err-magnitude-in_default c =
    rw c.from_residual-in_err-magnitude-in_default.ensures
    (ap (signed_as (λ n. pos n)) c.in_err-magnitude-in_default.ensures ∙ inner_bare _ _ (λ h. (grind arith, grind arith)))

pub returns-in_ok-magnitude-in-45 : goal.returns-in_ok-magnitude-in-45
returns-in_ok-magnitude-in-45 c =
    c.negative.ensures ∙ (ap (signed_as negated) c.in_ok-magnitude-in-45.ensures ∙ inner_minus _ _ c.in-45.len_at_least (omega arith))

pub returns-in_ok-magnitude-in-43 : goal.returns-in_ok-magnitude-in-43
returns-in_ok-magnitude-in-43 c =
    c.positive.ensures ∙ (ap (signed_as (λ n. pos n)) c.in_ok-magnitude-in-43.ensures ∙ inner_plus _ _ c.in-43.len_at_least (omega arith))

pub returns-in_ok-magnitude-in_default : goal.returns-in_ok-magnitude-in_default
returns-in_ok-magnitude-in_default c =
    c.positive-in_default.ensures ∙ (ap (signed_as (λ n. pos n)) c.in_ok-magnitude-in_default.ensures ∙ inner_bare _ _ (λ h. (grind arith, grind arith)))
