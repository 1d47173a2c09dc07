-- `numbers::checked_neg` meets its contract: 0 - z is -z.
-- Assumes nothing.
use Rattle.std.proofs.Common.{neg_ℤ, ap, ◌∙◌}
use lib.IntN.{+ℤ_idl}
use Rattle.definition.specs.Numbers.{narrow}
use Rattle.numbers.specs.Value.{value_of}
use Rattle.numbers.proofs.I128.checked_neg.Goals as goal

pub returns : goal.returns
unfolding value_of
returns c = c.checked_sub.ensures ∙ ap narrow (+ℤ_idl (neg_ℤ (value_of c.args.self)))
