-- `I128::from` of a u64 meets its contract: the high half is 0.
-- Assumes nothing.
use Rattle.std.proofs.Common.{refl}
use Rattle.numbers.specs.Value.{two}
use Rattle.numbers.proofs.Small.{small}
use Rattle.numbers.proofs.I128FromU64.from.Goals as goal

pub returns : goal.returns
returns c = (refl, small (two 0 c.args.x) refl)
