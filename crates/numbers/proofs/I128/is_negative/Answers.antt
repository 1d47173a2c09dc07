-- `numbers::is_negative` meets its contract: the sign is the highest bit.
-- Assumes nothing.
use Rattle.numbers.proofs.Words.{negative_bit}
use Rattle.numbers.proofs.I128.is_negative.Goals as goal

pub returns : goal.returns
returns c = negative_bit c.args.self
