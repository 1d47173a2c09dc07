-- `numbers::parse::magnitude` meets its contract: the constant table has its rule.
use Rattle.std.proofs.Common.{rules}
use Rattle.numbers.proofs.digit.Worths.{worths, worths_right}
use Rattle.numbers.proofs.parse.magnitude.Goals as goal

pub magnitude_by-requires : goal.magnitude_by-requires
unfolding worths
magnitude_by-requires c = (search rules, search rules, worths_right)
