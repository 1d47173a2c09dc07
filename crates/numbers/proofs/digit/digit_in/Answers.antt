-- `digit_in` meets its contract: the rule of the table that is lent.
use Rattle.std.proofs.Common.{rules}
use Rattle.numbers.proofs.parse.Digits.{is_digit, no_digit}
use Rattle.numbers.proofs.digit.digit_in.Goals as goal

pub returns-then-d-radix : goal.returns-then-d-radix
returns-then-d-radix c = is_digit c.args.worths.now c.requires.1 c.args.radix c.args.b c.requires.0 (search rules) c.if-d-radix.true

pub returns-else-d-radix : goal.returns-else-d-radix
returns-else-d-radix c = no_digit c.args.worths.now c.requires.1 c.args.radix c.args.b c.requires.0 (search rules) c.if-d-radix.false
