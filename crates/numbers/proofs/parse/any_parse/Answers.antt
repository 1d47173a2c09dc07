-- `any_parse` meets its contract: a law for each way through it.
use Rattle.std.proofs.Common.{ap, ◌∙◌, arith}
use Rattle.numbers.proofs.parse.Reading.{turned, try_empty, try_plain, try_minus}
use Rattle.numbers.proofs.parse.any_parse.Goals as goal

pub returns-in-empty : goal.returns-in-empty
returns-in-empty c = try_empty c.args.s.now c.in-empty.len_below

pub returns-in_err-unsigned_parse-in-45 : goal.returns-in_err-unsigned_parse-in-45
returns-in_err-unsigned_parse-in-45 c =
    rw c.from_residual.ensures (ap turned c.in_err-unsigned_parse-in-45.ensures ∙ try_minus _ c.in-45.len_at_least (omega arith))

pub returns-in_ok-unsigned_parse-in-45 : goal.returns-in_ok-unsigned_parse-in-45
returns-in_ok-unsigned_parse-in-45 c =
    c.checked_neg.ensures ∙ (ap turned c.in_ok-unsigned_parse-in-45.ensures ∙ try_minus _ c.in-45.len_at_least (omega arith))

pub returns-in_default : goal.returns-in_default
returns-in_default c = c.unsigned_parse-in_default.ensures ∙ try_plain _ c.in_default.len_at_least (omega arith)
