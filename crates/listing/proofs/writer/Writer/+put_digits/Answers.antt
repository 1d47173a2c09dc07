-- `Writer::put_digits` meets its contract: a number below ten is its last digit, and a greater one is its tenth's digits and that.
use Rattle.std.proofs.Common.{sym, ◌∙◌, arith}
use Rattle.listing.proofs.decimal.Decimals.{put_none, put_last, put_more}
use Rattle.listing.proofs.writer.Writer.+put_digits.Goals as goal
use Rattle.listing.proofs.writer.Writer.+put_digits.Goals.{then-not-is_digit, else-not-is_digit}

pub returns-then-steps-eq0 : goal.returns-then-steps-eq0
returns-then-steps-eq0 t c = rw c.if-steps-eq0.true (put_none _ _ (omega arith))

pub returns : goal.returns
returns t c =
    let (tenth, digit) = c.divided_by_ten-t.ensures in
    elim c.if-not-is_digit.branch [
      | then-not-is_digit w ↦ put_more c.args.steps _ _ _ (omega arith) (sym c.is_digit.ensures ∙ w.if-not-is_digit.true) tenth digit w.put_digits.ensures (rw w.self-is at c.put_byte.ensures)
      | else-not-is_digit w ↦ put_last c.args.steps _ _ (omega arith) (sym c.is_digit.ensures ∙ w.if-not-is_digit.false) digit (rw w.self-is at c.put_byte.ensures)
    ]
