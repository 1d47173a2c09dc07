-- `unsigned_parse` meets its contract: a law for each way through it.
use Rattle.std.proofs.Common.{◌∙◌, arith}
use Rattle.numbers.proofs.parse.Reading.{decimal, no_radix, in_radix}
use Rattle.numbers.proofs.parse.unsigned_parse.Goals as goal

pub returns-then-s-le2 : goal.returns-then-s-le2
returns-then-s-le2 c = c.from_str_radix.ensures ∙ decimal c.args.s.now (grind arith)

pub returns-in_err-radix_of : goal.returns-in_err-radix_of
returns-in_err-radix_of c =
    rw c.from_residual.ensures (no_radix c.args.s.now c.if-s-le2.false c.if-s-ne48.false c.in_err-radix_of.ensures.value)

pub returns : goal.returns
returns c = c.from_str_radix-2.ensures ∙ in_radix c.args.s.now c.if-s-le2.false c.if-s-ne48.false _ c.in_ok-radix_of.ensures.value
