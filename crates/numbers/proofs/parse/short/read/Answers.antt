-- `read` meets its contract: a value comes from digits without a prefix.
use Rattle.std.proofs.Common.{arith}
use Rattle.std.proofs.lemmas.Option.{IfSome_then}
use Rattle.numbers.proofs.parse.ShortDecimal.{as_it_stands}
use Rattle.numbers.proofs.parse.short.read.Goals as goal

pub returns : goal.returns
returns c = IfSome_then c.value.result c.value.ensures (λ n told. as_it_stands n c.args.s.now (omega arith) (grind arith) (grind arith) told.1)
