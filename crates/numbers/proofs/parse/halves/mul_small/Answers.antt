-- `mul_small` meets its contract: sums and products by parts of 32 bits.
use Rattle.std.proofs.Common.{◌/◌, ◌%◌, ◌^◌, mul-le-mul_left, arith}
use Rattle.numbers.proofs.parse.Product.{by_parts}
use Rattle.numbers.proofs.parse.halves.mul_small.Goals as goal

pub returns : goal.returns
returns c = omega (arith, by_parts c.args.x c.args.m, mul-le-mul_left (c.args.x % 2 ^ 32) c.requires.0, mul-le-mul_left (c.args.x / 2 ^ 32) c.requires.0)
