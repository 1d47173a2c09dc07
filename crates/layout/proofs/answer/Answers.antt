-- No listing is cut, since the buffer has room for every one.
use Rattle.std.proofs.Common.{arith}
use Rattle.output.specs.Printed.{printed}
use Rattle.layout.proofs.answer.Goals as goal

pub unwrap-n-requires : goal.unwrap-n-requires
unwrap-n-requires g c =
    rw (printed c.args.input.now c.listing_buffer-listing.result c.answer.new.out c.answer.result (omega arith) c.answer.ensures).0
