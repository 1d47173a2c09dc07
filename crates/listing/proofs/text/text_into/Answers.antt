-- `text_into` meets its contract.
use Rattle.std.proofs.Common.{arith}
use Rattle.listing.specs.writer.Writes.{writes_none, ◌⨾◌, read_as}
use Rattle.listing.proofs.text.Texts.{shown_none, shown_more}
use Rattle.listing.proofs.text.text_into.Goals as goal

pub loop-i-init : goal.loop-i-init
loop-i-init c = rw (shown_none c.args.s.now c.args.from) (writes_none _ (omega arith))

pub loop-i-preserved : goal.loop-i-preserved
loop-i-preserved c =
    read_as (shown_more c.args.s.now c.args.from c.loop-i.i) (c.loop-i.invariant ⨾ (rw c.byte_on.ensures at c.put_shown.ensures))
