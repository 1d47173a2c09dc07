-- `Writer::put_answer` meets its contract.
use Rattle.std.proofs.Common.{sym}
use Rattle.listing.specs.Parts.{answer_parts}
use Rattle.listing.specs.writer.Writes.{◌⨾◌, read_as}
use Rattle.listing.proofs.writer.Writer.put_answer.Goals as goal

pub returns : goal.returns
returns c = read_as (sym (answer_parts c.args.a.now.image.now c.args.a.now.bytes.now)) (c.put_head.ensures ⨾ c.put_groups.ensures)
