-- `Writer::put_group` meets its contract.
use Rattle.std.specs.Prelude.{◌∷◌}
use Rattle.std.proofs.Common.{◌∙◌}
use Rattle.definition.specs.Prelude.{[]}
use Rattle.definition.specs.Basics.{ascii}
use Rattle.definition.specs.Listing.{decimal, summary_words}
use Rattle.listing.specs.words.Spaced.{line_counted}
use Rattle.listing.specs.writer.Writes.{◌⨾◌, read_as}
use Rattle.listing.proofs.writer.Writer.put_group.Goals as goal

pub returns : goal.returns
unfolding ascii
returns c =
    read_as
    (line_counted (99 ∷ []) (decimal c.args.i) (decimal c.u32_at-size.result) (summary_words c.width_at-width.result c.u32_at-align.result c.u32_at-flags.result)
    ∙ rw (c.u32_at-size.ensures, c.u32_at-align.ensures, c.u32_at-flags.ensures, c.width_at-width.ensures))
    (c.put_byte.ensures ⨾ c.put_count.ensures ⨾ c.put_count-2.ensures ⨾ c.put_summary.ensures ⨾ c.put_byte-2.ensures)
