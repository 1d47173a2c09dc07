use Rattle.image.specs.token_tree.Tables.{counts_of, tables_of}
use Rattle.image.proofs.check.Sums.{entries_whole}
use Rattle.image.proofs.check.entries.entries_right.Goals as goal

pub returns : goal.returns
returns c =
    let a = c.args in
    rw (c.widths_right.ensures, c.sizes_right-2.ensures, c.sizes_right.ensures)
    (entries_whole a.image.now (counts_of a.h) (tables_of a.at) c.requires.counted c.requires.placed)
