use Rattle.image.specs.token_tree.Tables.{entry_in}
use Rattle.image.proofs.check.records.numbers_at.Goals as goal

pub returns : goal.returns
unfolding entry_in
returns c text =
    rw (c.four_at.ensures, c.four_at-2.ensures, c.stop_at.ensures, c.four_at-3.ensures)
