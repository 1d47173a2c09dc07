-- The counts, and the offsets next to them, of each what four bytes hold.
use Rattle.std.proofs.Common.{refl, ap, ◌∙◌, ◌++◌}
use Rattle.std.proofs.lemmas.List.Edits.{sets}
use Rattle.definition.specs.Basics.{joined}
use Rattle.laws.specs.Writing.{and_then}
use Rattle.image.specs.token_tree.Tables.{counts_of, tables_of}
use Rattle.image.specs.writer.Written.{counts_bytes, offsets_bytes}
use Rattle.image.proofs.writer.put_header.Goals as goal

pub returns : goal.returns
unfolding joined
returns c =
    let l = c.args.area.now in
    let counts = counts_bytes (counts_of c.args.h) in
    let told = c.tables_for-p.ensures in (
      told,
      and_then l 0 20 counts (offsets_bytes (tables_of c.tables_for-p.result)) c.put_numbers.ensures refl
          (c.put_numbers-2.ensures ∙ (λ i. sets c.put_numbers.new.area 20
          (c.low.ensures i ++ c.low-2.ensures i ++ c.low-3.ensures i ++ c.low-4.ensures i ++ c.low-5.ensures i)))
          ∙ ap (λ x. sets l 0 (counts ++ offsets_bytes x)) told,
    )
