-- Test after test: the first that fails refuses.
use Rattle.std.proofs.Common.{◌∙◌}
use Rattle.image.proofs.check.Whole.{too_short, miscounted, misplaced, wrong_entry, all_but_records}
use Rattle.image.proofs.check.checked.Goals as goal

pub returns-then-image-lt40 : goal.returns-then-image-lt40
returns-then-image-lt40 c = too_short c.args.image.now c.if-image-lt40.true

pub returns-then-not-counts_right : goal.returns-then-not-counts_right
returns-then-not-counts_right c =
    miscounted c.args.image.now c.if-image-lt40.false c.counts_at-h.result c.counts_at-h.ensures (cc)

pub returns-then-not-offsets_right : goal.returns-then-not-offsets_right
returns-then-not-offsets_right c =
    misplaced c.args.image.now c.if-image-lt40.false c.counts_at-h.result c.counts_at-h.ensures (cc) c.tables_for-at.result
    c.tables_for-at.ensures (cc)

pub returns-then-not-entries_right : goal.returns-then-not-entries_right
returns-then-not-entries_right c =
    wrong_entry c.args.image.now c.if-image-lt40.false c.counts_at-h.result c.counts_at-h.ensures (cc) c.tables_for-at.result
    c.tables_for-at.ensures (cc) (cc)

pub returns : goal.returns
returns c =
    c.records_check.ensures
    ∙ all_but_records c.args.image.now c.if-image-lt40.false c.counts_at-h.result c.counts_at-h.ensures (cc) c.tables_for-at.result
    c.tables_for-at.ensures (cc) (cc)
