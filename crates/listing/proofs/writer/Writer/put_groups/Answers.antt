-- `Writer::put_groups` meets its contract.
use Rattle.std.proofs.Common.{arith}
use Rattle.listing.specs.writer.Writes.{toward, toward_end, ◌⨾◌, read_as}
use Rattle.listing.proofs.Concatenations.{group_next, groups_none, groups_all, stop_within}
use Rattle.listing.proofs.writer.Writer.put_groups.Goals as goal

pub loop-i-preserved : goal.loop-i-preserved
loop-i-preserved c =
    let a = c.args.a.now in
    let fields = c.u32_at-fields.result in
    record {
      within = omega (arith, c.stop_of-to.ensures, stop_within c.loop-i.k c.u32_at.result fields c.loop-i.invariant.within);
      written =
          toward _ _
          (group_next a.image.now a.bytes.now c.u32_at-groups.result fields c.loop-i.i c.loop-i.k c.stop_of-to.result c.loop-i-test.true c.loop-i.invariant.within
          (rw c.u32_at.ensures at c.stop_of-to.ensures))
          c.loop-i.invariant.written (c.put_group.ensures ⨾ c.put_fields.ensures);
    }

pub returns : goal.returns
returns c =
    let a = c.args.a.now in
    read_as (groups_all a.image.now a.bytes.now _ _ c.u32_at-groups.ensures c.u32_at-fields.ensures)
    (toward_end (groups_none a.image.now a.bytes.now _ _ c.loop-i.i c.loop-i.k c.loop-i-test.false) c.loop-i.invariant.written)
