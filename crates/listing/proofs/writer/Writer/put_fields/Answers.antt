-- `Writer::put_fields` meets its contract.
use Rattle.listing.specs.writer.Writes.{toward, toward_end}
use Rattle.listing.proofs.Concatenations.{field_next, fields_none}
use Rattle.listing.proofs.writer.Writer.put_fields.Goals as goal

pub loop-k-preserved : goal.loop-k-preserved
loop-k-preserved c =
    let a = c.args.a.now in
    toward _ _ (field_next a.image.now a.bytes.now c.loop-k.k c.args.to c.loop-k-test.true) c.loop-k.invariant c.put_field.ensures

pub returns : goal.returns
returns c =
    let a = c.args.a.now in
    toward_end (fields_none a.image.now a.bytes.now c.loop-k.k c.args.to c.loop-k-test.false) c.loop-k.invariant
