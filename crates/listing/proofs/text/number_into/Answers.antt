-- `number_into` meets its contract.
use Rattle.std.proofs.Common.{rules, ◌≡◌, arith, ◌∙◌, ap}
use Rattle.listing.specs.writer.Writes.{toward, toward_end}
use Rattle.listing.proofs.text.Texts.{byte_read, hexes, hexes_next, hexes_none}
use Rattle.listing.proofs.text.number_into.Goals as goal

pub loop-i-preserved : goal.loop-i-preserved
loop-i-preserved c =
    let a = c.args in
    toward _ _ (hexes_next a.s.now a.from c.loop-i.i (omega arith)) c.loop-i.invariant (rw (byte_read c.args.s.now c.args.from _ c.bytes_from-bytes.ensures c.byte_at.ensures) at c.put_hex.ensures)

pub returns : goal.returns
returns c =
    let a = c.args in
    let e : c.loop-i.i ≡ 0 = omega arith in
    let all = (toward_end (ap (hexes a.s.now a.from) e ∙ hexes_none a.s.now a.from) c.loop-i.invariant).put in
    search rules
