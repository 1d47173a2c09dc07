-- `Writer::put_end` meets its contract.
use Rattle.std.proofs.Common.{sym, ◌∙◌, ◌+◌, eq-eqb}
use Rattle.definition.specs.Basics.{ascii}
use Rattle.definition.specs.Image.{u32_at}
use Rattle.listing.proofs.writer.Writer.put_end.Goals as goal

pub returns-then-u32_at-eq0 : goal.returns-then-u32_at-eq0
unfolding ascii
returns-then-u32_at-eq0 c =
    rw (eq-eqb (u32_at c.args.a.now.bytes.now (c.args.place + 20)) 0 (sym c.u32_at.ensures ∙ c.if-u32_at-eq0.true)) c.put_byte.ensures
