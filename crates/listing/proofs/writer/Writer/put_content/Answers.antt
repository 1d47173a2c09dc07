-- `Writer::put_content` meets its contract.
use Rattle.std.specs.Prelude.{◌+◌}
use Rattle.std.proofs.Common.{◌≡◌, arith, sym, ◌∙◌, eq-eqb, ne_eqb}
use Rattle.definition.specs.Image.{u32_at, bytes_for}
use Rattle.listing.specs.words.Spaced.{spaced, spaced_one}
use Rattle.listing.specs.writer.Writes.{writes_none, ◌⨾◌, read_as}
use Rattle.listing.proofs.writer.Writer.put_content.Goals as goal

pub returns-in-1 : goal.returns-in-1
returns-in-1 c =
    let kind = u32_at c.args.a.now.bytes.now c.args.place in
    let size : c.div_ceil.result ≡ bytes_for (u32_at c.args.a.now.bytes.now (c.args.place + 12)) = omega (arith, c.div_ceil.ensures, c.u32_at-bits.ensures) in
    rw (eq-eqb kind 1 (sym c.u32_at.ensures ∙ c.in-1.is))
    (read_as (sym (spaced_one _)) (c.put_byte.ensures ⨾ (rw (c.u32_at-in-1.ensures, size) at c.put_number.ensures)))

pub returns-in-2 : goal.returns-in-2
returns-in-2 c =
    let kind = u32_at c.args.a.now.bytes.now c.args.place in
    rw (ne_eqb kind 1 (λ e. omega (arith, c.u32_at.ensures, c.in-2.is)), eq-eqb kind 2 (sym c.u32_at.ensures ∙ c.in-2.is))
    (read_as (sym (spaced_one _)) (c.put_byte-in-2.ensures ⨾ c.put_text_at.ensures))

pub returns-in_default : goal.returns-in_default
unfolding spaced
returns-in_default c =
    let kind = u32_at c.args.a.now.bytes.now c.args.place in
    rw (ne_eqb kind 1 (λ e. omega (arith, c.u32_at.ensures)), ne_eqb kind 2 (λ e. omega (arith, c.u32_at.ensures))) (writes_none _ (omega arith))
