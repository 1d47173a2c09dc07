-- One byte is written.
use Rattle.std.proofs.Common.{◌+◌, ◌%◌, ◌≤◌, sym, arith}
use Rattle.stages.specs.answer.literal_bits.Places.{with_bits_byte, blended_bound}
use Rattle.stages.proofs.answer.literal_bits.put_in.Goals as goal

pub blend-requires : goal.blend-requires
blend-requires c =
    let a = c.args in
    let w = c.min-w.result in
    let l : a.at % 8 + w ≤ 8 = omega arith in (
      l,
      rw c.bits_at.ensures
          (blended_bound a.dst.now a.at a.src.now a.from w (λ q. (c.slice_known-1.given q).fits)
          (λ q. (c.type_inv.src q).fits) l),
    )

pub returns : goal.returns
returns c =
    let a = c.args in
    let w = c.min-w.result in
    let l : a.at % 8 + w ≤ 8 = omega arith in (
      omega arith,
      λ h. omega arith,
      rw (c.blend.ensures, c.bits_at.ensures)
          (sym (with_bits_byte a.dst.now a.at a.src.now a.from w (λ q. (c.slice_known-1.given q).fits)
          (λ q. (c.type_inv.src q).fits) l c.requires)),
    )
