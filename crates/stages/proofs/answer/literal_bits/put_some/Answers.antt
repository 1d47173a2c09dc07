-- Past the end nothing is written; whole bytes begin at a byte's first bit.
use Rattle.std.proofs.Common.{◌≡◌, ℕ, ◌*◌, ◌/◌, ◌%◌, ◌<◌, sym, ap, ◌∙◌, arith}
use Rattle.stages.specs.answer.literal_bits.Put.{with_bits}
use Rattle.stages.specs.answer.literal_bits.Places.{with_bits_past}
use Rattle.stages.proofs.answer.literal_bits.put_some.Goals as goal

pub returns-then-dst-q : goal.returns-then-dst-q
returns-then-dst-q c =
    let a = c.args in (
      omega arith,
      λ h. h,
      sym (with_bits_past a.dst.now a.at a.src.now a.from a.n (λ q. (c.slice_known-1.given q).fits) (omega arith)),
    )

pub returns : goal.returns
returns c =
    let w = c.whole-m in
    let a = c.args in
    let p : 0 < w.result = omega arith in
    let z : a.at % 8 ≡ 0 = (w.ensures.2 p).0 in
    let e : 8 * (a.at / 8) ≡ a.at = omega arith in (
      omega arith,
      λ h. omega arith,
      c.put_whole.ensures ∙ ap (λ (k : ℕ). with_bits a.dst.now k a.src.now a.from (8 * w.result)) e,
    )
