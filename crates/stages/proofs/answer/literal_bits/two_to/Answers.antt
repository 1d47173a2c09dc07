-- A 1 that is shifted by at most 8 places is not shifted out.
use Rattle.std.proofs.Common.{◌≡◌, ◌*◌, ◌%◌, ◌^◌, ◌<◌, ◌∙◌, one-mul, arith, pow_pos, shl_exact}
use Rattle.stages.proofs.answer.literal_bits.two_to.Goals as goal

pub returns : goal.returns
returns c =
    let k = c.args.k in
    let e : (1 * 2 ^ k) % 2 ^ 64 ≡ 2 ^ k = shl_exact 1 k 64 (omega arith) (omega arith) ∙ one-mul (2 ^ k) in
    let p : 0 < 2 ^ k = pow_pos k in
    (e, rw e p)
