use Rattle.std.proofs.Common.{◌≡◌, ◌+◌, ◌-◌, length, take, drop, replicate, sym, ap, ◌∙◌, arith, length-take-le, length-drop}
use Rattle.std.proofs.lemmas.List.{length-replicate}
use Rattle.std.proofs.lemmas.List.Edits.{sets}
use Rattle.laws.specs.Sets.{sets_past}
use Rattle.stages.specs.answer.literal_bits.Runs.{sets_cut}
use Rattle.stages.proofs.answer.blocks.Words.{put_run}
use Rattle.stages.proofs.answer.literal_bits.zero_bytes.Goals as goal

pub returns-then-dst-at : goal.returns-then-dst-at
returns-then-dst-at c =
    let a = c.args in
    sym (sets_past a.dst.now a.at (replicate a.n 0) (omega arith))

pub returns : goal.returns
returns c =
    let a = c.args in
    let m = c.min-m.result in
    let left = length-drop a.at a.dst.now in
    let d : a.at + m - a.at ≡ m = omega arith in
    let long : length (take (a.at + m - a.at) (drop a.at a.dst.now)) ≡ m = rw d (length-take-le m (drop a.at a.dst.now) (omega arith)) in
    put_run a.dst.now a.at m (replicate m 0) (c.fill.ensures.after (λ y e. e)) (ap (λ k. replicate k 0) long)
    (length-replicate m 0) (omega arith)
    ∙ ap (λ k. sets a.dst.now a.at (replicate k 0)) c.min-m.ensures
    ∙ sets_cut a.dst.now a.at a.n 0
