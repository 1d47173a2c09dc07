-- `output::answer` meets its contract.
use Rattle.std.specs.Prelude.{◌≡◌, ◌-◌, ◌≤◌}
use Rattle.std.proofs.Common.{arith, length-drop}
use Rattle.std.proofs.Math.Seq.{take_all}
use Rattle.std.proofs.lemmas.List.{take_min}
use Rattle.definition.specs.Prelude.{ℕ, List, length, take, drop}
use Rattle.definition.specs.Limits.{max_input}
use Rattle.output.proofs.Listing.{judged}
use Rattle.output.proofs.answer.Goals as goal

pub returns-in-len1-up : goal.returns-in-len1-up
returns-in-len1-up c =
    let input = c.args.input.now in
    let rest : List ℕ = take (length input - 1) (drop 1 input) in
    let whole : rest ≡ drop 1 input = take_all (length input - 1) (drop 1 input) (omega (arith, length-drop 1 input)) in
    let part : take c.min.result rest ≡ take (max_input - 1) (drop 1 input) = rw (c.min.ensures, take_min, whole) in
    rw (judged input c.in-len1-up.len_at_least (take c.min.result rest) part) at c.listed.ensures
