-- The loop keeps what Going says: once the concatenations that are left are written, all are.
use Rattle.std.proofs.Common.{◌≡◌, ◌-◌, List, length}
use Rattle.definition.specs.TokenStream.{Stream}
use Rattle.token_stream.specs.write.Written.{Concatenations}
use Rattle.token_stream.proofs.write.Rounds.{Going}
use Rattle.token_stream.proofs.list.TokenList.put_concatenations.Given as goal

abbrev pub invariant-loop-q : goal.invariant-loop-q
invariant-loop-q l =
    let list = l.self.list.now in
    let text = l.self.text.now in
    let from = l.initial in
    (length l.area ≡ length from.area)
    × ((cc : List (List Stream)) → Concatenations list text l.base l.at 0 from.p cc
    → Going list text l.base l.at from.p from.area cc l.row l.a l.p l.area)

abbrev pub decreases-loop-q : goal.decreases-loop-q
decreases-loop-q l = l.n - l.a
