-- The loop keeps what Going says: once the components that are left are written, all are.
use Rattle.std.proofs.Common.{◌≡◌, List, length}
use Rattle.definition.specs.TokenStream.{Stream}
use Rattle.token_stream.specs.write.Written.{Concatenation}
use Rattle.token_stream.proofs.write.Turns.{Going}
use Rattle.token_stream.proofs.list.TokenList.put_concatenation.Given as goal

abbrev pub invariant-loop-p : goal.invariant-loop-p
invariant-loop-p l =
    let list = l.self.list.now in
    let text = l.self.text.now in
    let from = l.initial in
    (length l.area ≡ length from.area)
    × ((cs : List Stream) → Concatenation list text l.base l.a from.e from.p cs → Going list text l.base l.a from.p from.area cs l.e l.p l.area)

abbrev pub decreases-loop-p : goal.decreases-loop-p
decreases-loop-p l = l.e
