use Rattle.std.proofs.Common.{◌≡◌, refl, inl, inr}
use Rattle.stages.specs.answer.Blocks.{head_block, type_block, present}
use Rattle.stages.proofs.answer.blocks.Joins.{plain_put}
use Rattle.stages.proofs.answer.blocks.put_plain.Goals as goal
use Rattle.stages.proofs.answer.blocks.put_plain.Goals.{in-Variable, in-Literal}

pub returns : goal.returns
returns c =
    let a = c.args in
    let e = a.c.range.«end» in
    let k = c.match-c.kind in
    let block : head_block k.0 k.1 (present e) ≡ type_block a.c.c_type (present e) =
    elim c.match-c.branch [
      | in-Variable w ↦ rw (w.in-Variable.is, w.kind-is) refl
      | in-Literal w ↦ elim w.in-Literal.is [
        | inl b ↦ rw (b.1, w.kind-is, w.no_text.ensures) refl
        | inr f ↦ rw (f, w.kind-is, w.no_text.ensures) refl
      ]
    ] in
    plain_put a.area.now a.at a.c k.0 k.1 c.is_some.result c.put_type.ensures c.is_some.ensures c.put_range.ensures block
