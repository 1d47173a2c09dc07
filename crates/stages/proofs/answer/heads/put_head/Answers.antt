use Rattle.std.proofs.Common.{◌≡◌, ◌+◌, sym, refl, ap, ◌∙◌}
use Rattle.std.specs.Option.{is_some}
use Rattle.definition.specs.Answer.{flag}
use Rattle.stages.specs.answer.Blocks.{start_part}
use Rattle.stages.proofs.answer.heads.Headed.{given_is, head_put}
use Rattle.stages.proofs.answer.heads.put_head.Goals as goal
use Rattle.stages.proofs.answer.heads.put_head.Goals.{in-Some, in-None}

pub returns : goal.returns
returns c =
    let a = c.args in
    let text : c.match-s.text ≡ start_part a.s =
    elim c.match-s.branch [
      | in-Some w ↦ rw (w.text-is, w.in-Some.is) refl
      | in-None w ↦ rw (w.text-is, w.in-None.is) w.no_text-text.ensures
    ] in
    let same : c.match-s.s ≡ a.s = elim c.match-s.branch [ in-Some w ↦ w.s-is ∙ sym w.in-Some.is | in-None w ↦ w.s-is ] in
    let flags = c.flags_of.ensures
    ∙ ap (λ b. flag a.o.deterministic 1 + flag a.o.nonzero 2 + flag b 4) (given_is a.s c.is_some.result (c.is_some.ensures ∙ ap is_some same)) in
    head_put a.area.now a.c a.m _ _ _ c.width_number.result c.flags_of.result c.align_number.result _ c.match-s.text c.width_number.ensures flags
    c.align_number.ensures text c.put_u32.ensures c.put_u32-2.ensures c.put_u64.ensures c.put_u32-3.ensures c.put_u32-4.ensures c.put_text.ensures
