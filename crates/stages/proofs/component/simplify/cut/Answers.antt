use Rattle.std.proofs.Common.{arith}
use Rattle.stages.proofs.component.simplify.Cuts.{cut_fits, end_small, cut_none, cut_end, cut_numbers}
use Rattle.stages.proofs.component.simplify.cut.Goals.{in-Some-end_val, in-None}
use Rattle.stages.proofs.component.simplify.cut.Goals as goal

pub cut_both-requires : goal.cut_both-requires
cut_both-requires c =
    let a = c.args in
    let (few, (image, t, base, h)) = c.requires in
    cut_fits image t base a.literal.to (omega (arith, few)) a.m.range.start a.m.range.«end» c.in-Some.x c.in-Some.y h
    (c.in-Some.ensures image t base)

pub overflow_cast-to : goal.overflow_cast-to
overflow_cast-to c =
    let a = c.args in
    let (few, (image, t, base, h)) = c.requires in
    record {
      fits = end_small image t base a.literal.to (omega (arith, few)) a.m.range.start a.m.range.«end» c.in-Some-end_val.y h
          (c.in-Some-end_val.ensures image t base);
    }

pub returns-in-Some : goal.returns-in-Some
returns-in-Some c image t base whole h m =
    let a = c.args in
    rw c.cut_both.ensures
    (cut_numbers image t base a.literal whole a.m.range.start a.m.width a.m.range.«end» c.in-Some.x c.in-Some.y h m (c.in-Some.ensures image t base))

pub returns : goal.returns
returns c image t base whole h m =
    let a = c.args in
    let known = c.in_default.ensures image t base in
    elim c.match-end_val.branch [
      | in-Some-end_val w ↦
          rw w.to-is
          (cut_end image t base a.literal whole a.m.range.start a.m.width a.m.range.«end» w.in-Some-end_val.y h m (w.in-Some-end_val.ensures image t base) known)
      | in-None w ↦
          rw w.to-is (cut_none image t base a.literal whole a.m.range.start a.m.width a.m.range.«end» h m (w.in-None.ensures image t base))
    ]
