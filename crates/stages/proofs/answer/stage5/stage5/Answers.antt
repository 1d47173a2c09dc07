use Rattle.std.proofs.Common.{length, refl, ◌∙◌, arith}
use Rattle.stages.proofs.answer.stage5.Parts.{total_few, head_fits, put_fits, result_small, written}
use Rattle.stages.proofs.answer.stage5.stage5.Goals as goal

pub merged_of-m-requires : goal.merged_of-m-requires
merged_of-m-requires c = let (base, ds, h) = c.requires in h.few

pub overflow_cast-m : goal.overflow_cast-m
overflow_cast-m c =
    let a = c.args in
    let (base, ds, h) = c.requires in
    let few = total_few a.image.now a.kept.now a.heads.now base a.o a.s (length a.area.now) ds h c.merged_of-m.result c.merged_of-m.ensures in
    omega arith

pub put_head-requires : goal.put_head-requires
put_head-requires c =
    let a = c.args in
    let (base, ds, h) = c.requires in
    let fits = head_fits a.image.now a.kept.now a.heads.now base a.o a.s (length a.area.now) ds h c.merged_of-m.result c.merged_of-m.ensures in
    omega arith

pub put_concatenations-requires : goal.put_concatenations-requires
put_concatenations-requires c =
    let a = c.args in
    let (base, ds, h) = c.requires in
    let fits = head_fits a.image.now a.kept.now a.heads.now base a.o a.s (length a.area.now) ds h c.merged_of-m.result c.merged_of-m.ensures in
    let same = c.put_head.auto.area in
    (h.few, omega arith)

pub overflow_mul-from : goal.overflow_mul-from
overflow_mul-from c =
    let a = c.args in
    let (base, ds, h) = c.requires in
    let few = total_few a.image.now a.kept.now a.heads.now base a.o a.s (length a.area.now) ds h c.merged_of-m.result c.merged_of-m.ensures in
    omega arith

pub overflow_add-from : goal.overflow_add-from
overflow_add-from c =
    let a = c.args in
    let (base, ds, h) = c.requires in
    let few = total_few a.image.now a.kept.now a.heads.now base a.o a.s (length a.area.now) ds h c.merged_of-m.result c.merged_of-m.ensures in
    let u = h.few in
    omega arith

pub put_components-w-requires : goal.put_components-w-requires
put_components-w-requires c =
    let a = c.args in
    let (base, ds, h) = c.requires in
    put_fits a.image.now a.kept.now a.heads.now base a.o a.s (length a.area.now) ds h c.merged_of-m.result c.merged_of-m.ensures _
    (c.put_concatenations.auto.area ∙ c.put_head.auto.area)

pub overflow_add-result : goal.overflow_add-result
overflow_add-result c =
    let a = c.args in
    let (base, ds, h) = c.requires in
    let small = result_small a.image.now a.kept.now a.heads.now base a.o a.s (length a.area.now) ds h c.merged_of-m.result c.merged_of-m.ensures _ _ c.put_components-w.result
    (c.put_concatenations.auto.area ∙ c.put_head.auto.area) c.put_components-w.ensures in
    omega arith

pub returns : goal.returns
returns c =
    let a = c.args in
    λ base ds h.
    written a.image.now a.kept.now a.heads.now base a.o a.s (length a.area.now) ds h c.merged_of-m.result c.merged_of-m.ensures
    a.area.now _ _ _ c.put_components-w.result refl c.put_head.ensures c.put_concatenations.ensures c.put_components-w.ensures
