use Rattle.std.proofs.Common.{sym, refl, ◌∙◌, eqb-true}
use borrow.Author.Tests.{eqb-false}
use Rattle.definition.specs.Image.{bits_at}
use Rattle.stages.proofs.component.parse.Endings.{last_at, last_fits, last_kind, last_some, ended_by}
use Rattle.stages.proofs.component.parse.Wholes.{items_plain, items_lone, items_bracket}
use Rattle.stages.proofs.component.parse.parse_component.Goals as goal

pub record-requires : goal.record-requires
record-requires c =
    let a = c.args in
    let p = c.requires in
    let w = p.1.1 in
    last_fits a.image.now a.tree a.run.stop.0 a.run.«end».0 a.run.r.0 c.last_item-last.result.0 p.1.0 w
    (last_at a.image.now a.tree a.run.stop.0 a.run.«end».0 a.run.r.0 c.last_item-last.result.0 p.0 c.last_item-last.ensures w.base p.1.0 w.items w.laid)

pub returns-then-record-ne3 : goal.returns-then-record-ne3
returns-then-record-ne3 c base s is few h =
    let a = c.args in
    let t = last_at a.image.now a.tree a.run.stop.0 a.run.«end».0 a.run.r.0 c.last_item-last.result.0 c.requires.0 c.last_item-last.ensures base s is h in
    items_plain a.image.now a.tree a.run.stop.0 a.run.«end».0 a.run.r.0 c.last_item-last.result.0 base s is t _ c.record.ensures.0
    (bits_at a.image.now a.literal.at a.literal.to) _ c.if-record-ne3.true (c.unbracketed.ensures base s is few h)

pub returns-then-eq : goal.returns-then-eq
returns-then-eq c base s is few h =
    let a = c.args in
    let t = last_at a.image.now a.tree a.run.stop.0 a.run.«end».0 a.run.r.0 c.last_item-last.result.0 c.requires.0 c.last_item-last.ensures base s is h in
    items_lone a.image.now a.tree a.run.stop.0 a.run.«end».0 a.run.r.0 c.last_item-last.result.0 base s is t _ c.record.ensures.0
    (bits_at a.image.now a.literal.at a.literal.to) _ c.if-record-ne3.false (eqb-true _ _ (sym c.eq.ensures ∙ c.if-eq.true)) refl

pub bracketed-requires : goal.bracketed-requires
bracketed-requires c =
    let a = c.args in
    let p = c.requires in
    let w = p.1.1 in
    let t = last_at a.image.now a.tree a.run.stop.0 a.run.«end».0 a.run.r.0 c.last_item-last.result.0 p.0 c.last_item-last.ensures w.base p.1.0 w.items w.laid in
    let k = last_kind a.image.now a.tree a.run.stop.0 a.run.«end».0 a.run.r.0 c.last_item-last.result.0 w.base p.1.0 w.items t _ c.record.ensures.0 in
    let m = last_some a.image.now a.tree a.run.stop.0 a.run.«end».0 a.run.r.0 c.last_item-last.result.0 w.base p.1.0 w.items t (eqb-false _ _ (sym c.eq.ensures ∙ c.if-eq.false)) in (
      p.1,
      (
        w.base,
        p.1.0,
        t.mid,
        t.item,
        ended_by a.image.now a.tree a.run c.last_item-last.result.0 w.base p.1.0 w.items w.laid t (sym k ∙ c.if-record-ne3.false) m,
      ),
    )

pub returns : goal.returns
returns c base s is few h =
    let a = c.args in
    let t = last_at a.image.now a.tree a.run.stop.0 a.run.«end».0 a.run.r.0 c.last_item-last.result.0 c.requires.0 c.last_item-last.ensures base s is h in
    let k = last_kind a.image.now a.tree a.run.stop.0 a.run.«end».0 a.run.r.0 c.last_item-last.result.0 base s is t _ c.record.ensures.0 in
    let m = last_some a.image.now a.tree a.run.stop.0 a.run.«end».0 a.run.r.0 c.last_item-last.result.0 base s is t (eqb-false _ _ (sym c.eq.ensures ∙ c.if-eq.false)) in
    items_bracket a.image.now a.tree a.run.stop.0 a.run.«end».0 a.run.r.0 c.last_item-last.result.0 base s is t _ c.record.ensures.0
    (bits_at a.image.now a.literal.at a.literal.to) _ c.if-record-ne3.false
    (c.bracketed.ensures base s t.mid t.item few
    (ended_by a.image.now a.tree a.run c.last_item-last.result.0 base s is h t (sym k ∙ c.if-record-ne3.false) m))
