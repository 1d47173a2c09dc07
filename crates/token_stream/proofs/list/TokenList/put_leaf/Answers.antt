-- A leaf's text, and a space where the run goes on, else its record.
use mathlib.Core.Path.{sym, ◌∙◌}
use Rattle.token_stream.proofs.write.component.Steps.{put_goes, put_ends}
use Rattle.token_stream.proofs.list.TokenList.put_leaf.Goals as goal

pub returns-then-joined : goal.returns-then-joined
returns-then-joined c =
    let a = c.args in
    put_goes a.self.now.list.now a.self.now.text.now a.base a.k a.e c.requires.leaf c.requires.step.order c.requires.step.stops
    a.area.now _ _ c.length_at-n.result c.start_at.result a.m c.length_at-n.ensures c.start_at.ensures
    (sym c.joined.ensures ∙ c.if-joined.true) c.put_bytes.ensures c.put_byte.ensures

pub returns : goal.returns
returns c =
    let a = c.args in
    put_ends a.self.now.list.now a.self.now.text.now a.base a.k a.e c.requires.leaf c.requires.step.order c.requires.step.stops
    a.area.now _ _ c.length_at-n.result c.start_at.result a.m _ c.length_at-n.ensures c.start_at.ensures
    (sym c.joined.ensures ∙ c.if-joined.false) c.put_bytes.ensures c.end_record.ensures
