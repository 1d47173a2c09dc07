-- The tokens' records and text, and the component's row.
use native.Mathlib.Omega.{arith}
use Rattle.token_stream.proofs.write.component.Whole.{span_fits, component_written}
use Rattle.token_stream.proofs.list.TokenList.put_component.Goals as goal

pub put_tokens-m-requires : goal.put_tokens-m-requires
put_tokens-m-requires c =
    let a = c.args in
    span_fits a.self.now.list.now a.self.now.text.now a.base a.s a.e a.pen c.requires.0 c.requires.1

pub overflow_cast-records : goal.overflow_cast-records
overflow_cast-records c =
    let a = c.args in
    let fits = span_fits a.self.now.list.now a.self.now.text.now a.base a.s a.e a.pen c.requires.0 c.requires.1 in
    let low = fits.low in
    let rows = fits.records_fit in
    let is = c.put_tokens-m.ensures.record_is in
    omega arith

pub returns : goal.returns
returns c =
    let a = c.args in
    let t = c.put_tokens-m in
    λ s h.
    component_written a.self.now.list.now a.self.now.text.now a.base a.s a.e a.pen s h a.area.now _ _ t.result t.ensures
    c.put_component.ensures
