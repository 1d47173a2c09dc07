-- `layout_c::layout_tokens` meets its contract: the outcome of the tokens as one number. Assumes nothing.
use Rattle.std.proofs.Common.{arith}
use Rattle.layout_c.proofs.Coded.{tokens_coded_lem}
use Rattle.layout_c.proofs.layout_tokens.Goals as goal

pub returns : goal.returns
returns c =
    let a = c.args in
    tokens_coded_lem a.list.now a.text.now a.area.now _ c.token_stream_to_image.result (omega arith) c.token_stream_to_image.ensures c.coded.result c.coded.ensures
