-- A token by its kind: an opener, a closer, a leaf.
use Rattle.std.proofs.Common.{ℕ, ap}
use Rattle.token_stream.proofs.write.component.Steps.{put_closer, put_opener}
use Rattle.token_stream.proofs.list.TokenList.put_token.Goals as goal

pub returns-in-Opener : goal.returns-in-Opener
returns-in-Opener c =
    let a = c.args in
    put_opener a.self.now.list.now a.self.now.text.now a.k _ c.in-Opener.ensures a.base a.e c.delimiter_of-d.result.opening _
    a.area.now _ a.m _ (ap (λ (r : record { opening : ℕ; closing : ℕ }). r.opening) c.delimiter_of-d.ensures)
    (c.skip_at-skip.ensures.0 a.self.now.text.now) c.put_delimiter.ensures

pub returns-in-Closer : goal.returns-in-Closer
returns-in-Closer c =
    let a = c.args in
    put_closer a.self.now.list.now a.self.now.text.now a.k a.base a.e
    c.delimiter_of-d-in-Closer.result.closing a.area.now _ a.m _ c.in-Closer.ensures
    (ap (λ (r : record { opening : ℕ; closing : ℕ }). r.closing) c.delimiter_of-d-in-Closer.ensures) c.put_delimiter-in-Closer.ensures
