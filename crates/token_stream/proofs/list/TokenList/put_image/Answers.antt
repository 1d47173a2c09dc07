-- The header and the concatenations' rows are the image of the tree.
use mathlib.Core.Path.{refl}
use Rattle.definition.specs.TokenStream.{divided}
use Rattle.definition.specs.Tokens.{stream_of}
use Rattle.token_stream.proofs.write.Whole.{fitting_starts, fitting_image}
use Rattle.token_stream.proofs.list.TokenList.put_image.Goals as goal

pub put_concatenations-requires : goal.put_concatenations-requires
put_concatenations-requires c =
    let a = c.args in
    let f = c.requires in
    let p = c.put_header-p in
    (divided (stream_of a.self.now.list.now a.self.now.text.now), fitting_starts a.self.now.list.now a.self.now.text.now _ a.h f p.result p.ensures.0)

pub returns : goal.returns
returns c =
    let a = c.args in
    let f = c.requires in
    let p = c.put_header-p in
    let cc = divided (stream_of a.self.now.list.now a.self.now.text.now) in
    let starts = fitting_starts a.self.now.list.now a.self.now.text.now _ a.h f p.result p.ensures.0 in
    fitting_image a.self.now.list.now a.self.now.text.now _ a.h f p.result p.ensures.0 a.area.now _ _ refl p.ensures.1
    (c.put_concatenations.ensures cc starts)
