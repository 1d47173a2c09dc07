-- A divider, a group's token, or a leaf.
use Rattle.std.proofs.Common.{ap, ◌∙◌, not, arith}
use Rattle.token_stream.specs.list.Kinds.{joined_by}
use Rattle.token_stream.proofs.counts.Tallies.{one_is, divider_tally, leaf_tally}
use Rattle.token_stream.proofs.list.TokenList.weight.Goals as goal

pub returns-then-divides-semicolon : goal.returns-then-divides-semicolon
returns-then-divides-semicolon c =
    let a = c.args in
    let s = c.divides-semicolon in
    let (one, most) = one_is s.result c.from.ensures in
    let (_, (_, (r, b))) = c.default.ensures in (
      rw (r, b)
          (divider_tally a.self.now.list.now a.self.now.text.now a.k a.d c.requires.1 c.requires.0 s.result
          (rw (c.divides.ensures, s.ensures) at c.if-divides-semicolon.true) s.ensures one),
      record { semicolons = omega arith; dividers = omega arith; records = omega arith; bytes = omega arith },
    )

pub returns-in-Identifier : goal.returns-in-Identifier
returns-in-Identifier c =
    let a = c.args in
    let more = c.joined-more.result in
    let (ends, most) = one_is (not more) c.from-in-Identifier.ensures in
    let (goes, most') = one_is more c.from-in-Identifier-2.ensures in
    let (s, (v, (_, _))) = c.default-in-Identifier.ensures in (
      rw (s, v)
          (leaf_tally a.self.now.list.now a.self.now.text.now a.k a.d c.requires.1 c.requires.0 more
          (rw (c.divides.ensures, c.divides-semicolon.ensures) at c.if-divides-semicolon.false) (grind arith)
          (c.joined-more.ensures ∙ ap (joined_by a.self.now.list.now a.k) c.count.ensures) c.length_at.ensures ends goes),
      record { semicolons = omega arith; dividers = omega arith; records = omega arith; bytes = omega arith },
    )
