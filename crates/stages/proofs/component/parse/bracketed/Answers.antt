use Rattle.std.specs.Prelude.{Ok}
use Rattle.std.proofs.Common.{◌+◌, ap, ◌∙◌, arith}
use Rattle.definition.specs.Text.{items}
use Rattle.definition.specs.Image.{bits_at}
use Rattle.stages.proofs.component.parse.Types.{bracket_range, bracket_single, bracket_refused}
use Rattle.stages.proofs.component.parse.Endings.{bracket_of, first_fits, bracket_fits, last_small, inside_runs, single_fits, typed_fits, typed_laid}
use Rattle.stages.proofs.component.parse.bracketed.Goals as goal

pub start_of-s-requires : goal.start_of-s-requires
start_of-s-requires c =
    let a = c.args in
    let p = c.requires in
    let b = bracket_of a.image.now a.tree a.run a.last.0 p.1.0 p.1.1 p.1.2 p.1.3 p.1.4 in
    first_fits a.image.now a.tree a.run a.last.0 p.0.0 p.0.1 p.1.0 p.1.1 p.1.2 p.1.3 b

pub start_of-t-requires : goal.start_of-t-requires
start_of-t-requires c =
    let a = c.args in
    let p = c.requires in
    let b = bracket_of a.image.now a.tree a.run a.last.0 p.1.0 p.1.1 p.1.2 p.1.3 p.1.4 in
    bracket_fits a.image.now a.tree a.run a.last.0 p.0.0 p.0.1 p.1.0 p.1.1 p.1.2 p.1.3 b

pub overflow_add-inside : goal.overflow_add-inside
overflow_add-inside c =
    let a = c.args in
    let p = c.requires in
    let b = bracket_of a.image.now a.tree a.run a.last.0 p.1.0 p.1.1 p.1.2 p.1.3 p.1.4 in
    record { fits = last_small a.image.now a.tree a.run a.last.0 p.0.0 p.0.1 p.1.0 p.1.1 p.1.2 p.1.3 b }

pub overflow_sub-inside : goal.overflow_sub-inside
overflow_sub-inside c =
    let a = c.args in
    let p = c.requires in
    let b = bracket_of a.image.now a.tree a.run a.last.0 p.1.0 p.1.1 p.1.2 p.1.3 p.1.4 in
    let k = b.two in
    omega (arith, k)

pub overflow_sub-inside-2 : goal.overflow_sub-inside-2
overflow_sub-inside-2 c =
    let a = c.args in
    let p = c.requires in
    let b = bracket_of a.image.now a.tree a.run a.last.0 p.1.0 p.1.1 p.1.2 p.1.3 p.1.4 in
    let k = b.text_two in
    omega (arith, k)

pub parse_range-requires : goal.parse_range-requires
parse_range-requires c =
    let a = c.args in
    let p = c.requires in
    let b = bracket_of a.image.now a.tree a.run a.last.0 p.1.0 p.1.1 p.1.2 p.1.3 p.1.4 in
    (b.from + 1, inside_runs a.image.now a.tree a.run a.last.0 p.0.0 p.0.1 p.1.0 p.1.1 p.1.2 p.1.3 b)

pub typed-requires : goal.typed-requires
typed-requires c =
    let a = c.args in
    let p = c.requires in
    let b = bracket_of a.image.now a.tree a.run a.last.0 p.1.0 p.1.1 p.1.2 p.1.3 p.1.4 in
    typed_fits a.image.now a.tree a.run a.last.0 p.0.0 p.0.1 p.1.0 p.1.1 p.1.2 p.1.3 b _ _
    c.start_of-s.ensures c.start_of-t.ensures

pub single_bit-requires : goal.single_bit-requires
single_bit-requires c =
    let a = c.args in
    let p = c.requires in
    let b = bracket_of a.image.now a.tree a.run a.last.0 p.1.0 p.1.1 p.1.2 p.1.3 p.1.4 in (
      single_fits a.image.now a.tree a.run a.last.0 p.0.0 p.0.1 p.1.0 p.1.1 p.1.2 p.1.3 b c.parse_range.result c.parse_range.ensures
          (c.in_ok-range.was ∙ ap Ok c.in-None.is),
      (b.from + 1, inside_runs a.image.now a.tree a.run a.last.0 p.0.0 p.0.1 p.1.0 p.1.1 p.1.2 p.1.3 b),
    )

pub typed-requires-in-None : goal.typed-requires-in-None
typed-requires-in-None c =
    let a = c.args in
    let p = c.requires in
    let b = bracket_of a.image.now a.tree a.run a.last.0 p.1.0 p.1.1 p.1.2 p.1.3 p.1.4 in
    typed_fits a.image.now a.tree a.run a.last.0 p.0.0 p.0.1 p.1.0 p.1.1 p.1.2 p.1.3 b _ _
    c.start_of-s.ensures c.start_of-t.ensures

pub returns-in-Some : goal.returns-in-Some
returns-in-Some c base s mid i few e =
    let a = c.args in
    let b = bracket_of a.image.now a.tree a.run a.last.0 base s mid i e in
    let l = typed_laid a.image.now a.tree a.run a.last.0 base s mid i b _ _ c.start_of-s.ensures c.start_of-t.ensures in
    let is = items i.inside_at i.inside in
    bracket_range a.image.now a.tree base mid (bits_at a.image.now a.literal.at a.literal.to) e.some _ c.parse_range.result is
    (c.parse_range.ensures base (b.from + 1) is b.inside) _ (c.in_ok-range.was ∙ ap Ok c.in-Some.is)
    (λ fits. c.typed.ensures base a.run.r.0 a.last.0 mid few e.some l fits)

pub returns-in-None : goal.returns-in-None
returns-in-None c base s mid i few e =
    let a = c.args in
    let b = bracket_of a.image.now a.tree a.run a.last.0 base s mid i e in
    let l = typed_laid a.image.now a.tree a.run a.last.0 base s mid i b _ _ c.start_of-s.ensures c.start_of-t.ensures in
    let is = items i.inside_at i.inside in
    let u = c.single_bit.ensures base (b.from + 1) is b.inside in
    bracket_single a.image.now a.tree base mid (bits_at a.image.now a.literal.at a.literal.to) e.some _ c.parse_range.result is
    (c.parse_range.ensures base (b.from + 1) is b.inside) c.single_bit.result (c.in_ok-range.was ∙ ap Ok c.in-None.is) u.0
    (c.typed-in-None.ensures base a.run.r.0 a.last.0 mid few e.some l u.1)

pub returns-in_err-range : goal.returns-in_err-range
returns-in_err-range c base s mid i few e =
    let a = c.args in
    let b = bracket_of a.image.now a.tree a.run a.last.0 base s mid i e in
    let is = items i.inside_at i.inside in
    bracket_refused a.image.now a.tree base mid (bits_at a.image.now a.literal.at a.literal.to) e.some _ c.parse_range.result is
    (c.parse_range.ensures base (b.from + 1) is b.inside) _ c.in_err-range.was (grind arith)
