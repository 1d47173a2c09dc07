use Rattle.std.specs.Prelude.{Ok}
use Rattle.std.proofs.Common.{◌≡◌, arith}
use Rattle.stages.proofs.component.read.Verdicts.{read_is}
use Rattle.stages.proofs.component.read.read.Goals as goal

pub returns : goal.returns
returns c base s is l =
    let a = c.args in
    let was : c.parse_component.result ≡ Ok c.in_ok-c.c = grind arith in
    let h = rw was at (c.parse_component.ensures base s is c.requires.0 l) in
    read_is a.image.now a.tree base _ c.in_ok-c.c h c.simplify.result _ (c.simplify.ensures base h.held) c.map_err-2.ensures.cases
