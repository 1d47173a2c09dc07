-- Inside a group that is the last item of a run.
use Rattle.std.specs.Prelude.{◌+◌, ◌-◌}
use Rattle.std.proofs.Common.{◌≡◌, subst, arith}
use Rattle.definition.specs.Prelude.{ℕ, true, List, length}
use Rattle.definition.specs.Text.{Item, items, is_group}
use Rattle.stages.specs.token_tree.Laid.{Stands, Laid}
use Rattle.stages.specs.token_tree.Table.{skip_in}
use Rattle.stages.specs.declared.token_tree.types.Tree.{Tree}
use Rattle.stages.proofs.token_tree.Forests.{inside_laid}

pub last_inside : (image : List ℕ) (t : Tree) (base stop tail r s : ℕ) (i : Item) → Stands image t base stop r s i → is_group i ≡ true
    → r + skip_in image t r ≡ stop → s + length i.part.bytes ≡ tail
    → Laid image t base (stop - 1) (tail - 1) (r + 1) (s + 1) (items i.inside_at i.inside)
last_inside image t base stop tail r s i h g y e =
    let two = (h.group g).two in
    let long = (h.group g).long in
    let a : r + (skip_in image t r - 1) ≡ stop - 1 = omega (arith, two, y) in
    let b : s + (length i.part.bytes - 1) ≡ tail - 1 = omega (arith, long, e) in
    subst (λ x. Laid image t base x (tail - 1) (r + 1) (s + 1) (items i.inside_at i.inside)) a
    (subst (λ x. Laid image t base (r + (skip_in image t r - 1)) x (r + 1) (s + 1) (items i.inside_at i.inside)) b (inside_laid image t base stop r s i h g))
