-- The stages of a whole tree: every component after stage 2 is normal, and the answer's components are the merged concatenations'.
use Rattle.std.specs.Prelude.{◌≡◌, ◌∷◌}
use Rattle.std.proofs.Common.{ap, ◌∙◌, le_refl}
use Rattle.definition.specs.Prelude.{true, List, [], map}
use Rattle.definition.specs.Basics.{all, joined}
use Rattle.definition.specs.Tree.{Node, Tree, sound_node, fits}
use Rattle.definition.specs.Component.{Parsed}
use Rattle.definition.specs.Concatenation.{merge}
use Rattle.definition.specs.Overall.{stage4}
use Rattle.definition.specs.Answer.{components}
use Rattle.definition.specs.Run.{Choices, has_start}
use Rattle.cutting_proof.specs.component.Statement.{bare}
use Rattle.answer_facts.specs.stages.Statement.{early, later}
use Rattle.cutting_proof.specs.stages.Statement.{bare_tree}
use Rattle.laws.specs.Tests.{and_iff, tested}
use Rattle.laws.specs.Lists.{all_append}
use Rattle.prepared.specs.Components.{sound_cons}
use Rattle.answer_facts.specs.read.Facts.{Yields, given, Every, every_nil, every_cons, after, bound, every_append, yields_of}
use Rattle.answer_facts.specs.read.Trees.{stage3_comps, merged_comps}
use Rattle.answer_facts.specs.fits.Staged.{ShortBefore, NormalAt, stage1_all, stage2_all}

-- the nodes of a tree that fits have short bits
nodes_short : (ns : List Node) → all sound_node ns ≡ true → Every ShortBefore (map bare ns)
nodes_short [] h = every_nil
nodes_short (n ∷ ns) h = let (s, r) = sound_cons n ns h in every_cons (s.width, s.bits) (nodes_short ns r)

tree_short : (t : Tree) → all sound_node (joined t) ≡ true → Every ShortBefore (joined (bare_tree t))
unfolding joined
tree_short [] h = every_nil
tree_short (c ∷ t) h =
    let (a, b) = (and_iff (all sound_node c) (all sound_node (joined t))).0 (rw all_append at h) in
    every_append (nodes_short c a) (tree_short t b)

pub early_normal : (t : Tree) → fits t ≡ true → Yields (λ p. Every NormalAt (joined p.cc)) (early (bare_tree t))
unfolding fits
early_normal t h =
    bound (stage1_all (λ _. 0) (λ m n l. le_refl 0) (bare_tree t) (tree_short t (simp tested at h).1)) λ p s.
    yields_of (λ q s'. s'.every) (stage2_all (λ _. 0) (λ m n l. le_refl 0) (bare_tree t) p s)

pub later_merges : (how : Choices) (p : Parsed) → Yields (λ a. components a ≡ joined (map merge p.cc)) (later how p)
later_merges how p =
    bound (stage3_comps 0 p.cc) λ ds e. after (stage4 how.mode (has_start how p.init) ds) λ o.
    given (ap joined (merged_comps ds ∙ ap (map merge) e))
