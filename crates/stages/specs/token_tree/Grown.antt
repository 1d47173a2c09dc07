-- What an image that passed the check is: the image of a tree, its components in rows.
use Rattle.std.specs.Prelude.{◌≡◌, ◌<◌, ◌≤◌, ◌+◌, ◌^◌}
use Rattle.definition.specs.Prelude.{ℕ, List, length}
use Rattle.definition.specs.Basics.{ok, joined}
use Rattle.definition.specs.Image.{counts, tables, tree_of}
use Rattle.definition.specs.Check.{check_image}
use Rattle.definition.specs.Tree.{Tree}
use Rattle.prepared.specs.Statement.{Bytes, placed_tree}
use Rattle.stages.specs.token_tree.Table.{tables_in}
use Rattle.stages.specs.token_tree.Rows.{Rows, Sizes}

pub record Grown (image : List ℕ) : Type 0 where
  pub tree : Tree
  pub reads : tree_of image ≡ placed_tree tree
  pub count : (counts image).c ≡ length tree
  pub nodes : (counts image).n ≡ length (joined tree)
  pub rows : Rows image (tables_in image) 0 0 0 0 (joined tree)
  pub sizes : Sizes image 0 tree
  pub text_fits : (tables image).text + (counts image).t ≤ length image
  pub small : length image < 2 ^ 31
  pub some_concatenation : 1 ≤ length tree
  pub few_components : length (joined tree) ≤ 256
  pub few_concatenations : length tree ≤ 16

-- every image that passed the check (proved in proofs/token_tree/Trees.antt)
abbrev pub EveryGrown : Type 0
EveryGrown = (image : List ℕ) → Bytes image → check_image image ≡ ok tt → Grown image
