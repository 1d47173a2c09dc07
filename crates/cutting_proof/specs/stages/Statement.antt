-- What the stages make of a tree with a fixed literal and of the tree with its pieces, the text starts left out.
use Rattle.std.specs.Prelude.{◌≡◌, ◌≤◌, ◌∷◌, ◌++◌}
use Rattle.definition.specs.Prelude.{ℕ, true, Option, some, List, [], map, length}
use Rattle.definition.specs.Basics.{ok}
use Rattle.definition.specs.Image.{Unparsed, Placed}
use Rattle.definition.specs.Tree.{Tree, sound_forest}
use Rattle.definition.specs.Component.{Component, Parsed}
use Rattle.definition.specs.Answer.{Answer}
use Rattle.definition.specs.Run.{Choices}
use Rattle.answer_facts.specs.stages.Statement.{early, later}
use Rattle.cutting.specs.Statement.{Given, tree_with, new_tree, scanned, fixed_literal, reads_as, rising, pieces_of}
use Rattle.cutting_proof.specs.component.Statement.{cut_to, bare}

abbrev pub bare_tree : Tree → List (List (Placed Unparsed))
bare_tree = map (map bare)

-- the literal's bits c to d as a component after stage 2, and all the pieces
abbrev pub bits_between : List ℕ → ℕ → ℕ → Placed Component
bits_between bits c d = record { base = 0; value = cut_to bits c d }

abbrev pub piece_components : List ℕ → ℕ → List ℕ → ℕ → List (Placed Component)
piece_components bits a places b = map (λ (cd : ℕ × ℕ). bits_between bits cd.0 cd.1) (pieces_of a places b)

-- what is needed of the given: premises of the claim, and what `fits` says of the literal
pub record Cuttable (g : Given) : Type 0 where
  pub sound : sound_forest g.node.forest ≡ true
  pub small : length g.node.bits ≤ 4096
  pub bounds : fixed_literal (scanned g) g.node ≡ some (g.a, g.b)
  pub rises : rising g.a (g.place ∷ g.places) g.b ≡ true
  pub brackets_read : map (reads_as (length g.node.bits)) g.brackets ≡ map some (pieces_of g.a (g.place ∷ g.places) g.b)

-- after stage 2 the two trees differ in the literal's place only
pub record CutParsed (g : Given) (p : Parsed) : Type 0 where
  pub concatenations_below : List (List (Placed Component))
  pub below : List (Placed Component)
  pub above : List (Placed Component)
  pub concatenations_above : List (List (Placed Component))
  pub same_concatenations : length concatenations_below ≡ length g.concatenations_below
  pub same_components : length below ≡ length g.below
  pub old : p.cc ≡ concatenations_below ++ (below ++ (bits_between g.node.bits g.a g.b ∷ []) ++ above) ∷ concatenations_above
  pub new :
      early (bare_tree (new_tree g))
      ≡ ok (record {
        init = p.init;
        cc = concatenations_below ++ (below ++ piece_components g.node.bits g.a (g.place ∷ g.places) g.b ++ above) ∷ concatenations_above;
      })
  pub within_width : g.b ≤ length g.node.bits

abbrev pub CutEarly : Type 0
CutEarly = (g : Given) → Cuttable g → (p : Parsed) → early (bare_tree (tree_with g (g.node ∷ []))) ≡ ok p → CutParsed g p

-- stages 3 to 5 give the same answer
abbrev pub CutLater : Type 0
CutLater =
    (how : Choices) (init : Option (Placed Rattle.definition.specs.Text.Part)) (cb : List (List (Placed Component))) (l h : List (Placed Component)) (ca : List (List (Placed Component)))
    (bits : List ℕ) (a : ℕ) (places : List ℕ) (b : ℕ) → rising a places b ≡ true → b ≤ length bits → length bits ≤ 4096 → (answer : Answer)
    → later how (record { init = init; cc = cb ++ (l ++ (bits_between bits a b ∷ []) ++ h) ∷ ca }) ≡ ok answer
    → later how (record { init = init; cc = cb ++ (l ++ piece_components bits a places b ++ h) ∷ ca }) ≡ ok answer
