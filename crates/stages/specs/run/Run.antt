-- The whole run in code: the outcome and the lent area, as the definition's; and each function above the stages, by what is left to do.
use Rattle.std.specs.Prelude as Std
use Rattle.std.specs.Prelude.{◌≡◌, ◌≤◌}
use Rattle.definition.specs.Prelude.{ℕ, not, Option, List, length}
use Rattle.definition.specs.Basics.{Result, ok, ◌>>=◌, is_empty, joined, area_after}
use Rattle.definition.specs.Limits.{area_needed}
use Rattle.definition.specs.Image.{Placed, counts, tree_of}
use Rattle.definition.specs.Check.{check_image}
use Rattle.definition.specs.Text.{Part}
use Rattle.definition.specs.Component.{Component, starting_value, source}
use Rattle.definition.specs.Concatenation.{Concatenation, stage3}
use Rattle.definition.specs.Answer.{Answer, answer_bytes}
use Rattle.definition.specs.Run.{Choices, stages, run}
use Rattle.answer_facts.specs.stages.Statement.{later}
use Rattle.errors.specs.Refused.{result_of}
use Rattle.errors.specs.declared.Refusal.{Refusal}
use Rattle.stages.specs.token_tree.Table.{tree_in}
use Rattle.stages.specs.token_tree.Grown.{Grown}
use Rattle.stages.specs.component.Kept.{KeptFrom}
use Rattle.stages.specs.component.Start.{start_of, TextFits, scanned_base}
use Rattle.stages.specs.component.Read.{two_stages}
use Rattle.stages.specs.concatenation.Heads.{HeadsAre}
use Rattle.stages.specs.declared.component.types.Component.{Component as Now}
use Rattle.stages.specs.declared.concatenation.stage3.Concatenation.{Concatenation as Head}
use Rattle.stages.specs.declared.component.start.Start.{Start}
use Rattle.stages.specs.declared.run.Choices.{Choices as Told}

-- the choices of a call that the stages' own stand for
pub record StandsFor (told : Told) (how : Choices) : Type 0 where
  pub mode : how.mode ≡ told.mode
  pub held : not (is_empty how.default) ≡ told.held

-- what a run on a lent area comes to, and the area afterwards
abbrev pub came_to : List ℕ → Result (List ℕ) → Result ℕ × List ℕ
came_to area r = ((r >>= λ bytes. ok (length bytes)), area_after area r)

abbrev pub bytes_of : Result Answer → Result (List ℕ)
bytes_of r = r >>= λ a. ok (answer_bytes a)

-- what admission leaves: the image passed the check, so it is a tree's, and the area has room for any answer
pub record RunFits (image : List ℕ) (area : ℕ) : Type 0 where
  pub grown : Grown image
  pub checked : check_image image ≡ ok tt
  pub room : area_needed (counts image).c (counts image).n (counts image).b ≤ area

-- the outcome and the area are those of m
abbrev pub Came : Result Answer → Std.Result ℕ Refusal → List ℕ → List ℕ → Type 0
Came m o before after = (result_of o, after) ≡ came_to before (bytes_of m)

abbrev pub StagesAs : List ℕ → Told → Std.Result ℕ Refusal → List ℕ → List ℕ → Type 0
StagesAs image told o before after = (how : Choices) → StandsFor told how → Came (stages how (tree_of image)) o before after

-- the outcome and the area are those of the whole run
abbrev pub AnsweredAs : List ℕ → Told → Std.Result ℕ Refusal → List ℕ → List ℕ → Type 0
AnsweredAs image told o before after =
    (how : Choices) → StandsFor told how → (result_of o, after) ≡ came_to before (run image how (length before))

-- ---- behind the starting value and stages 1 and 2

abbrev pub init_of : List ℕ → Std.Option Start → Option (Placed Part)
init_of image s = start_of image (tree_in image) (scanned_base image) s

-- stages 3 to 5 of these components, with this starting value
abbrev pub later_of : List ℕ → Choices → Std.Option Start → List (List (Placed Component)) → Result Answer
later_of image how s cc = later how (record { init = init_of image s; cc = cc })

pub record ReadFits (image : List ℕ) (c : ℕ) (s : Std.Option Start) (kept : List Now) : Type 0 where
  pub count : c ≡ (counts image).c
  pub text : TextFits image (tree_in image) (scanned_base image) s
  pub is : starting_value 0 (source (tree_of image)) ≡ ok (init_of image s)
  pub cc : List (List (Placed Component))
  pub read : two_stages (tree_of image) ≡ ok cc
  pub are : KeptFrom image kept 0 (joined cc)
  pub long : (counts image).n ≤ length kept

abbrev pub ReadAs : List ℕ → Told → Std.Option Start → List Now → Std.Result ℕ Refusal → List ℕ → List ℕ → Type 0
ReadAs image told s kept o before after =
    (how : Choices) → StandsFor told how → (cc : List (List (Placed Component))) → two_stages (tree_of image) ≡ ok cc → Came (later_of image how s cc) o before after

-- ---- behind stage 3

pub record JudgedFits (image : List ℕ) (s : Std.Option Start) (heads : List Head) (kept : List Now) : Type 0 where
  pub c : ℕ
  pub read : ReadFits image c s kept
  pub ds : List Concatenation
  pub checked : stage3 0 read.cc ≡ ok ds
  pub are : HeadsAre image kept heads ds

abbrev pub JudgedAs : List ℕ → Told → Std.Option Start → List Head → List Now → Std.Result ℕ Refusal → List ℕ → List ℕ → Type 0
JudgedAs image told s heads kept o before after =
    (how : Choices) → StandsFor told how → (cc : List (List (Placed Component))) (ds : List Concatenation) → two_stages (tree_of image) ≡ ok cc → stage3 0 cc ≡ ok ds
    → Came (later_of image how s cc) o before after
