-- The answer of a run that refuses nothing, block by block.
use Rattle.std.specs.Prelude as Std
use Rattle.std.specs.Prelude.{◌≡◌, ◌<◌, ◌≤◌, ◌+◌, ◌*◌}
use Rattle.std.proofs.lemmas.List.Edits.{sets}
use Rattle.definition.specs.Prelude.{ℕ, List, map, length}
use Rattle.definition.specs.Basics.{joined}
use Rattle.definition.specs.Limits.{sizes}
use Rattle.definition.specs.Image.{Placed}
use Rattle.definition.specs.Component.{Component}
use Rattle.definition.specs.Concatenation.{Concatenation, merge, merged}
use Rattle.definition.specs.Answer.{Answer, components, concatenation_bytes, answer_bytes}
use Rattle.answer_facts.specs.fits.Fixed.{AllFixed}
use Rattle.answer_facts.specs.fits.Statement.{literals_of}
use Rattle.stages.specs.token_tree.Table.{tree_in}
use Rattle.stages.specs.component.Start.{start_of, TextFits}
use Rattle.stages.specs.concatenation.Heads.{HeadsAre}
use Rattle.stages.specs.concatenation.Overall.{overall_of}
use Rattle.stages.specs.answer.merging.Put.{put_all, written_to, Room}
use Rattle.stages.specs.declared.answer.merging.Writing.{Writing}
use Rattle.stages.specs.declared.concatenation.overall.Overall.{Overall}
use Rattle.stages.specs.declared.component.types.Component.{Component as Now}
use Rattle.stages.specs.declared.component.start.Start.{Start}
use Rattle.stages.specs.declared.concatenation.stage3.Concatenation.{Concatenation as Head}

-- the components of every concatenation after merging
abbrev pub merged_all : List (List (Placed Component)) → List (Placed Component)
merged_all u = joined (map merge u)

abbrev pub comps_of : List Concatenation → List (List (Placed Component))
comps_of ds = map (λ (d : Concatenation). d.comps) ds

-- the blocks of the concatenations, from the end of the head on
abbrev pub PutHeadsIs : List Head → List ℕ → List ℕ → Type 0
PutHeadsIs heads before after =
    (image : List ℕ) (kept : List Now) (ds : List Concatenation) → HeadsAre image kept heads ds
    → after ≡ sets before sizes.head (joined (map concatenation_bytes (map merged ds)))

-- the components of these concatenations from the place w on
abbrev pub PutAllIs : List ℕ → List Now → List Head → Writing → Writing → List ℕ → List ℕ → Type 0
PutAllIs image kept heads w r before after =
    (ds : List Concatenation) → HeadsAre image kept heads ds → AllFixed (joined (comps_of ds)) → Room before w (merged_all (comps_of ds))
    → (after ≡ put_all before w (merged_all (comps_of ds))) × (r ≡ written_to w (merged_all (comps_of ds)))

-- room for them
pub record PutFits (image : List ℕ) (kept : List Now) (heads : List Head) (w : Writing) (area : List ℕ) : Type 0 where
  pub ds : List Concatenation
  pub are : HeadsAre image kept heads ds
  pub fixed : AllFixed (joined (comps_of ds))
  pub room : Room area w (merged_all (comps_of ds))

-- the answer of a tree with these concatenations, `base` the text start of its starting value's component
abbrev pub answer_from : List ℕ → ℕ → Std.Option Start → Overall → List Concatenation → Answer
answer_from image base s o ds = record { init = start_of image (tree_in image) base s; overall = overall_of o; cc = map merged ds }

-- an answer that fits an area, and whose counts are small
pub record Fitting (c area : ℕ) (a : Answer) : Type 0 where
  pub concatenations : length a.cc ≡ c
  pub merged_few : length (components a) ≤ 256
  pub literals : length (literals_of (components a)) ≤ 8192
  pub size : length (answer_bytes a)
      ≡ sizes.head + sizes.concatenation * length a.cc + sizes.component * length (components a) + length (literals_of (components a))
  pub room : length (answer_bytes a) ≤ area

-- what stage 5 is of: concatenations that stage 4 accepted, with room for their answer
pub record Answers (image : List ℕ) (kept : List Now) (heads : List Head) (base : ℕ) (o : Overall) (s : Std.Option Start) (area : ℕ) (ds : List Concatenation) : Type 0 where
  pub are : HeadsAre image kept heads ds
  pub fixed : AllFixed (joined (comps_of ds))
  pub start : TextFits image (tree_in image) base s
  pub small : base + length image < 4294967296
  pub few : length heads ≤ 16
  pub few_components : length (joined (comps_of ds)) ≤ 256
  pub fitting : Fitting (length heads) area (answer_from image base s o ds)

abbrev pub Stage5Is : List ℕ → List Now → List Head → Overall → Std.Option Start → ℕ → List ℕ → List ℕ → Type 0
Stage5Is image kept heads o s r before after =
    (base : ℕ) (ds : List Concatenation) → Answers image kept heads base o s (length before) ds
    → (after ≡ sets before 0 (answer_bytes (answer_from image base s o ds))) × (r ≡ length (answer_bytes (answer_from image base s o ds)))
