-- The concatenations that stage 3 leaves, and stage 3 of all of them.
use Rattle.std.specs.Prelude as Std
use Rattle.std.specs.Prelude.{◌≡◌, ◌≤◌, ◌+◌, ◌*◌, ◌∷◌}
use Rattle.definition.specs.Prelude.{ℕ, some, List, [], length, take}
use Rattle.definition.specs.Basics.{ok, joined}
use Rattle.definition.specs.Image.{Placed}
use Rattle.definition.specs.Component as Def
use Rattle.definition.specs.Concatenation.{Concatenation, is_align, align_none, merge, stage3}
use Rattle.errors.specs.Refused.{result_of}
use Rattle.errors.specs.declared.Refusal.{Refusal}
use Rattle.stages.specs.token_tree.Rows.{Sizes}
use Rattle.stages.specs.component.Kept.{KeptFrom}
use Rattle.stages.specs.component.Read.{verdict}
use Rattle.stages.specs.concatenation.Overall.{HasSummary}
use Rattle.stages.specs.declared.component.types.Component.{Component}
use Rattle.stages.specs.declared.concatenation.stage3.Concatenation.{Concatenation as Now}

-- its components stand in a store
pub record Lies (x : Now) (room : ℕ) : Type 0 where
  pub inside : x.first.0 + x.len ≤ room
  pub few : x.first.0 + x.len ≤ 256

-- a concatenation in code, and the definition's
pub record HeadIs (image : List ℕ) (kept : List Component) (x : Now) (d : Concatenation) : Type 0 where
  pub summary : HasSummary d x.running
  pub merged_is : x.merged ≡ length (merge d.comps)
  pub len_is : x.len ≡ length d.comps
  pub lies : Lies x (length kept)
  pub comps : KeptFrom image kept x.first.0 d.comps

-- one by one
abbrev pub HeadsAre : List ℕ → List Component → List Now → List Concatenation → Type 0
HeadsAre image kept [] [] = Unit
HeadsAre image kept [] (d ∷ ds) = ⊥
HeadsAre image kept (x ∷ xs) [] = ⊥
HeadsAre image kept (x ∷ xs) (d ∷ ds) = HeadIs image kept x d × HeadsAre image kept xs ds

-- what stage 3 leaves: deterministic without an unbounded filler, no width of 0, and few components
pub record CheckedOne (d : Concatenation) : Type 0 where
  pub deterministic : d.deterministic ≡ is_align d.align align_none
  pub width : d.width ≡ some 0 → ⊥
  pub few : length (merge d.comps) ≤ 256

pub data AllChecked : List Concatenation → Type 0 where
  none_left : AllChecked []
  one_more : {d : Concatenation} {ds : List Concatenation} → CheckedOne d → AllChecked ds → AllChecked (d ∷ ds)

-- what stages 4 and 5 ask: concatenations of a tree, 1 to 16
pub record HeadsFit (kept : List Component) (heads : List Now) : Type 0 where
  pub image : List ℕ
  pub ds : List Concatenation
  pub are : HeadsAre image kept heads ds
  pub some : 1 ≤ length heads
  pub few : length heads ≤ 16

-- room for c concatenations of these sizes
pub record CountsFit (image : List ℕ) (cc : List (List (Placed Def.Component))) (c : ℕ) (kept : List Component) (heads : ℕ) : Type 0 where
  pub count : length cc ≡ c
  pub few : c ≤ 16
  pub sizes : Sizes image 0 cc
  pub some : 1 ≤ c
  pub table : 40 + 4 * c ≤ length image
  pub are : KeptFrom image kept 0 (joined cc)
  pub kept_fit : length (joined cc) ≤ length kept
  pub heads_fit : c ≤ heads
  pub few_components : length (joined cc) ≤ 256

-- stage 3 of the components that are kept
abbrev pub Stage3Is : List ℕ → List Component → ℕ → Std.Result Unit Refusal → List Now → Type 0
Stage3Is image kept c q heads =
    (cc : List (List (Placed Def.Component))) → length cc ≡ c → Sizes image 0 cc → KeptFrom image kept 0 (joined cc)
    → (result_of q ≡ verdict (stage3 0 cc)) × ((ds : List Concatenation) → stage3 0 cc ≡ ok ds → HeadsAre image kept (take c heads) ds)
