-- What a default changes (document 02, L1): an empty one nothing, any other takes away the refusal 40 and changes no answer.
use Rattle.std.specs.Prelude.{◌≡◌, refl, ◌&&◌, ◌||◌, ◌∷◌}
use Rattle.definition.specs.Prelude.{ℕ, suc, Bool, true, false, not, Option, none, some, List, [], map, leb, eqb}
use Rattle.definition.specs.Basics.{Result, ok, refused, refusal_of, ◌>>=◌, with_places, is_empty}
use Rattle.definition.specs.Limits.{area_needed}
use Rattle.definition.specs.Refusals.{need, mode_above_2, short_area, filler_without_start}
use Rattle.definition.specs.Image.{Unparsed, Placed, counts, tree_of}
use Rattle.definition.specs.Check.{check_image}
use Rattle.definition.specs.Text.{Part}
use Rattle.definition.specs.Component.{Component, stage1, stage2}
use Rattle.definition.specs.Concatenation.{Concatenation, stage3, merged}
use Rattle.definition.specs.Overall.{Overall, place_from, is_filler, check_source, join_width, overall_from, overall_start, stage4}
use Rattle.definition.specs.Answer.{Answer, answer_bytes}
use Rattle.definition.specs.Run.{with_default, under, stages, run}

-- ---- the run of before, as document 01 has it: a mode, and no default

abbrev pub given : Option (Placed Part) → Bool
given init = elim init [ none ↦ false | some p ↦ true ]

unfoldable pub stages_before : ℕ → List (List (Placed Unparsed)) → Result Answer
stages_before mode t = do
  t₁ ← stage1 t
  t₂ ← stage2 t₁
  cc ← stage3 0 t₂.cc
  o ← stage4 mode (given t₂.init) cc
  ok (record { init = t₂.init; overall = o; cc = map merged cc })

unfoldable pub run_before : List ℕ → ℕ → ℕ → Result (List ℕ)
run_before image mode area = do
  _ ← need (leb mode 2) mode_above_2
  _ ← check_image image
  _ ← need (leb (area_needed (counts image).c (counts image).n (counts image).b) area) short_area
  a ← stages_before mode (tree_of image)
  ok (answer_bytes a)

-- ---- "An empty default means none.": the run with an empty default is the run of before

or_nothing : (b : Bool) → (b || false) ≡ b
or_nothing true = refl
or_nothing false = refl

stages_empty : (mode : ℕ) (t : List (List (Placed Unparsed))) → stages (under mode) t ≡ stages_before mode t
unfolding stages stages_before
stages_empty mode t = simp or_nothing refl

pub empty_default : (image : List ℕ) (mode area : ℕ) → run image (under mode) area ≡ run_before image mode area
unfolding run run_before
empty_default image mode area = rw (stages_empty mode (tree_of image)) refl

-- ---- "40 is not given under a non-empty default": that is all

-- the two are the same, or the first is refused with 40
pub data Only40 {A : Type 0} : Result A → Result A → Type 0 where
  same : {m : Result A} → Only40 m m
  forty : {k : ℕ} {n : Result A} → Only40 (refused (refusal_of 40 0 k)) n

bind_only : {A B : Type 0} {m n : Result A} {f g : A → Result B} → Only40 m n → ((a : A) → Only40 (f a) (g a)) → Only40 (m >>= f) (n >>= g)
bind_only (same {m = ok a}) h = h a
bind_only (same {m = refused q}) h = same
bind_only forty h = forty

source_only : (bare : Bool) (i : ℕ) (c : Concatenation) → Only40 (check_source bare i c) (check_source false i c)
source_only bare i c = go (place_from (λ (p : Placed Component). is_filler p.value) 0 c.comps) (bare && eqb i 0)
  where
    go : (x : Option ℕ) (b : Bool)
        → Only40 {A = Unit} (elim x [ none ↦ ok tt | some k ↦ with_places 0 k (need (not b) filler_without_start) ]) (elim x [ none ↦ ok tt | some k ↦ ok tt ])
    go none b = same
    go (some k) true = forty
    go (some k) false = same

overall_only : (bare : Bool) (i : ℕ) (cs : List Concatenation) (o : Overall) → Only40 (overall_from bare i cs o) (overall_from false i cs o)
unfolding overall_from
overall_only bare i [] o = same
overall_only bare i (c ∷ cs) o = bind_only (same {m = join_width i c o}) λ p. bind_only (source_only bare i c) λ _. overall_only bare (suc i) cs p

stage4_only : (mode : ℕ) (line held : Bool) (cs : List Concatenation) → Only40 (stage4 mode line cs) (stage4 mode (line || held) cs)
unfolding stage4
stage4_only mode true held cs = same
stage4_only mode false false cs = same
stage4_only mode false true cs = bind_only (bare_only (leb 1 mode)) λ o. same
  where
    bare_only : (b : Bool) → Only40 (overall_from (b && true) 0 cs (overall_start cs)) (overall_from (b && false) 0 cs (overall_start cs))
    bare_only true = overall_only true 0 cs (overall_start cs)
    bare_only false = same

stages_only : (mode : ℕ) (default : List ℕ) (t : List (List (Placed Unparsed))) → Only40 (stages_before mode t) (stages (with_default mode default) t)
unfolding stages stages_before
stages_only mode default t =
    bind_only (same {m = stage1 t}) λ t₁. bind_only (same {m = stage2 t₁}) λ t₂. bind_only (same {m = stage3 0 t₂.cc}) λ cc.
    bind_only (stage4_only mode (given t₂.init) (not (is_empty default)) cc) λ o. same

-- under any default a run is what it was before, or was refused with 40
pub default_only : (image : List ℕ) (mode : ℕ) (default : List ℕ) (area : ℕ) → Only40 (run_before image mode area) (run image (with_default mode default) area)
unfolding run run_before
default_only image mode default area =
    bind_only (same {m = need (leb mode 2) mode_above_2}) λ _. bind_only (same {m = check_image image}) λ _.
    bind_only (same {m = need (leb (area_needed (counts image).c (counts image).n (counts image).b) area) short_area}) λ _.
    bind_only (stages_only mode default (tree_of image)) λ a. same
