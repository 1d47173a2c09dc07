-- Stage 4, what the concatenations say together (src/concatenation.rs: stage4).
use Rattle.std.specs.Prelude.{◌&&◌, ◌||◌, ◌∷◌, if◌then◌else◌}
use Rattle.definition.specs.Prelude.{ℕ, suc, Bool, true, false, not, Option, none, some, List, [], length, leb, eqb}
use Rattle.definition.specs.Basics.{Result, ok, ◌>>=◌, with_places}
use Rattle.definition.specs.Refusals.{need, refuse, filler_without_start, unequal_widths, no_common_width, only_source, middle_filler, opposite_fillers}
use Rattle.definition.specs.Image.{Placed}
use Rattle.definition.specs.Component.{Component, literal, variable, filler}
use Rattle.definition.specs.Concatenation.{Concatenation, FillerAlign, align_none, align_single, align_mid, align_multiple, is_align, is_unbounded_filler}

-- the answer's head, while the concatenations are gone through; `known` is the first concatenation of known width
pub record Overall : Type 0 where
  pub align : FillerAlign
  pub width : Option ℕ
  pub known : ℕ
  pub deterministic : Bool
  pub nonzero : Bool

-- the place of the first that passes a test, counted from n
unfoldable pub place_from : {A : Type 0} → (A → Bool) → ℕ → List A → Option ℕ
place_from p n [] = none
place_from p n (a ∷ rest) = let later = place_from p (suc n) rest in if p a then some n else later

abbrev pub is_filler : Component → Bool
is_filler c = elim c.c_type [ literal b ↦ false | variable p ↦ false | filler ↦ true ]

-- none where one has no filler (a later filler does not undo it); a filler standing alone takes the other's; two that differ are multiple
-- (stage4, the match on overall_alignment)
abbrev pub join_align : FillerAlign → FillerAlign → FillerAlign
join_align overall this =
    if is_align this align_none || is_align overall align_none then align_none
    else if is_align overall align_single then this
    else if is_align this align_single || is_align this overall then overall else align_multiple

-- one concatenation more, where the width is known from concatenation `at`, or not at all: D and Z are those of any (stage4, its loop)
abbrev pub joined_at : Concatenation → Overall → ℕ → Option ℕ → Overall
joined_at c o at w =
    record {
      align = join_align o.align c.align;
      width = w;
      known = at;
      deterministic = o.deterministic || c.deterministic;
      nonzero = o.nonzero || c.nonzero;
    }

-- "41 width unequal to an earlier known one, places the first known and this concatenation"
abbrev pub join_width : ℕ → Concatenation → Overall → Result Overall
join_width i c o =
    elim c.width [
      | none ↦ ok (joined_at c o o.known o.width)
      | some w ↦ elim o.width [
        | none ↦ ok (joined_at c o i (some w))
        | some v ↦ (with_places o.known i (need (eqb w v) unequal_widths) >>= λ _. ok (joined_at c o o.known (some v)))
      ]
    ]

-- "40 the first filler in concatenation 0 under mode 1 or 2 without starting value": `bare` says that the mode is one and there is none
abbrev pub check_source : Bool → ℕ → Concatenation → Result Unit
check_source bare i c =
    elim (place_from (λ (p : Placed Component). is_filler p.value) 0 c.comps) [
      | none ↦ ok tt
      | some k ↦ with_places 0 k (need (not (bare && eqb i 0)) filler_without_start)
    ]

unfoldable pub overall_from : Bool → ℕ → List Concatenation → Overall → Result Overall
overall_from bare i [] o = ok o
overall_from bare i (c ∷ cs) o = do
  o' ← join_width i c o
  _ ← check_source bare i c
  overall_from bare (suc i) cs o'

-- the loop starts with what concatenation 0 says, but for Z, and goes through concatenation 0 too (stage4, before its loop)
abbrev pub overall_start : List Concatenation → Overall
overall_start [] = record { align = align_none; width = none; known = 0; deterministic = false; nonzero = false }
overall_start (c ∷ cs) = record { align = c.align; width = c.width; known = 0; deterministic = c.deterministic; nonzero = false }

-- "44 not deterministic, filler in the middle": the first such concatenation, and the unbounded filler in it, by its index before
-- merging (stage4, the loop over comps)
unfoldable pub middle_from : ℕ → List Concatenation → Result Unit
middle_from i [] = ok tt
middle_from i (c ∷ cs) =
    let later = middle_from (suc i) cs in
    if is_align c.align align_mid
    then elim (place_from (λ (p : Placed Component). is_unbounded_filler p.value) 0 c.comps) [ none ↦ later | some k ↦ with_places i k (refuse middle_filler) ]
    else later

-- neither none nor single (stage4, its last loop)
abbrev pub is_sided : FillerAlign → Bool
is_sided a = not (is_align a align_none || is_align a align_single)

-- "45 not deterministic, opposite fillers, places the first such pair": i is the lowest that has one, j the lowest for it
unfoldable pub opposite_from : ℕ → List Concatenation → Result Unit
opposite_from i [] = ok tt
opposite_from i (c ∷ cs) =
    let later = opposite_from (suc i) cs in
    let opposite = place_from (λ (d : Concatenation). is_sided c.align && is_sided d.align && not (is_align c.align d.align)) (suc i) cs in
    elim opposite [ none ↦ later | some j ↦ with_places i j (refuse opposite_fillers) ]

-- stage 4, under a mode, of a tree with or without a starting value
unfoldable pub stage4 : ℕ → Bool → List Concatenation → Result Overall
stage4 mode given cs = do
  o ← overall_from (leb 1 mode && not given) 0 cs (overall_start cs)
  _ ← need (not (eqb mode 2) || elim o.width [ none ↦ false | some w ↦ true ]) no_common_width
  _ ← need (o.deterministic || not (eqb (length cs) 1)) only_source
  _ ← if o.deterministic then ok tt else middle_from 0 cs
  _ ← if o.deterministic || not (is_align o.align align_multiple) then ok tt else opposite_from 0 cs
  ok o
