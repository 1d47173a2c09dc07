-- Stage 4 over concatenations within the limits: the places of its refusals are indices of concatenations and components.
use Rattle.std.specs.Prelude.{◌≡◌, refl, ℕ, suc, ◌+◌, ◌≤◌, ◌<◌, ◌&&◌, ◌||◌, ◌∷◌, if◌then◌else◌}
use Rattle.std.proofs.Common.{arith}
use Rattle.definition.specs.Prelude.{Bool, true, false, not, Option, none, some, List, [], length, leb, eqb}
use Rattle.definition.specs.Basics.{Result}
use Rattle.definition.specs.Limits.{limits}
use Rattle.definition.specs.Refusals.{filler_without_start, unequal_widths, no_common_width, only_source, middle_filler, opposite_fillers}
use Rattle.definition.specs.Image.{Placed}
use Rattle.definition.specs.Component.{Component}
use Rattle.definition.specs.Concatenation.{Concatenation, align_mid, align_multiple, is_align, is_unbounded_filler}
use Rattle.definition.specs.Overall.{Overall, place_from, is_filler, join_width, check_source, overall_from, overall_start, middle_from, is_sided, opposite_from, stage4}
use Rattle.refusal_places.specs.Ends.{Ends, answers, Fine, fine, less, refuse_fine, need_ends, placed_ends, bind_ends, next_ends, if_ends, option_ends}
use Rattle.refusal_places.specs.Tree.{Short, Within}
use Rattle.refusal_places.specs.Concatenation.{components_of}

-- ---- the place of the first that passes a test

-- no place, or one below b
pub data Below (b : ℕ) : Option ℕ → Type 0 where
  nowhere : Below b none
  at : {k : ℕ} → k < b → Below b (some k)

place_below : {A : Type 0} (p : A → Bool) (n b : ℕ) (l : List A) → n + length l ≤ b → Below b (place_from p n l)
unfolding place_from
place_below p n b [] h = nowhere
place_below p n b (a ∷ l) h = go (p a) (place_below p (suc n) b l (omega arith))
  where
    go : (t : Bool) → Below b (place_from p (suc n) l) → Below b (if t then some n else place_from p (suc n) l)
    go true later = at {k = n} (omega arith)
    go false later = later

below_ends : {A : Type 0} {P : A → Type 0} {b : ℕ} {o : Option ℕ} {m : Result A} {f : ℕ → Result A} → Below b o → Ends P m → ((k : ℕ) → k < b → Ends P (f k))
    → Ends P (elim o [ none ↦ m | some k ↦ f k ])
below_ends nowhere h g = h
below_ends (at {k} l) h g = g k l

-- ---- what the concatenations say together

-- 41 has the places of the first known concatenation and of this one
join_width_ends : (i : ℕ) (c : Concatenation) (o : Overall) → i < limits.concatenations → o.known < limits.concatenations
    → Ends (λ o'. o'.known < limits.concatenations) (join_width i c o)
join_width_ends i c o p q =
    option_ends c.width (answers q) λ w.
    option_ends o.width (answers p) λ v.
    next_ends (placed_ends o.known i q (omega arith) (need_ends (eqb w v) unequal_widths)) λ _. answers q

check_source_fine : (bare : Bool) (i : ℕ) (c : Concatenation) → length c.comps ≤ limits.components → Fine (check_source bare i c)
check_source_fine bare i c h =
    below_ends (place_below (λ (p : Placed Component). is_filler p.value) 0 limits.components c.comps (omega arith)) (fine tt) λ k l.
    less (placed_ends 0 k (omega arith) l (need_ends (not (bare && eqb i 0)) filler_without_start))

overall_from_fine : (bare : Bool) (i : ℕ) (cs : List Concatenation) (o : Overall) → Within i (components_of cs) → o.known < limits.concatenations
    → Fine (overall_from bare i cs o)
unfolding overall_from Short
overall_from_fine bare i [] o w q = fine o
overall_from_fine bare i (c ∷ cs) o w q =
    let few : i + suc (length (components_of cs)) ≤ limits.concatenations = w.few in
    let (a, b) = w.short in
    bind_ends (join_width_ends i c o (omega arith) q) λ o' q'.
    next_ends (check_source_fine bare i c a) λ _.
    overall_from_fine bare (suc i) cs o' (record { few = omega arith; short = b }) q'

overall_known : (cs : List Concatenation) → (overall_start cs).known < limits.concatenations
overall_known [] = omega arith
overall_known (c ∷ cs) = omega arith

-- ---- fillers in the middle, and opposite ones

middle_fine : (i : ℕ) (cs : List Concatenation) → Within i (components_of cs) → Fine (middle_from i cs)
unfolding middle_from Short
middle_fine i [] w = fine tt
middle_fine i (c ∷ cs) w =
    let few : i + suc (length (components_of cs)) ≤ limits.concatenations = w.few in
    let (a, b) = w.short in
    let later = middle_fine (suc i) cs (record { few = omega arith; short = b }) in
    if_ends (is_align c.align align_mid)
    (below_ends (place_below (λ (p : Placed Component). is_unbounded_filler p.value) 0 limits.components c.comps (omega arith)) later λ k l.
    placed_ends i k (omega arith) l (refuse_fine Unit middle_filler))
    later

same_number : (cs : List Concatenation) → length (components_of cs) ≡ length cs
same_number [] = refl
same_number (c ∷ cs) = let h = same_number cs in omega arith

-- 45 has the places of two concatenations
opposite_fine : (i : ℕ) (cs : List Concatenation) → i + length cs ≤ limits.concatenations → Fine (opposite_from i cs)
unfolding opposite_from
opposite_fine i [] h = fine tt
opposite_fine i (c ∷ cs) h =
    below_ends
    (place_below (λ (d : Concatenation). is_sided c.align && is_sided d.align && not (is_align c.align d.align)) (suc i) limits.concatenations cs (omega arith))
    (opposite_fine (suc i) cs (omega arith)) λ j l.
    placed_ends i j (omega arith) (omega arith) (refuse_fine Unit opposite_fillers)

pub stage4_fine : (mode : ℕ) (given : Bool) (cs : List Concatenation) → Within 0 (components_of cs) → Fine (stage4 mode given cs)
unfolding stage4
stage4_fine mode given cs w =
    let few : 0 + length (components_of cs) ≤ limits.concatenations = w.few in
    let number = same_number cs in
    next_ends (overall_from_fine (leb 1 mode && not given) 0 cs (overall_start cs) w (overall_known cs)) λ o.
    next_ends (need_ends (not (eqb mode 2) || elim o.width [ none ↦ false | some w ↦ true ]) no_common_width) λ _.
    next_ends (need_ends (o.deterministic || not (eqb (length cs) 1)) only_source) λ _.
    next_ends (if_ends o.deterministic (fine tt) (middle_fine 0 cs w)) λ _.
    next_ends (if_ends (o.deterministic || not (is_align o.align align_multiple)) (fine tt) (opposite_fine 0 cs (omega arith))) λ _. fine o
