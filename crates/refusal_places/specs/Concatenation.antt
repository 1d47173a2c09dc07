-- Stage 3 over a tree within the limits: its refusals have places of the tree, and each concatenation keeps its components.
use Rattle.std.specs.Prelude.{ℕ, suc, ◌+◌, ◌^◌, ◌≤◌, ◌<◌, ◌&&◌, ◌∷◌}
use Rattle.std.proofs.Common.{arith}
use Rattle.definition.specs.Prelude.{Bool, true, false, not, none, some, List, [], map, length, ltb, eqb, nat_abs}
use Rattle.definition.specs.Basics.{is_empty}
use Rattle.definition.specs.Limits.{limits}
use Rattle.definition.specs.Refusals.{literal_in_sink, lone_filler_sink, second_filler, zero_total_width, sum_overflow}
use Rattle.definition.specs.Image.{Placed}
use Rattle.definition.specs.Ranges.{Usbr, static_width}
use Rattle.definition.specs.Component.{Component, ComponentType, literal, variable, filler, has_end}
use Rattle.definition.specs.Concatenation.{Concatenation, Running, unchecked, is_align, align_none, add_width, check_type, check_from, check, stage3}
use Rattle.refusal_places.specs.Ends.{Ends, answers, Fine, fine, need_ends, placed_ends, bind_ends, next_ends, test_ends, option_ends}
use Rattle.refusal_places.specs.Tree.{Short, Within}

add_width_fine : (c : Component) (r : Running) → Fine (add_width c r)
add_width_fine c r =
    option_ends (static_width c.range) (fine _) λ w.
    option_ends r.width (fine _) λ n.
    next_ends (need_ends (ltb (n + nat_abs w) (2 ^ 64)) sum_overflow) λ _. fine _

check_type_fine : (sink first last : Bool) (t : ComponentType) (range : Usbr) (r : Running)
    → Fine (check_type sink first last (record { c_type = t; range = range }) r)
check_type_fine sink first last (literal b) range r = next_ends (need_ends (not sink) literal_in_sink) (λ _. fine r)
check_type_fine sink first last (variable p) range r = fine _
check_type_fine sink first last filler range r =
    test_ends (has_end range) (fine r)
    (next_ends (need_ends (not (sink && first && last)) lone_filler_sink) λ _.
    next_ends (need_ends (is_align r.align align_none) second_filler) λ _. fine _)

-- 34 has the places i and 0, 30 to 32 those of the component
check_from_fine : (i k : ℕ) (first : Bool) (l : List (Placed Component)) (r : Running) → i < limits.concatenations
    → k + length l ≤ limits.components → Fine (check_from i k first l r)
unfolding check_from
check_from_fine i k first [] r p q = fine r
check_from_fine i k first (c ∷ l) r p q =
    next_ends (placed_ends i 0 p (omega arith) (add_width_fine c.value r)) λ r₁.
    next_ends (placed_ends i k p (omega arith) (check_type_fine (not (eqb i 0)) first (is_empty l) c.value.c_type c.value.range r₁)) λ r₂.
    check_from_fine i (suc k) false l r₂ p (omega arith)

check_ends : (i : ℕ) (l : List (Placed Component)) → i < limits.concatenations → length l ≤ limits.components
    → Ends (λ c. length c.comps ≤ limits.components) (check i l)
unfolding check
check_ends i l p q =
    next_ends (check_from_fine i 0 true l unchecked p (omega arith)) λ r.
    next_ends (placed_ends i 0 p (omega arith) (need_ends (elim r.width [ none ↦ true | some w ↦ ltb 0 w ]) zero_total_width)) λ _. answers q

-- concatenations, by their components
abbrev pub components_of : List Concatenation → List (List (Placed Component))
components_of cs = map (λ (c : Concatenation). c.comps) cs

pub stage3_ends : (i : ℕ) (t : List (List (Placed Component))) → Within i t → Ends (λ cs. Within i (components_of cs)) (stage3 i t)
unfolding stage3 Short
stage3_ends i [] w = answers (record { few = w.few; short = tt })
stage3_ends i (l ∷ t) w =
    let few : i + suc (length t) ≤ limits.concatenations = w.few in
    let (a, b) = w.short in
    bind_ends (check_ends i l (omega arith) a) λ d e.
    bind_ends (stage3_ends (suc i) t (record { few = omega arith; short = b })) λ ds h.
    let rest : suc i + length (components_of ds) ≤ limits.concatenations = h.few in
    answers (record { few = omega arith; short = (e, h.short) })
