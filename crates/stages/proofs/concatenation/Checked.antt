-- What stage 3 leaves where it refuses nothing, of all its concatenations and of the i-th.
use Rattle.std.specs.Prelude.{◌+◌, ◌^◌, ◌&&◌, ◌||◌, ◌∷◌}
use Rattle.std.proofs.Common.{◌≡◌, ◌≤◌, refl, subst, arith, length-append}
use Rattle.definition.specs.Ranges.{static_width}
use Rattle.definition.specs.Refusals.{need, zero_total_width, lone_filler_sink, second_filler, literal_in_sink, sum_overflow}
use Rattle.definition.specs.Component.{Component, ComponentType, literal, variable, filler, has_end}
use Rattle.definition.specs.Image.{Placed}
use Rattle.definition.specs.Concatenation.{Concatenation, Running, has_full_range, unchecked, add_width, check_type, check_from, check, stage3, merge, is_align, align_none, align_of, is_static_literal}
use Rattle.definition.specs.Basics.{Result, ok, ◌>>=◌, with_places, is_empty, joined}
use Rattle.definition.specs.Prelude.{ℕ, zero, suc, Bool, true, false, not, Option, none, some, ltb, eqb, ℤ, nat_abs, List, [], map, length, drop}
use Rattle.laws.specs.Results.{bind_ok, need_ok, need_then, placed_ok}
use Rattle.stages.specs.concatenation.Heads.{CheckedOne, AllChecked, none_left, one_more}
use Rattle.stages.specs.concatenation.running_check.Running.{add_as, check_open}
use Rattle.stages.proofs.concatenation.check.Counts.{one_more_if, count_from, merge_length}

-- deterministic while there is no unbounded filler
abbrev Fair : Running → Type 0
Fair r = r.deterministic ≡ is_align r.align align_none

fair_ok : (r s : Running) → ok r ≡ ok s → Fair r → Fair s
fair_ok r s e f = let g : r ≡ s = cc in subst (λ x. Fair x) g f

-- a width keeps both
add_fair : (w : Option ℤ) (r s : Running) → add_as w r ≡ ok s → Fair r → Fair s
add_fair none r s e f = fair_ok _ s e f
add_fair (some w) r s e f = go r.width e
  where
    go : (o : Option ℕ)
        → elim o [
          | none ↦ ok (record { width = none; align = r.align; deterministic = r.deterministic; nonzero = true })
          | some n ↦ (need (ltb (n + nat_abs w) (2 ^ 64)) sum_overflow
              >>= λ _. ok (record { width = some (n + nat_abs w); align = r.align; deterministic = r.deterministic; nonzero = true }))
        ] ≡ ok s
        → Fair s
    go none e = fair_ok (record { width = none; align = r.align; deterministic = r.deterministic; nonzero = true }) s e f
    go (some n) e =
        let m : Running = record { width = some (n + nat_abs w); align = r.align; deterministic = r.deterministic; nonzero = true } in
        fair_ok m s (need_then (ltb (n + nat_abs w) (2 ^ 64)) sum_overflow (ok m) e).1 f

open_fair : (first last : Bool) → false ≡ is_align (align_of first last) align_none
open_fair true true = refl
open_fair true false = refl
open_fair false true = refl
open_fair false false = refl

abbrev check_literal : Bool → Running → Result Running
check_literal sink r = need (not sink) literal_in_sink >>= λ _. ok r

abbrev with_full : Bool → Running → Running
with_full full r = record { width = r.width; align = r.align; deterministic = r.deterministic; nonzero = r.nonzero || full }

-- and so does a type
type_fair : (t : ComponentType) (ends full sink first last : Bool) (r s : Running) →
    elim t [
      | literal b ↦ check_literal sink r
      | variable p ↦ ok (with_full full r)
      | filler ↦ elim ends [ true ↦ ok r | false ↦ check_open sink first last r ]
    ] ≡ ok s
    → Fair r → Fair s
type_fair (literal b) ends full sink first last r s e f = fair_ok r s (need_then (not sink) literal_in_sink (ok r) e).1 f
type_fair (variable p) ends full sink first last r s e f = fair_ok (with_full full r) s e f
type_fair filler true full sink first last r s e f = fair_ok r s e f
type_fair filler false full sink first last r s e f =
    let m : Running = record { width = r.width; align = align_of first last; deterministic = false; nonzero = r.nonzero } in
    let g = (need_then (not (sink && first && last)) lone_filler_sink (need (is_align r.align align_none) second_filler >>= λ _. ok m) e).1 in
    fair_ok m s (need_then (is_align r.align align_none) second_filler (ok m) g).1 (open_fair first last)

from_fair : (i k : ℕ) (first : Bool) (cs : List (Placed Component)) (r s : Running) → check_from i k first cs r ≡ ok s → Fair r → Fair s
unfolding check_from
from_fair i k first [] r s e f = fair_ok r s e f
from_fair i k first (c ∷ rest) r s e f =
    widened (λ r₂ b g. from_fair i (suc k) false rest r₂ s b g) (bind_ok (with_places i 0 (add_width c.value r))
    (λ r₁. with_places i k (check_type (not (eqb i 0)) first (is_empty rest) c.value r₁) >>= λ r₂. check_from i (suc k) false rest r₂) e)
  where
    typed : ((r₂ : Running) → check_from i (suc k) false rest r₂ ≡ ok s → Fair r₂ → Fair s) → (r₁ : Running) → Fair r₁
        → (r₂ : Running) × (with_places i k (check_type (not (eqb i 0)) first (is_empty rest) c.value r₁) ≡ ok r₂) ×
        (check_from i (suc k) false rest r₂ ≡ ok s) → Fair s
    typed later r₁ g (r₂, a, b) =
        later r₂ b
        (type_fair c.value.c_type (has_end c.value.range) (has_full_range c.value) (not (eqb i 0)) first (is_empty rest) r₁ r₂
        (placed_ok i k (check_type (not (eqb i 0)) first (is_empty rest) c.value r₁) a) g)

    widened : ((r₂ : Running) → check_from i (suc k) false rest r₂ ≡ ok s → Fair r₂ → Fair s)
        → (r₁ : Running) × (with_places i 0 (add_width c.value r) ≡ ok r₁)
        × ((with_places i k (check_type (not (eqb i 0)) first (is_empty rest) c.value r₁) >>= λ r₂. check_from i (suc k) false rest r₂) ≡ ok s) → Fair s
    widened later (r₁, a, b) =
        typed later r₁ (add_fair (static_width c.value.range) r r₁ (placed_ok i 0 (add_width c.value r) a) f)
        (bind_ok (with_places i k (check_type (not (eqb i 0)) first (is_empty rest) c.value r₁)) (λ r₂. check_from i (suc k) false rest r₂) b)

-- no more after merging than before
one_short : (was now : Bool) (m n : ℕ) → m ≤ n → one_more_if was now + m ≤ suc n
one_short true true m n h = omega arith
one_short true false m n h = omega arith
one_short false now m n h = omega arith

count_short : (was : Bool) (cs : List (Placed Component)) → count_from was cs ≤ length cs
unfolding count_from
count_short was [] = omega arith
count_short was (c ∷ cs) =
    one_short was (is_static_literal c.value) (count_from (is_static_literal c.value) cs) (length cs) (count_short (is_static_literal c.value) cs)

pub merge_short : (cs : List (Placed Component)) → length (merge cs) ≤ length cs
merge_short cs = rw (merge_length cs) (count_short false cs)

not_zero : (w : Option ℕ) → elim w [ none ↦ true | some n ↦ ltb 0 n ] ≡ true → w ≡ some 0 → ⊥
not_zero w h e = let g : false ≡ true = rw e at h in let z : ◌≡◌ {A = ℕ} 0 1 = cc in absurd (omega arith)

abbrev by_running : List (Placed Component) → Running → Concatenation
by_running cs r = record { comps = cs; align = r.align; width = r.width; deterministic = r.deterministic; nonzero = r.nonzero }

abbrev wide : Running → Bool
wide r = elim r.width [ none ↦ true | some w ↦ ltb 0 w ]

check_one : (i : ℕ) (cs : List (Placed Component)) (d : Concatenation) → check i cs ≡ ok d → length cs ≤ 256 → CheckedOne d × (d.comps ≡ cs)
unfolding check
check_one i cs d e few =
    go (bind_ok (check_from i 0 true cs unchecked) (λ r. with_places i 0 (need (wide r) zero_total_width) >>= λ _. ok (by_running cs r)) e)
  where
    ends : (r : Running) → Fair r → (u : Unit) × (with_places i 0 (need (wide r) zero_total_width) ≡ ok u) × (ok (by_running cs r) ≡ ok d)
        → CheckedOne d × (d.comps ≡ cs)
    ends r f (u, a, b) =
        let g : by_running cs r ≡ d = cc in
        let short = merge_short cs in
        let t = need_ok (wide r) zero_total_width (placed_ok i 0 (need (wide r) zero_total_width) a) in
        subst (λ (x : Concatenation). CheckedOne x × (x.comps ≡ cs)) g
        (record { deterministic = f; width = not_zero r.width t; few = omega (arith, few, short) }, refl)

    go : (r : Running) × (check_from i 0 true cs unchecked ≡ ok r) × ((with_places i 0 (need (wide r) zero_total_width) >>= λ _. ok (by_running cs r)) ≡ ok d)
        → CheckedOne d × (d.comps ≡ cs)
    go (r, a, b) =
        ends r (from_fair i 0 true cs unchecked r a refl) (bind_ok (with_places i 0 (need (wide r) zero_total_width)) (λ _. ok (by_running cs r)) b)

abbrev comps_of : List Concatenation → List (List (Placed Component))
comps_of ds = map (λ (d : Concatenation). d.comps) ds

pub stage3_checked : (i : ℕ) (tree : List (List (Placed Component))) (ds : List Concatenation) → stage3 i tree ≡ ok ds → length (joined tree) ≤ 256
    → AllChecked ds × (map (λ (d : Concatenation). d.comps) ds ≡ tree)
unfolding stage3 joined
stage3_checked i [] ds e few = let g : [] ≡ ds = cc in subst (λ l. AllChecked l × (comps_of l ≡ [])) g (none_left, refl)
stage3_checked i (cs ∷ tree) ds e few =
    let long : length cs + length (joined tree) ≤ 256 = rw length-append at few in
    go (omega (arith, long)) (λ es b. stage3_checked (suc i) tree es b (omega (arith, long)))
    (bind_ok (check i cs) (λ d. stage3 (suc i) tree >>= λ es. ok (d ∷ es)) e)
  where
    ends : ((es : List Concatenation) → stage3 (suc i) tree ≡ ok es → AllChecked es × (comps_of es ≡ tree)) → length cs ≤ 256 → (d : Concatenation)
        → check i cs ≡ ok d
        → (es : List Concatenation) × (stage3 (suc i) tree ≡ ok es) × (ok (d ∷ es) ≡ ok ds) → AllChecked ds × (comps_of ds ≡ cs ∷ tree)
    ends later l d a (es, b, c) =
        let g : d ∷ es ≡ ds = cc in
        let one = check_one i cs d a l in
        let more = later es b in
        subst (λ l. AllChecked l × (comps_of l ≡ cs ∷ tree)) g (one_more one.0 more.0, rw (one.1, more.1))

    go : length cs ≤ 256 → ((es : List Concatenation) → stage3 (suc i) tree ≡ ok es → AllChecked es × (comps_of es ≡ tree))
        → (d : Concatenation) × (check i cs ≡ ok d) × ((stage3 (suc i) tree >>= λ es. ok (d ∷ es)) ≡ ok ds) → AllChecked ds × (comps_of ds ≡ cs ∷ tree)
    go l later (d, a, b) = ends later l d a (bind_ok (stage3 (suc i) tree) (λ es. ok (d ∷ es)) b)

-- ---- the i-th

no_drop : {G : Type 0} (i : ℕ) (d : Concatenation) (rest : List Concatenation) → drop i [] ≡ d ∷ rest → G
no_drop zero d rest e = let z : ◌≡◌ {A = ℕ} 0 1 = cc in absurd (omega arith)
no_drop (suc i) d rest e = let z : ◌≡◌ {A = ℕ} 0 1 = cc in absurd (omega arith)

pub checked_at : (ds rest : List Concatenation) (d : Concatenation) (i : ℕ) → AllChecked ds → drop i ds ≡ d ∷ rest → CheckedOne d
checked_at [] rest d i h e = no_drop i d rest e
checked_at (c ∷ ds) rest d zero (one_more h hs) e = let same : c ≡ d = cc in subst CheckedOne same h
checked_at (c ∷ ds) rest d (suc i) (one_more h hs) e = checked_at ds rest d i hs e
