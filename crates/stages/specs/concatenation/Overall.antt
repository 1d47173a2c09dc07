-- What stage 4 reads of a concatenation, its answer in code, and its steps.
use Rattle.definition.specs.Prelude.{ℕ, suc, Bool, true, false, not, Option, none, some, List, length, eqb}
use Rattle.std.specs.Prelude as Std
use Rattle.std.specs.Prelude.{Some, None, Ok, Err, ◌≡◌, ◌&&◌, ◌||◌, if◌then◌else◌}
use Rattle.definition.specs.Basics.{Result, ok, ◌>>=◌, with_places}
use Rattle.definition.specs.Refusals.{need, refuse, no_common_width, only_source, middle_filler, opposite_fillers}
use Rattle.definition.specs.Image.{Placed}
use Rattle.definition.specs.Component.{Component}
use Rattle.definition.specs.Concatenation.{Concatenation, FillerAlign, is_align, align_mid, align_multiple, is_unbounded_filler}
use Rattle.definition.specs.Overall.{Overall, place_from, is_filler, join_align, middle_from, opposite_from, is_sided}
use Rattle.numbers.specs.Value.{option_usize}
use Rattle.errors.specs.Refused.{refused_as}
use Rattle.errors.specs.declared.Refusal.{Refusal}
use Rattle.stages.specs.concatenation.alignment.Align.{align_of}
use Rattle.stages.specs.declared.concatenation.overall.Overall.{Overall as Now}
use Rattle.stages.specs.declared.concatenation.running_check.Running.{Running}

abbrev pub place_of : Std.Option ℕ → Option ℕ
place_of (Some k) = some k
place_of None = none

abbrev pub overall_of : Now → Overall
overall_of o = record { align = align_of o.align; width = option_usize o.width; known = o.known; deterministic = o.deterministic; nonzero = o.nonzero }

abbrev pub answer_of : Std.Result Now Refusal → Result Overall
answer_of (Ok o) = ok (overall_of o)
answer_of (Err e) = refused_as e

-- the component of the first filler, and of the first unbounded one
abbrev pub filler_in : Concatenation → Option ℕ
filler_in c = place_from (λ (p : Placed Component). is_filler p.value) 0 c.comps

abbrev pub unbounded_in : Concatenation → Option ℕ
unbounded_in c = place_from (λ (p : Placed Component). is_unbounded_filler p.value) 0 c.comps

-- what stage 4 reads of a concatenation
pub record HasSummary (c : Concatenation) (s : Running) : Type 0 where
  pub align_is : align_of s.align ≡ c.align
  pub width_is : option_usize s.width ≡ c.width
  pub deterministic_is : s.deterministic ≡ c.deterministic
  pub nonzero_is : s.nonzero ≡ c.nonzero

-- join_width where it refuses nothing, with this known width, of concatenation `at`
abbrev pub joined : Concatenation → ℕ → Option ℕ → Overall → Overall
joined c at w o =
    record { align = join_align o.align c.align; width = w; known = at; deterministic = o.deterministic || c.deterministic; nonzero = o.nonzero || c.nonzero }

abbrev pub and_then : {A : Type 0} → Result Unit → Result A → Result A
and_then a r = a >>= λ _. r

-- what middle_from says of one concatenation
abbrev pub middle_at : ℕ → Concatenation → Result Unit
middle_at i c = if is_align c.align align_mid then elim (unbounded_in c) [ none ↦ ok tt | some k ↦ with_places i k (refuse middle_filler) ] else ok tt

abbrev pub is_opposite : Concatenation → Concatenation → Bool
is_opposite c d = is_sided c.align && is_sided d.align && not (is_align c.align d.align)

-- what opposite_from says of concatenation i and the place of the first after it that is opposite to it
abbrev pub opposite_as : ℕ → Option ℕ → Result Unit
opposite_as i p = elim p [ none ↦ ok tt | some j ↦ with_places i j (refuse opposite_fillers) ]

-- the same of a concatenation and those after it
abbrev pub opposite_at : ℕ → Concatenation → List Concatenation → Result Unit
opposite_at i c later = opposite_as i (place_from (is_opposite c) (suc i) later)

-- the checks of stage 4 after its loop
abbrev pub common_of : ℕ → Option ℕ → Result Unit
common_of mode width = need (not (eqb mode 2) || elim width [ none ↦ false | some w ↦ true ]) no_common_width

abbrev pub only_of : ℕ → Bool → Result Unit
only_of n deterministic = need (deterministic || not (eqb n 1)) only_source

abbrev pub middle_of : Bool → List Concatenation → Result Unit
middle_of deterministic l = if deterministic then ok tt else middle_from 0 l

abbrev pub opposite_of : Bool → FillerAlign → List Concatenation → Result Unit
opposite_of deterministic align l = if deterministic || not (is_align align align_multiple) then ok tt else opposite_from 0 l

abbrev pub checks_of : ℕ → List Concatenation → Overall → Result Overall
checks_of mode l o =
    and_then (common_of mode o.width) (and_then (only_of (length l) o.deterministic) (and_then (middle_of o.deterministic l)
    (and_then (opposite_of o.deterministic o.align l) (ok o))))
