-- What stage 3 asks of a component, the running check in code, and one step of it.
use Rattle.definition.specs.Prelude.{ℕ, Bool, true, false, not, Option, none, some, ltb, eqb, ℤ, nat_abs}
use Rattle.std.specs.Prelude as Std
use Rattle.std.specs.Prelude.{Some, Ok, Err, ◌+◌, ◌^◌, ◌&&◌}
use Rattle.definition.specs.Basics.{Result, ok, refused, ◌>>=◌, with_places}
use Rattle.definition.specs.Refusals.{need, lone_filler_sink, second_filler, zero_total_width, sum_overflow}
use Rattle.definition.specs.Component.{Component}
use Rattle.definition.specs.Concatenation.{Running, add_width, check_type, is_align, align_none, align_of as placed_align}
use Rattle.numbers.specs.Value.{option_usize}
use Rattle.errors.specs.Refused.{refused_as}
use Rattle.errors.specs.declared.Refusal.{Refusal}
use Rattle.stages.specs.concatenation.alignment.Align.{align_of}
use Rattle.stages.specs.declared.concatenation.alignment.align.FillerAlign.TheVariants as A
use Rattle.stages.specs.declared.concatenation.running_check.Running.{Running as Now}

abbrev pub running_of : Now → Running
running_of r = record { width = option_usize r.width; align = align_of r.align; deterministic = r.deterministic; nonzero = r.nonzero }

abbrev pub running_by : Now
running_by = record { width = Some 0; align = A.None; deterministic = true; nonzero = false }

abbrev pub stepped_of : Std.Result Now Refusal → Result Running
stepped_of (Ok r) = ok (running_of r)
stepped_of (Err e) = refused_as e

-- component k of concatenation i, as check_from goes over it
abbrev pub step_of : ℕ → ℕ → Bool → Bool → Component → Running → Result Running
step_of i k first last c r = with_places i 0 (add_width c r) >>= λ r₁. with_places i k (check_type (not (eqb i 0)) first last c r₁)

-- 33, as check ends
abbrev pub finish_of : ℕ → Running → Result Unit
finish_of i r = with_places i 0 (need (elim r.width [ none ↦ true | some w ↦ ltb 0 w ]) zero_total_width)

-- add_width, by the width
abbrev pub add_as : Option ℤ → Running → Result Running
add_as w r =
    elim w [
      | none ↦ ok (record { width = none; align = r.align; deterministic = r.deterministic; nonzero = r.nonzero })
      | some w ↦ elim r.width [
        | none ↦ ok (record { width = none; align = r.align; deterministic = r.deterministic; nonzero = true })
        | some n ↦ do
          _ ← need (ltb (n + nat_abs w) (2 ^ 64)) sum_overflow
          ok (record { width = some (n + nat_abs w); align = r.align; deterministic = r.deterministic; nonzero = true })
      ]
    ]

-- check_type of an unbounded filler
abbrev pub check_open : Bool → Bool → Bool → Running → Result Running
check_open sink first last r = do
  _ ← need (not (sink && first && last)) lone_filler_sink
  _ ← need (is_align r.align align_none) second_filler
  ok (record { width = r.width; align = placed_align first last; deterministic = false; nonzero = r.nonzero })

-- the running check after a step, as it was where the step refuses; and whether it refused
abbrev pub kept_of : Running → Result Running → Running
kept_of r (ok s) = s
kept_of r (refused q) = r

abbrev pub verdict_of : Result Running → Result Unit
verdict_of q = q >>= λ _. ok tt

abbrev pub settled_of : Running → Result Running → Running × Result Unit
settled_of r q = (kept_of r q, verdict_of q)

-- the running check after a step from r, and the step's answer
abbrev pub advanced_as : ℕ → ℕ → Bool → Bool → Component → Running → Running × Result Unit
advanced_as i k first last c r = settled_of r (step_of i k first last c r)
