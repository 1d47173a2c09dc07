-- Stage 3, the check of each concatenation, and stage 5, merging (src/concatenation.rs: Concatenation::check and ::simplify).
use Rattle.std.specs.Prelude.{◌+◌, ◌^◌, ◌&&◌, ◌||◌, ◌∷◌, ◌++◌, if◌then◌else◌}
use Rattle.definition.specs.Prelude.{ℕ, suc, Bool, true, false, not, Option, none, some, List, [], length, ltb, eqb, pos, nat_abs}
use Rattle.definition.specs.Basics.{Result, ok, ◌>>=◌, with_places, is_empty}
use Rattle.definition.specs.Refusals.{need, literal_in_sink, lone_filler_sink, second_filler, zero_total_width, sum_overflow}
use Rattle.definition.specs.Image.{Placed}
use Rattle.definition.specs.Ranges.{val, static_range, static_width, static_val}
use Rattle.definition.specs.Component.{Component, literal, variable, filler, is_zero, has_end}

-- "alignment, 0 to 5 in `FillerAlign` order"
pub data FillerAlign : Type 0 where
  align_none align_single align_lsb align_msb align_mid align_multiple : FillerAlign

abbrev pub align_number : FillerAlign → ℕ
align_number align_none = 0
align_number align_single = 1
align_number align_lsb = 2
align_number align_msb = 3
align_number align_mid = 4
align_number align_multiple = 5

abbrev pub is_align : FillerAlign → FillerAlign → Bool
is_align a b = eqb (align_number a) (align_number b)

-- is_unbounded_filler
abbrev pub is_unbounded_filler : Component → Bool
is_unbounded_filler c = elim c.c_type [ literal b ↦ false | variable p ↦ false | filler ↦ not (has_end c.range) ]

-- has_full_range: "Unbounded fillers return false"
abbrev pub has_full_range : Component → Bool
has_full_range c =
    is_zero c.range.start
    && elim c.c_type [
      | literal bits ↦ elim c.range.«end» [ none ↦ true | some e ↦ elim (static_val e) [ none ↦ false | some x ↦ eqb (nat_abs x) (length bits) ] ]
      | variable p ↦ not (has_end c.range)
      | filler ↦ has_end c.range
    ]

-- is_static_literal
abbrev pub is_static_literal : Component → Bool
is_static_literal c = elim c.c_type [ literal b ↦ static_range c.range | variable p ↦ false | filler ↦ false ]

-- the running check of a concatenation: the sum of widths while all so far are known, and what was found so far
pub record Running : Type 0 where
  pub width : Option ℕ
  pub align : FillerAlign
  pub deterministic : Bool
  pub nonzero : Bool

-- before the first component: width 0 and deterministic until one says otherwise (Concatenation::check)
abbrev pub unchecked : Running
unchecked = record { width = some 0; align = align_none; deterministic = true; nonzero = false }

-- "34 the sum of widths, while all so far are known, passes 2^64-1". A known width is not zero, so that Z (guaranteed_nonzero_width) is
-- set by it, whatever stands before (Concatenation::check).
abbrev pub add_width : Component → Running → Result Running
add_width c r =
    elim (static_width c.range) [
      | none ↦ ok (record { width = none; align = r.align; deterministic = r.deterministic; nonzero = r.nonzero })
      | some w ↦ elim r.width [
        | none ↦ ok (record { width = none; align = r.align; deterministic = r.deterministic; nonzero = true })
        | some n ↦ do
          _ ← need (ltb (n + nat_abs w) (2 ^ 64)) sum_overflow
          ok (record { width = some (n + nat_abs w); align = r.align; deterministic = r.deterministic; nonzero = true })
      ]
    ]

-- the alignment that an unbounded filler gives, by whether it is the first and the last component (Concatenation::check, filler_alignment)
abbrev pub align_of : Bool → Bool → FillerAlign
align_of first last = if first then (if last then align_single else align_lsb) else if last then align_msb else align_mid

-- "30 literal in a sink; 31 sink of one unbounded filler; 32 second unbounded filler". An unbounded filler takes D (deterministic_width),
-- a variable with its full range sets Z (Concatenation::check, the match on c_type).
abbrev pub check_type : Bool → Bool → Bool → Component → Running → Result Running
check_type sink first last c r =
    elim c.c_type [
      | literal b ↦ (need (not sink) literal_in_sink >>= λ _. ok r)
      | variable p ↦ ok (record { width = r.width; align = r.align; deterministic = r.deterministic; nonzero = r.nonzero || has_full_range c })
      | filler ↦ elim (has_end c.range) [
        | true ↦ ok r
        | false ↦ do
          _ ← need (not (sink && first && last)) lone_filler_sink
          _ ← need (is_align r.align align_none) second_filler
          ok (record { width = r.width; align = align_of first last; deterministic = false; nonzero = r.nonzero })
      ]
    ]

-- component k of concatenation i, and the rest: 34 has the places i and 0
unfoldable pub check_from : ℕ → ℕ → Bool → List (Placed Component) → Running → Result Running
check_from i k first [] r = ok r
check_from i k first (c ∷ rest) r = do
  r₁ ← with_places i 0 (add_width c.value r)
  r₂ ← with_places i k (check_type (not (eqb i 0)) first (is_empty rest) c.value r₁)
  check_from i (suc k) false rest r₂

-- a concatenation as stage 3 leaves it
pub record Concatenation : Type 0 where
  pub comps : List (Placed Component)
  pub align : FillerAlign
  pub width : Option ℕ
  pub deterministic : Bool
  pub nonzero : Bool

-- Concatenation::check; "Then 33 zero total width"
unfoldable pub check : ℕ → List (Placed Component) → Result Concatenation
check i cs = do
  r ← check_from i 0 true cs unchecked
  _ ← with_places i 0 (need (elim r.width [ none ↦ true | some w ↦ ltb 0 w ]) zero_total_width)
  ok (record { comps = cs; align = r.align; width = r.width; deterministic = r.deterministic; nonzero = r.nonzero })

unfoldable pub stage3 : ℕ → List (List (Placed Component)) → Result (List Concatenation)
stage3 i [] = ok []
stage3 i (c ∷ cs) = do
  d ← check i c
  ds ← stage3 (suc i) cs
  ok (d ∷ ds)

-- "Every maximal run of literals with static ranges becomes one literal from 0 to its width, the sum of the run's widths, the
-- lowest component's bits lowest."
abbrev pub bits_of : Component → List ℕ
bits_of c = elim c.c_type [ literal b ↦ b | variable p ↦ [] | filler ↦ [] ]

abbrev pub whole_literal : List ℕ → Component
whole_literal bits = record { c_type = literal bits; range = record { start = val (pos 0); «end» = some (val (pos (length bits))) } }

abbrev pub merge_onto : Placed Component → List (Placed Component) → List (Placed Component)
merge_onto c [] = c ∷ []
merge_onto c (d ∷ rest) =
    if is_static_literal c.value && is_static_literal d.value
    then record { base = c.base; value = whole_literal (bits_of c.value ++ bits_of d.value) } ∷ rest
    else c ∷ d ∷ rest

unfoldable pub merge : List (Placed Component) → List (Placed Component)
merge [] = []
merge (c ∷ rest) = merge_onto c (merge rest)

abbrev pub merged : Concatenation → Concatenation
merged c = record { comps = merge c.comps; align = c.align; width = c.width; deterministic = c.deterministic; nonzero = c.nonzero }
