-- How an operation may end: with an answer of which something is known, or with a refusal of the table, its places within the limits.
use Rattle.std.specs.Prelude.{◌≡◌, refl, ◌≤◌, ◌<◌, if◌then◌else◌}
use Rattle.std.proofs.Common.{arith}
use Rattle.definition.specs.Prelude.{ℕ, Bool, true, false, Option, none, some}
use Rattle.definition.specs.Basics.{Refusal, refusal_of, Result, ok, refused, ◌>>=◌, with_places}
use Rattle.definition.specs.Limits.{limits}
use Rattle.definition.specs.Refusals.{Reason, mode_above_2, short_image, bad_count, bad_offset, bad_entry, bad_record, too_deep, short_area, empty_after_colon, nothing_before_range, empty_range, second_dots, three_dots, not_one_token, bound_overflow, no_literal, overflow, negative_bound, reversed, zero_width, start_above_width, end_above_width, range_above_width, end_zero, open_start, literal_in_sink, lone_filler_sink, second_filler, zero_total_width, sum_overflow, filler_without_start, unequal_widths, no_common_width, only_source, middle_filler, opposite_fillers, number_of, refuse, need}

-- a number of the table, and places within the limits of an image
abbrev pub Told : Refusal → Type 0
Told q = (q.number ≤ 45) × (1 ≤ q.number) × (q.concatenation < limits.concatenations) × (q.component < limits.components)

-- an answer of which P holds, or a refusal with such a number and such places
pub data Ends {A : Type 0} (P : A → Type 0) : Result A → Type 0 where
  answers : {a : A} → P a → Ends P (ok a)
  refuses : {q : Refusal} → Told q → Ends P (refused q)

-- nothing is said of the answer
abbrev pub Fine : {A : Type 0} → Result A → Type 0
Fine m = Ends (λ _. Unit) m

-- "1 mode above 2" up to "45 not deterministic, opposite fillers"
pub in_table : (r : Reason) → (number_of r ≤ 45) × (1 ≤ number_of r)
in_table mode_above_2 = (omega arith, omega arith)
in_table short_image = (omega arith, omega arith)
in_table bad_count = (omega arith, omega arith)
in_table bad_offset = (omega arith, omega arith)
in_table bad_entry = (omega arith, omega arith)
in_table bad_record = (omega arith, omega arith)
in_table too_deep = (omega arith, omega arith)
in_table short_area = (omega arith, omega arith)
in_table empty_after_colon = (omega arith, omega arith)
in_table nothing_before_range = (omega arith, omega arith)
in_table empty_range = (omega arith, omega arith)
in_table second_dots = (omega arith, omega arith)
in_table three_dots = (omega arith, omega arith)
in_table not_one_token = (omega arith, omega arith)
in_table bound_overflow = (omega arith, omega arith)
in_table no_literal = (omega arith, omega arith)
in_table overflow = (omega arith, omega arith)
in_table negative_bound = (omega arith, omega arith)
in_table reversed = (omega arith, omega arith)
in_table zero_width = (omega arith, omega arith)
in_table start_above_width = (omega arith, omega arith)
in_table end_above_width = (omega arith, omega arith)
in_table range_above_width = (omega arith, omega arith)
in_table end_zero = (omega arith, omega arith)
in_table open_start = (omega arith, omega arith)
in_table literal_in_sink = (omega arith, omega arith)
in_table lone_filler_sink = (omega arith, omega arith)
in_table second_filler = (omega arith, omega arith)
in_table zero_total_width = (omega arith, omega arith)
in_table sum_overflow = (omega arith, omega arith)
in_table filler_without_start = (omega arith, omega arith)
in_table unequal_widths = (omega arith, omega arith)
in_table no_common_width = (omega arith, omega arith)
in_table only_source = (omega arith, omega arith)
in_table middle_filler = (omega arith, omega arith)
in_table opposite_fillers = (omega arith, omega arith)

module _ {A : Type 0} (P : A → Type 0) where
  pub refuse_ends : (r : Reason) → Ends P (refuse r)
  refuse_ends r = let (a, b) = in_table r in refuses {q = refusal_of (number_of r) 0 0} (a, b, omega arith, omega arith)

module _ {A : Type 0} {P : A → Type 0} where
  pub placed_ends : (i k : ℕ) {m : Result A} → i < limits.concatenations → k < limits.components → Ends P m → Ends P (with_places i k m)
  placed_ends i k p q (answers h) = answers h
  placed_ends i k p q (refuses (a, b, c, d)) = refuses (a, b, p, q)

  pub bind_ends : {B : Type 0} {Q : B → Type 0} {m : Result B} {f : B → Result A} → Ends Q m → ((b : B) → Q b → Ends P (f b)) → Ends P (m >>= f)
  bind_ends (answers {a} h) g = g a h
  bind_ends (refuses h) g = refuses h

  -- what comes after does not look at what is known of the answer
  pub next_ends : {B : Type 0} {Q : B → Type 0} {m : Result B} {f : B → Result A} → Ends Q m → ((b : B) → Ends P (f b)) → Ends P (m >>= f)
  next_ends h g = bind_ends h (λ b q. g b)

  pub if_ends : (t : Bool) {m n : Result A} → Ends P m → Ends P n → Ends P (if t then m else n)
  if_ends true h g = h
  if_ends false h g = g

  pub test_ends : (t : Bool) {m n : Result A} → Ends P m → Ends P n → Ends P (elim t [ true ↦ m | false ↦ n ])
  test_ends true h g = h
  test_ends false h g = g

  pub option_ends : {B : Type 0} (o : Option B) {m : Result A} {f : B → Result A} → Ends P m → ((b : B) → Ends P (f b)) → Ends P (elim o [ none ↦ m | some b ↦ f b ])
  option_ends none h g = h
  option_ends (some b) h g = g b

pub fine : {A : Type 0} (a : A) → Fine (ok a)
fine a = answers tt

-- what is known whatever the answer is
pub known : {A : Type 0} {P : Type 0} {m : Result A} → P → Fine m → Ends (λ _. P) m
known p (answers h) = answers p
known p (refuses h) = refuses h

-- what is known of the answer is left out
pub less : {A : Type 0} {P : A → Type 0} {m : Result A} → Ends P m → Fine m
less (answers h) = answers tt
less (refuses h) = refuses h

pub refuse_fine : (A : Type 0) (r : Reason) → Fine (refuse {A = A} r)
refuse_fine A r = refuse_ends (λ (a : A). Unit) r

-- a test that is needed, and that it came out true
pub need_ends : (t : Bool) (r : Reason) → Ends (λ _. t ≡ true) (need t r)
need_ends true r = answers refl
need_ends false r = refuse_ends (λ _. false ≡ true) r
