-- Stages 1 and 2 of a component, free of its place, and over the whole tree (src/component.rs, and simplify of src/ranges.rs).
use Rattle.std.specs.Prelude.{◌&&◌, ◌||◌, ◌∷◌, ◌+ℤ◌, ◌-ℤ◌, if◌then◌else◌}
use Rattle.definition.specs.Prelude.{ℕ, suc, Bool, true, false, not, Option, none, some, List, [], length, get_or, take, drop, eqb, ℤ, pos, nat_abs, lt_z, le_z, non_neg}
use Rattle.definition.specs.Basics.{Result, ok, ◌>>=◌, with_places, within, is_empty}
use Rattle.definition.specs.Characters.{char}
use Rattle.definition.specs.Numbers.{try_parse}
use Rattle.definition.specs.Refusals.{need, empty_after_colon, nothing_before_range, no_literal, overflow, negative_bound, reversed, zero_width, start_above_width, end_above_width, range_above_width, end_zero, open_start}
use Rattle.definition.specs.Image.{Unparsed, Placed, kinds}
use Rattle.definition.specs.Text.{Part, no_text, Item, items, is_group, is_token, part_of}
use Rattle.definition.specs.Ranges.{Usb, Usbr, val, with_x, unbounded, parse_range, single_bit, static_val, static_width, begins_with}

pub data ComponentType : Type 0 where
  literal : List ℕ → ComponentType
  variable : Part → ComponentType
  filler : ComponentType

pub record Component : Type 0 where
  pub c_type : ComponentType
  pub range : Usbr

-- what stands before the range, and what stands in the range's bracket
pub record Split : Type 0 where
  pub mid : List Item
  pub range : Option (List Item)

-- "A component ending in a `[` group has that as its range."
unfoldable pub split_range : List Item → Split
split_range [] = record { mid = []; range = none }
split_range (i ∷ []) =
    if eqb i.kind kinds.bracket
    then record { mid = []; range = some (items i.inside_at i.inside) }
    else record { mid = i ∷ []; range = none }
split_range (i ∷ j ∷ rest) = let s = split_range (j ∷ rest) in record { mid = i ∷ s.mid; range = s.range }

-- a starting value's items, and those after its colon
pub record Prefix : Type 0 where
  pub before : List Item
  pub after : List Item

abbrev pub beyond : Item → Option Prefix → Option Prefix
beyond i none = none
beyond i (some p) = some (record { before = i ∷ p.before; after = p.after })

-- "starting-value colon (single, top level, `::` skipped)"
unfoldable pub split_colon : List Item → Option Prefix
split_colon [] = none
split_colon (i ∷ []) = if is_token char.colon i then some (record { before = []; after = [] }) else none
split_colon (i ∷ j ∷ rest) =
    let skipped = beyond i (beyond j (split_colon rest)) in
    let later = beyond i (split_colon (j ∷ rest)) in
    if is_token char.colon i then (if is_token char.colon j then skipped else some (record { before = []; after = j ∷ rest })) else later

abbrev pub split_of : Unparsed → Split
split_of u = split_range (items 0 u.recs)

-- the starting value of the component that is scanned for it
abbrev pub prefix_of : Unparsed → Option Prefix
prefix_of u = split_colon (split_of u).mid

-- "A starting value and its colon are taken off first": of the most significant component of concatenation 0 only
abbrev pub middle : Bool → Unparsed → List Item
middle false u = (split_of u).mid
middle true u = elim (prefix_of u) [ none ↦ (split_of u).mid | some p ↦ p.after ]

-- "a text beginning with `-` or a digit makes it a literal"
abbrev pub is_literal : List Item → Bool
is_literal = begins_with (λ i. not (is_group i) && (let b = get_or i.part.bytes 0 0 in eqb b char.minus || within char.zero char.nine b))

-- "else a text beginning with `-` or a digit makes it a literal, any other a variable"; "17 .. literal width is 0"
abbrev pub typed : List Item → List ℕ → Usbr → Result Component
typed mid bits r =
    if is_literal mid
    then (need (not (is_empty bits)) no_literal >>= λ _. ok (record { c_type = literal bits; range = r }))
    else ok (record { c_type = variable (part_of mid); range = r })

-- stage 1 of a component: 11 to 17; "Without one, a top-level `..` makes it a filler"
unfoldable pub parse_component : List Item → Option (List Item) → List ℕ → Result Component
parse_component mid range bits = do
  _ ← need (not (is_empty mid)) nothing_before_range
  elim range [
    | some is ↦ (parse_range is >>= λ r. typed mid bits (elim r [ none ↦ single_bit is | some r' ↦ r' ]))
    | none ↦ (parse_range mid >>= λ r. elim r [ none ↦ typed mid bits unbounded | some r' ↦ ok (record { c_type = filler; range = r' }) ])
  ]

abbrev pub stage1_component : Bool → Unparsed → Result Component
stage1_component scanned u = parse_component (middle scanned u) (split_of u).range u.bits

-- every component of a concatenation in order, each refusal with its places; f is told which is the most significant of concatenation 0
unfoldable pub each_in : {A B : Type 0} → (Bool → A → Result B) → ℕ → ℕ → List A → Result (List B)
each_in f i k [] = ok []
each_in f i k (a ∷ rest) = do
  b ← with_places i k (f (eqb i 0 && is_empty rest) a)
  bs ← each_in f i (suc k) rest
  ok (b ∷ bs)

-- "each over the whole tree before the next"
unfoldable pub each : {A B : Type 0} → (Bool → A → Result B) → ℕ → List (List A) → Result (List (List B))
each f i [] = ok []
each f i (c ∷ cs) = do
  bs ← each_in f i 0 c
  bss ← each f (suc i) cs
  ok (bs ∷ bss)

abbrev pub keep_base : {A B : Type 0} → (Bool → A → Result B) → Bool → Placed A → Result (Placed B)
keep_base f last p = f last p.value >>= λ b. ok (record { base = p.base; value = b })

-- the starting value's text, with the text start of its component; "10 .. with nothing after"
unfoldable pub starting_value : ℕ → List (Placed Unparsed) → Result (Option (Placed Part))
starting_value k [] = ok none
starting_value k (u ∷ []) =
    elim (prefix_of u.value) [
      | none ↦ ok none
      | some p ↦ do
        _ ← with_places 0 k (need (not (is_empty p.after)) empty_after_colon)
        ok (some (record { base = u.base; value = part_of p.before }))
    ]
starting_value k (u ∷ v ∷ rest) = starting_value (suc k) (v ∷ rest)

abbrev pub source : {A : Type 0} → List (List A) → List A
source [] = []
source (c ∷ cs) = c

-- the tree after a stage: the starting value, and the components
pub record Parsed : Type 0 where
  pub init : Option (Placed Part)
  pub cc : List (List (Placed Component))

unfoldable pub stage1 : List (List (Placed Unparsed)) → Result Parsed
stage1 t = do
  init ← starting_value 0 (source t)
  cc ← each (keep_base stage1_component) 0 t
  ok (record { init = init; cc = cc })

-- "Stage 2 adds a text that is a number to x and empties it."
unfoldable pub simplify_usb : Usb → Result Usb
simplify_usb u =
    if is_empty u.s.bytes then ok u
    else elim (try_parse u.s.bytes) [ none ↦ ok u | some v ↦ with_x overflow no_text (u.x +ℤ v) ]

abbrev pub simplify_end : Option Usb → Result (Option Usb)
simplify_end none = ok none
simplify_end (some e) = simplify_usb e >>= λ e'. ok (some e')

-- a test of a bound's number, passed by a bound with a text
abbrev pub if_static : (ℤ → Bool) → Usb → Bool
if_static p u = elim (static_val u) [ none ↦ true | some x ↦ p x ]

abbrev pub if_static_end : (ℤ → Bool) → Usbr → Bool
if_static_end p r = elim r.«end» [ none ↦ true | some e ↦ if_static p e ]

abbrev pub if_known : (ℤ → Bool) → Usbr → Bool
if_known p r = elim (static_width r) [ none ↦ true | some w ↦ p w ]

-- Usbr::simplify: "20 overflow, start then end; 21 negative start or end; 22 reversed, 23 zero width"
unfoldable pub simplify_range : Usbr → Result Usbr
simplify_range r = do
  s ← simplify_usb r.start
  e ← simplify_end r.«end»
  let r' : Usbr = record { start = s; «end» = e }
  _ ← need (if_static non_neg s && if_static_end non_neg r') negative_bound
  _ ← need (if_known non_neg r') reversed
  _ ← need (if_known (lt_z (pos 0)) r') zero_width
  ok r'

-- "A literal without an end ends at its width"
abbrev pub the_end : ℕ → Usbr → Usb
the_end w r = elim r.«end» [ none ↦ val (pos w) | some e ↦ e ]

abbrev pub with_end : ℕ → Usbr → Usbr
with_end w r = record { start = r.start; «end» = some (the_end w r) }

-- "with a number end it is cut there, and with a number start too it loses the bits below and starts at 0"
abbrev pub cut_literal : List ℕ → Usbr → Component
cut_literal bits r =
    let r' = with_end (length bits) r in
    elim (static_val (the_end (length bits) r)) [
      | none ↦ record { c_type = literal bits; range = r' }
      | some x ↦ elim (static_val r.start) [
        | none ↦ record { c_type = literal (take (nat_abs x) bits); range = r' }
        | some a ↦ record {
          c_type = literal (drop (nat_abs a) (take (nat_abs x) bits));
          range = record { start = val (pos 0); «end» = some (val (x -ℤ a)) };
        }
      ]
    ]

-- "24 start at or above the width; 25 end above it; 26 known range width above it; 27 end 0 with a text start"
unfoldable pub simplify_literal : List ℕ → Usbr → Result Component
simplify_literal bits r = do
  let w : ℤ = pos (length bits)
  _ ← need (if_static (λ x. lt_z x w) r.start) start_above_width
  _ ← need (if_static_end (λ x. le_z x w) r) end_above_width
  _ ← need (if_known (λ x. le_z x w) (with_end (length bits) r)) range_above_width
  _ ← need (if_static_end (lt_z (pos 0)) r) end_zero
  ok (cut_literal bits r)

-- is_guaranteed_zero
abbrev pub is_zero : Usb → Bool
is_zero u = elim (static_val u) [ none ↦ false | some x ↦ eqb (nat_abs x) 0 ]

abbrev pub has_end : Usbr → Bool
has_end r = elim r.«end» [ none ↦ false | some e ↦ true ]

-- Component::simplify: stage 2 of a component
unfoldable pub simplify : Component → Result Component
simplify c = do
  r ← simplify_range c.range
  elim c.c_type [
    | literal bits ↦ simplify_literal bits r
    | variable p ↦ ok (record { c_type = variable p; range = r })
    -- "28 start not 0 and no end"
    | filler ↦ (need (is_zero r.start || has_end r) open_start >>= λ _. ok (record { c_type = filler; range = r }))
  ]

unfoldable pub stage2 : Parsed → Result Parsed
stage2 t = each (keep_base (λ last. simplify)) 0 t.cc >>= λ cc. ok (record { init = t.init; cc = cc })
