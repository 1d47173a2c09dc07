-- Document 01, "Numbers and bounds" (src/ranges.rs): a bound, the scan for `..` and `..=`, and a range.
use Rattle.std.specs.Prelude.{◌+◌, ◌-◌, ◌&&◌, ◌∷◌, ◌+ℤ◌, ◌-ℤ◌, if◌then◌else◌}
use Rattle.definition.specs.Prelude.{ℕ, suc, Bool, true, false, not, Option, none, some, List, [], take, drop, eqb, ℤ, pos}
use Rattle.definition.specs.Basics.{Result, ok, ◌>>=◌, is_empty, same_bytes}
use Rattle.definition.specs.Characters.{char}
use Rattle.definition.specs.Numbers.{narrow, try_parse}
use Rattle.definition.specs.Refusals.{Reason, need, refuse, empty_range, second_dots, three_dots, not_one_token, bound_overflow}
use Rattle.definition.specs.Image.{kinds}
use Rattle.definition.specs.Text.{Part, no_text, Item, items, is_group, is_token, part_of}

-- "A bound is a text s plus a number x."
pub record Usb : Type 0 where
  pub s : Part
  pub x : ℤ

-- a range: its start, and its end if there is one
pub record Usbr : Type 0 where
  pub start : Usb
  pub «end» : Option Usb

abbrev pub val : ℤ → Usb
val x = record { s = no_text; x = x }

abbrev pub text : Part → ℤ → Usb
text s x = record { s = s; x = x }

-- a range without a bracket
abbrev pub unbounded : Usbr
unbounded = record { start = val (pos 0); «end» = none }

-- the bound with another x, where it fits 128 bits
abbrev pub with_x : Reason → Part → ℤ → Result Usb
with_x r s z = elim (narrow z) [ none ↦ refuse r | some x ↦ ok (text s x) ]

-- items cut at a sign
pub record Cut : Type 0 where
  pub before : List Item
  pub sign : Item
  pub after : List Item

abbrev pub behind : Item → Option Cut → Option Cut
behind i none = none
behind i (some c) = some (record { before = i ∷ c.before; sign = c.sign; after = c.after })

-- at the last item of a kind
unfoldable pub cut_last : (Item → Bool) → List Item → Option Cut
cut_last p [] = none
cut_last p (i ∷ rest) =
    elim (cut_last p rest) [
      | some c ↦ behind i (some c)
      | none ↦ if p i then some (record { before = []; sign = i; after = rest }) else none
    ]

abbrev pub begins_with : (Item → Bool) → List Item → Bool
begins_with p [] = false
begins_with p (i ∷ rest) = p i

-- "at the first of the leftmost pair of adjacent minuses"
unfoldable pub cut_pair : List Item → Option Cut
cut_pair [] = none
cut_pair (i ∷ rest) =
    if is_token char.minus i && begins_with (is_token char.minus) rest
    then some (record { before = []; sign = i; after = rest })
    else behind i (cut_pair rest)

abbrev pub or_else : {A : Type 0} → Option A → Option A → Option A
or_else none b = b
or_else (some a) b = some a

-- "With any `+`, cut at the last. Else, with any `-`, cut at the first of the leftmost pair of adjacent minuses, or with no pair at the last."
abbrev pub cut_bound : List Item → Option Cut
cut_bound is = or_else (cut_last (is_token char.plus) is) (or_else (cut_pair is) (cut_last (is_token char.minus) is))

-- "An empty side counts as 0."
abbrev pub number_in : Part → Option ℤ
number_in p = if is_empty p.bytes then some (pos 0) else try_parse p.bytes

-- a side: its number, or its text
abbrev pub side : Part → Usb
side p = elim (number_in p) [ some v ↦ val v | none ↦ text p (pos 0) ]

-- "A number on the right is added to x, or after `-` taken from it. A number on the left moves into x, the text keeping its `-`.
-- Two non-numbers: kept as written."
abbrev pub join_sides : Usb → Cut → Result Usb
join_sides original c =
    let left = side (part_of c.before) in
    let negative = is_token char.minus c.sign in
    elim (number_in (part_of c.after)) [
      | some r ↦ with_x bound_overflow left.s (if negative then left.x -ℤ r else left.x +ℤ r)
      | none ↦ elim (number_in (part_of c.before)) [
        | some l ↦ ok (text (if negative then part_of (c.sign ∷ c.after) else part_of c.after) l)
        | none ↦ ok original
      ]
    ]

-- The reading of a bound, from the lone token or what stands at the top level inside the group. "No cut: kept as written."
unfoldable pub read_bound : List Item → Result Usb
read_bound is =
    let original = text (part_of is) (pos 0) in
    elim (cut_bound is) [ none ↦ ok original | some c ↦ join_sides original c ]

-- parse_usb: "It is written as one token or one `(` group."
unfoldable pub parse_usb : List Item → Result Usb
parse_usb [] = refuse not_one_token
parse_usb (i ∷ []) =
    elim (is_group i) [
      | true ↦ need (eqb i.kind kinds.parenthesis) not_one_token >>= λ _. read_bound (items i.inside_at i.inside)
      | false ↦ read_bound (i ∷ [])
    ]
parse_usb (i ∷ j ∷ rest) = refuse not_one_token

-- the scan's state, as in parse_range: the dots that stand before, and the dots found: from item lo up to hi
pub record Scan : Type 0 where
  pub dots : ℕ
  pub found : Option (ℕ × ℕ)
  pub inclusive : Bool

-- "13 a second `..`"
abbrev pub find : Scan → ℕ → ℕ → Bool → Result Scan
find st lo hi inclusive =
    elim st.found [
      | none ↦ ok (record { dots = 0; found = some (lo, hi); inclusive = inclusive })
      | some f ↦ refuse second_dots
    ]

abbrev pub with_dots : Scan → ℕ → Scan
with_dots st n = record { dots = n; found = st.found; inclusive = st.inclusive }

-- item i of the loop: "each character a token"; a `..` counts when the next token is no dot
abbrev pub scan_step : ℕ → Item → Scan → Result Scan
scan_step i item st =
    if is_token char.dot item then (if eqb st.dots 2 then refuse three_dots else ok (with_dots st (suc st.dots)))
    else if eqb st.dots 2
    then (if is_token char.equals item then find st (i - 2) (i + 1) true else find st (i - 2) i false)
    else ok (with_dots st 0)

unfoldable pub scan_from : ℕ → List Item → Scan → Result Scan
scan_from n [] st = if eqb st.dots 2 then find st (n - 2) n false else ok st
scan_from n (i ∷ rest) st = scan_step n i st >>= scan_from (suc n) rest

abbrev pub scan_dots : List Item → Result Scan
scan_dots is = scan_from 0 is (record { dots = 0; found = none; inclusive = false })

-- "An empty start is 0"
abbrev pub parse_start : List Item → Result Usb
parse_start is = if is_empty is then ok (val (pos 0)) else parse_usb is

-- "an empty end is none"; "`..=` adds 1 to x of the end if there is one"
abbrev pub parse_end : Bool → List Item → Result (Option Usb)
parse_end inclusive is =
    elim (is_empty is) [
      | true ↦ ok none
      | false ↦ do
        e ← parse_usb is
        e' ← if inclusive then with_x bound_overflow e.s (e.x +ℤ pos 1) else ok e
        ok (some e')
    ]

-- parse_range: "A range is cut at its one top-level `..` or `..=`"; none where there is none
unfoldable pub parse_range : List Item → Result (Option Usbr)
parse_range is = do
  _ ← need (not (is_empty is)) empty_range
  st ← scan_dots is
  elim st.found [
    | none ↦ ok none
    | some f ↦ do
      s ← parse_start (take f.0 is)
      e ← parse_end st.inclusive (drop f.1 is)
      ok (some (record { start = s; «end» = e }))
  ]

-- "In a bracket without dots, text s means s up to s+1."
abbrev pub single_bit : List Item → Usbr
single_bit is = record { start = text (part_of is) (pos 0); «end» = some (text (part_of is) (pos 1)) }

-- static_val: the number of a bound without a text
abbrev pub static_val : Usb → Option ℤ
static_val u = if is_empty u.s.bytes then some u.x else none

-- static_range: both bounds are numbers
abbrev pub static_range : Usbr → Bool
static_range r = is_empty r.start.s.bytes && elim r.«end» [ none ↦ false | some e ↦ is_empty e.s.bytes ]

-- static_width: "Width is known when start and end texts are equal and the difference of x fits 128 bits; otherwise unknown."
abbrev pub static_width : Usbr → Option ℤ
static_width r =
    elim r.«end» [
      | none ↦ none
      | some e ↦ if same_bytes r.start.s.bytes e.s.bytes then narrow (e.x -ℤ r.start.x) else none
    ]
