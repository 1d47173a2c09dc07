-- The bytes of text of the bounds and ranges that are read of items: no more than the items have; a bracket without dots, twice.
use Rattle.std.specs.Prelude.{◌≤◌, ◌+◌, ◌-◌, ◌∷◌, ◌++◌, ◌+ℤ◌, ◌-ℤ◌, if◌then◌else◌}
use Rattle.std.proofs.Common.{zero-le, le_refl, le_trans, arith, length-append}
use Rattle.definition.specs.Prelude.{ℕ, suc, Bool, true, false, not, Option, none, some, List, [], length, take, drop, eqb, ℤ, pos}
use Rattle.definition.specs.Basics.{Result, ok, ◌>>=◌, is_empty}
use Rattle.definition.specs.Characters.{char}
use Rattle.definition.specs.Numbers.{narrow}
use Rattle.definition.specs.Refusals.{Reason, need, refuse, bound_overflow, not_one_token, empty_range, second_dots}
use Rattle.definition.specs.Image.{kinds}
use Rattle.definition.specs.Text.{Part, Item, items, is_group, is_token, bytes_of, part_of}
use Rattle.definition.specs.Ranges.{Usb, Usbr, Cut, Scan, val, text, with_x, cut_bound, number_in, side, join_sides, read_bound, parse_usb, find, scan_step, scan_from, parse_start, parse_end, parse_range}
use Rattle.answer_facts.specs.read.Facts.{Yields, given, nothing, Found, found, missing, Every, every_cons, after, bound, yields_if}
use Rattle.answer_facts.specs.read.Texts.{CutOf, cut_bound_lem}
use Rattle.listing_length.specs.run.Items.{size, part_size, size_append, apart_size, Holding, hold_take, hold_drop}

-- a fact that follows from one that is known
pub yields_map : {A : Type 0} {P Q : A → Type 0} {m : Result A} → ((a : A) → P a → Q a) → Yields P m → Yields Q m
yields_map f (given {a = a} p) = given (f a p)
yields_map f nothing = nothing

-- ---- bounds

abbrev pub usb_text : Usb → ℕ
usb_text u = length u.s.bytes

abbrev pub Within : ℕ → Usb → Type 0
Within n u = usb_text u ≤ n

pub with_x_lem : (n : ℕ) (r : Reason) (s : Part) (z : ℤ) → length s.bytes ≤ n → Yields (Within n) (with_x r s z)
with_x_lem n r s z h = go (narrow z)
  where
    go : (x : Option ℤ) → Yields (Within n) (elim x [ none ↦ refuse r | some x ↦ ok (text s x) ])
    go none = nothing
    go (some x) = given h

side_within : (p : Part) → usb_text (side p) ≤ length p.bytes
side_within p = go (number_in p)
  where
    go : (x : Option ℤ) → usb_text (elim x [ some v ↦ val v | none ↦ text p (pos 0) ]) ≤ length p.bytes
    go none = le_refl (length p.bytes)
    go (some v) = zero-le

join_sides_lem : (n : ℕ) (original : Usb) (c : Cut) → usb_text original ≤ n → size (c.before ++ c.sign ∷ c.after) ≤ n → Yields (Within n) (join_sides original c)
unfolding bytes_of
join_sides_lem n original c h l = go (number_in (part_of c.after)) (number_in (part_of c.before)) (is_token char.minus c.sign)
  where
    left : Usb
    left = side (part_of c.before)

    whole : size c.before + size (c.sign ∷ c.after) ≤ n
    whole = let e = size_append c.before (c.sign ∷ c.after) in omega arith

    later : size c.after ≤ size (c.sign ∷ c.after)
    later = omega (arith, length-append c.sign.part.bytes (bytes_of c.after))

    go : (x y : Option ℤ) (negative : Bool)
        → Yields (Within n) (elim x [
          | some r ↦ with_x bound_overflow left.s (if negative then left.x -ℤ r else left.x +ℤ r)
          | none ↦ elim y [
            | some l ↦ ok (text (if negative then part_of (c.sign ∷ c.after) else part_of c.after) l)
            | none ↦ ok original
          ]
        ])
    go (some r) y negative =
        with_x_lem n bound_overflow left.s (if negative then left.x -ℤ r else left.x +ℤ r)
        (omega (arith, side_within (part_of c.before), part_size c.before, whole))
    go none (some l) true = let h : length (part_of (c.sign ∷ c.after)).bytes ≤ n = omega (arith, part_size (c.sign ∷ c.after), whole) in given h
    go none (some l) false = let h : length (part_of c.after).bytes ≤ n = omega (arith, part_size c.after, later, whole) in given h
    go none none negative = given h

read_bound_lem : (is : List Item) → Yields (Within (size is)) (read_bound is)
unfolding read_bound
read_bound_lem is = go (cut_bound is) (cut_bound_lem is)
  where
    original : Usb
    original = text (part_of is) (pos 0)

    first : usb_text original ≤ size is
    first = omega (arith, part_size is)

    go : (x : Option Cut) → Found (CutOf is) x → Yields (Within (size is)) (elim x [ none ↦ ok original | some c ↦ join_sides original c ])
    go none h = given first
    go (some c) (found e) = join_sides_lem (size is) original c first (rw (← e) (le_refl (size is)))

parse_usb_lem : (is : List Item) → Every Holding is → Yields (Within (size is)) (parse_usb is)
unfolding parse_usb bytes_of
parse_usb_lem [] h = nothing
parse_usb_lem (i ∷ []) (every_cons p ps) = go (is_group i)
  where
    least : length i.part.bytes ≤ size (i ∷ [])
    least = omega (arith, length-append i.part.bytes [])

    go : (b : Bool)
        → Yields (Within (size (i ∷ []))) (elim b [
          | true ↦ need (eqb i.kind kinds.parenthesis) not_one_token >>= λ _. read_bound (items i.inside_at i.inside)
          | false ↦ read_bound (i ∷ [])
        ])
    go true =
        after (need (eqb i.kind kinds.parenthesis) not_one_token) λ _.
        yields_map (λ u k. le_trans k (le_trans p least)) (read_bound_lem (items i.inside_at i.inside))
    go false = read_bound_lem (i ∷ [])
parse_usb_lem (i ∷ j ∷ is) h = nothing

-- ---- the place of the dots: its end is not before its start

abbrev Ordered : Scan → Type 0
Ordered st = Found (λ f. f.0 ≤ f.1) st.found

find_ordered : (st : Scan) (lo hi : ℕ) (inclusive : Bool) → lo ≤ hi → Yields Ordered (find st lo hi inclusive)
find_ordered st lo hi inclusive h = go st.found
  where
    go : (x : Option (ℕ × ℕ))
        → Yields Ordered (elim x [ none ↦ ok (record { dots = 0; found = some (lo, hi); inclusive = inclusive }) | some f ↦ refuse second_dots ])
    go none = given (found h)
    go (some f) = nothing

step_ordered : (i : ℕ) (item : Item) (st : Scan) → Ordered st → Yields Ordered (scan_step i item st)
step_ordered i item st h =
    yields_if (is_token char.dot item) (yields_if (eqb st.dots 2) nothing (given h))
    (yields_if (eqb st.dots 2)
    (yields_if (is_token char.equals item) (find_ordered st (i - 2) (i + 1) true (omega arith)) (find_ordered st (i - 2) i false (omega arith)))
    (given h))

from_ordered : (n : ℕ) (is : List Item) (st : Scan) → Ordered st → Yields Ordered (scan_from n is st)
unfolding scan_from
from_ordered n [] st h = yields_if (eqb st.dots 2) (find_ordered st (n - 2) n false (omega arith)) (given h)
from_ordered n (i ∷ is) st h = bound (step_ordered n i st h) λ st' h'. from_ordered (suc n) is st' h'

-- ---- ranges

abbrev pub end_text : Option Usb → ℕ
end_text none = 0
end_text (some e) = usb_text e

abbrev pub range_text : Usbr → ℕ
range_text r = usb_text r.start + end_text r.«end»

parse_start_lem : (is : List Item) → Every Holding is → Yields (Within (size is)) (parse_start is)
parse_start_lem is h = yields_if (is_empty is) (given zero-le) (parse_usb_lem is h)

parse_end_lem : (inclusive : Bool) (is : List Item) → Every Holding is → Yields (λ e. end_text e ≤ size is) (parse_end inclusive is)
parse_end_lem inclusive is h = go (is_empty is)
  where
    go : (b : Bool)
        → Yields (λ e. end_text e ≤ size is) (elim b [
          | true ↦ ok none
          | false ↦ do
            e ← parse_usb is
            e' ← if inclusive then with_x bound_overflow e.s (e.x +ℤ pos 1) else ok e
            ok (some e')
        ])
    go true = given zero-le
    go false =
        bound (parse_usb_lem is h) λ e k.
        bound (yields_if inclusive (with_x_lem (size is) bound_overflow e.s (e.x +ℤ pos 1) k) (given k)) λ e' k'. given k'

pub parse_range_lem : (is : List Item) → Every Holding is → Yields (Found (λ r. range_text r ≤ size is)) (parse_range is)
unfolding parse_range
parse_range_lem is h =
    after (need (not (is_empty is)) empty_range) λ _.
    bound (from_ordered 0 is (record { dots = 0; found = none; inclusive = false }) missing) λ st o. go st st.found o
  where
    go : (st : Scan) (x : Option (ℕ × ℕ)) → Found (λ f. f.0 ≤ f.1) x
        → Yields (Found (λ r. range_text r ≤ size is)) (elim x [
          | none ↦ ok none
          | some f ↦ do
            s ← parse_start (take f.0 is)
            e ← parse_end st.inclusive (drop f.1 is)
            ok (some (record { start = s; «end» = e }))
        ])
    go st none o = given missing
    go st (some f) (found o) =
        bound (parse_start_lem (take f.0 is) (hold_take f.0 is h)) λ s p.
        bound (parse_end_lem st.inclusive (drop f.1 is) (hold_drop f.1 is h)) λ e q.
        given (found (omega (arith, apart_size f.0 f.1 is o, p, q)))
