-- Stages 1 and 2 of one component refuse with a number of the table; their places are 0 and 0 until the tree gives them.
use Rattle.std.specs.Prelude.{ℕ, suc, ◌+◌, ◌-◌, ◌&&◌, ◌||◌, ◌∷◌, ◌+ℤ◌, ◌-ℤ◌, if◌then◌else◌}
use Rattle.definition.specs.Prelude.{Bool, true, false, not, Option, none, some, List, [], length, take, drop, eqb, ℤ, pos, lt_z, le_z, non_neg}
use Rattle.definition.specs.Basics.{ok, ◌>>=◌, is_empty}
use Rattle.definition.specs.Characters.{char}
use Rattle.definition.specs.Numbers.{narrow, try_parse}
use Rattle.definition.specs.Refusals.{Reason, need, empty_range, second_dots, three_dots, not_one_token, bound_overflow, nothing_before_range, no_literal, overflow, negative_bound, reversed, zero_width, start_above_width, end_above_width, range_above_width, end_zero, open_start}
use Rattle.definition.specs.Image.{Unparsed, kinds}
use Rattle.definition.specs.Text.{Part, no_text, Item, items, is_group, is_token, part_of}
use Rattle.definition.specs.Ranges.{Usb, Usbr, Cut, Scan, with_x, number_in, side, join_sides, cut_bound, read_bound, parse_usb, find, scan_step, scan_from, parse_start, parse_end, parse_range, unbounded}
use Rattle.definition.specs.Component.{Component, ComponentType, literal, variable, filler, is_literal, typed, parse_component, split_of, middle, stage1_component, simplify_usb, simplify_end, if_static, if_static_end, if_known, simplify_range, with_end, simplify_literal, is_zero, has_end, simplify}
use Rattle.refusal_places.specs.Ends.{Fine, fine, refuse_fine, need_ends, next_ends, if_ends, test_ends, option_ends}

-- ---- ranges

with_x_fine : (r : Reason) (s : Part) (z : ℤ) → Fine (with_x r s z)
with_x_fine r s z = option_ends (narrow z) (refuse_fine Usb r) (λ x. fine _)

join_sides_fine : (original : Usb) (c : Cut) → Fine (join_sides original c)
join_sides_fine original c =
    let left = side (part_of c.before) in
    let negative = is_token char.minus c.sign in
    option_ends (number_in (part_of c.after))
    (option_ends (number_in (part_of c.before)) (fine original) (λ l. fine _))
    (λ r. with_x_fine bound_overflow left.s (if negative then left.x -ℤ r else left.x +ℤ r))

read_bound_fine : (is : List Item) → Fine (read_bound is)
unfolding read_bound
read_bound_fine is = option_ends (cut_bound is) (fine _) (join_sides_fine _)

parse_usb_fine : (is : List Item) → Fine (parse_usb is)
unfolding parse_usb
parse_usb_fine [] = refuse_fine Usb not_one_token
parse_usb_fine (i ∷ []) =
    test_ends (is_group i)
    (next_ends (need_ends (eqb i.kind kinds.parenthesis) not_one_token) (λ _. read_bound_fine (items i.inside_at i.inside)))
    (read_bound_fine (i ∷ []))
parse_usb_fine (i ∷ j ∷ rest) = refuse_fine Usb not_one_token

find_fine : (st : Scan) (lo hi : ℕ) (inclusive : Bool) → Fine (find st lo hi inclusive)
find_fine st lo hi inclusive = option_ends st.found (fine _) (λ f. refuse_fine Scan second_dots)

scan_step_fine : (i : ℕ) (item : Item) (st : Scan) → Fine (scan_step i item st)
scan_step_fine i item st =
    if_ends (is_token char.dot item) (if_ends (eqb st.dots 2) (refuse_fine Scan three_dots) (fine _))
    (if_ends (eqb st.dots 2)
    (if_ends (is_token char.equals item) (find_fine st (i - 2) (i + 1) true) (find_fine st (i - 2) i false))
    (fine _))

scan_from_fine : (n : ℕ) (is : List Item) (st : Scan) → Fine (scan_from n is st)
unfolding scan_from
scan_from_fine n [] st = if_ends (eqb st.dots 2) (find_fine st (n - 2) n false) (fine st)
scan_from_fine n (i ∷ rest) st = next_ends (scan_step_fine n i st) (scan_from_fine (suc n) rest)

parse_start_fine : (is : List Item) → Fine (parse_start is)
parse_start_fine is = if_ends (is_empty is) (fine _) (parse_usb_fine is)

parse_end_fine : (inclusive : Bool) (is : List Item) → Fine (parse_end inclusive is)
parse_end_fine inclusive is =
    test_ends (is_empty is) (fine none)
    (next_ends (parse_usb_fine is) λ e.
    next_ends (if_ends inclusive (with_x_fine bound_overflow e.s (e.x +ℤ pos 1)) (fine e)) λ e'. fine _)

parse_range_fine : (is : List Item) → Fine (parse_range is)
unfolding parse_range
parse_range_fine is =
    next_ends (need_ends (not (is_empty is)) empty_range) λ _.
    next_ends (scan_from_fine 0 is _) λ st.
    option_ends st.found (fine none) λ f.
    next_ends (parse_start_fine (take f.0 is)) λ s.
    next_ends (parse_end_fine st.inclusive (drop f.1 is)) λ e. fine _

-- ---- stage 1 of a component

typed_fine : (mid : List Item) (bits : List ℕ) (r : Usbr) → Fine (typed mid bits r)
typed_fine mid bits r = if_ends (is_literal mid) (next_ends (need_ends (not (is_empty bits)) no_literal) (λ _. fine _)) (fine _)

parse_fine : (mid : List Item) (range : Option (List Item)) (bits : List ℕ) → Fine (parse_component mid range bits)
unfolding parse_component
parse_fine mid range bits =
    next_ends (need_ends (not (is_empty mid)) nothing_before_range) λ _.
    option_ends range
    (next_ends (parse_range_fine mid) λ r. option_ends r (typed_fine mid bits unbounded) (λ r'. fine _))
    (λ is. next_ends (parse_range_fine is) λ r. typed_fine mid bits _)

pub stage1_fine : (scanned : Bool) (u : Unparsed) → Fine (stage1_component scanned u)
stage1_fine scanned u = parse_fine (middle scanned u) (split_of u).range u.bits

-- ---- stage 2 of a component

simplify_usb_fine : (u : Usb) → Fine (simplify_usb u)
unfolding simplify_usb
simplify_usb_fine u =
    if_ends (is_empty u.s.bytes) (fine u) (option_ends (try_parse u.s.bytes) (fine u) (λ v. with_x_fine overflow no_text (u.x +ℤ v)))

simplify_end_fine : (e : Option Usb) → Fine (simplify_end e)
simplify_end_fine none = fine none
simplify_end_fine (some e) = next_ends (simplify_usb_fine e) (λ e'. fine _)

simplify_range_fine : (r : Usbr) → Fine (simplify_range r)
unfolding simplify_range
simplify_range_fine r =
    next_ends (simplify_usb_fine r.start) λ s.
    next_ends (simplify_end_fine r.«end») λ e.
    let r' : Usbr = record { start = s; «end» = e } in
    next_ends (need_ends (if_static non_neg s && if_static_end non_neg r') negative_bound) λ _.
    next_ends (need_ends (if_known non_neg r') reversed) λ _.
    next_ends (need_ends (if_known (lt_z (pos 0)) r') zero_width) λ _. fine r'

simplify_literal_fine : (bits : List ℕ) (r : Usbr) → Fine (simplify_literal bits r)
unfolding simplify_literal
simplify_literal_fine bits r =
    next_ends (need_ends (if_static (λ x. lt_z x (pos (length bits))) r.start) start_above_width) λ _.
    next_ends (need_ends (if_static_end (λ x. le_z x (pos (length bits))) r) end_above_width) λ _.
    next_ends (need_ends (if_known (λ x. le_z x (pos (length bits))) (with_end (length bits) r)) range_above_width) λ _.
    next_ends (need_ends (if_static_end (lt_z (pos 0)) r) end_zero) λ _. fine _

pub simplify_fine : (c : Component) → Fine (simplify c)
unfolding simplify
simplify_fine c = next_ends (simplify_range_fine c.range) (of_type c.c_type)
  where
    of_type : (t : ComponentType) (r : Usbr) → Fine {A = Component} (elim t [
      | literal bits ↦ simplify_literal bits r
      | variable p ↦ ok (record { c_type = variable p; range = r })
      | filler ↦ (need (is_zero r.start || has_end r) open_start >>= λ _. ok (record { c_type = filler; range = r }))
    ])
    of_type (literal bits) r = simplify_literal_fine bits r
    of_type (variable p) r = fine _
    of_type filler r = next_ends (need_ends (is_zero r.start || has_end r) open_start) (λ _. fine _)
