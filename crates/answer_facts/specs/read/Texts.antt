-- Every text of a range that stage 1 reads stands in its component's text.
use Rattle.std.specs.Prelude.{◌≡◌, refl, ℕ, ◌&&◌, ◌∷◌, ◌++◌, ◌+ℤ◌, ◌-ℤ◌, if◌then◌else◌}
use Rattle.std.proofs.Common.{ap}
use Rattle.definition.specs.Prelude.{Bool, true, false, not, Option, none, some, List, [], take, drop, eqb, ℤ, pos}
use Rattle.definition.specs.Basics.{ok, ◌>>=◌, is_empty}
use Rattle.definition.specs.Characters.{char}
use Rattle.definition.specs.Numbers.{narrow}
use Rattle.definition.specs.Refusals.{Reason, need, refuse, bound_overflow, not_one_token, empty_range}
use Rattle.definition.specs.Image.{kinds}
use Rattle.definition.specs.Text.{Part, Item, items, is_group, is_token, part_of}
use Rattle.definition.specs.Ranges.{Usb, Usbr, Cut, Scan, val, text, with_x, behind, cut_last, cut_pair, cut_bound, or_else, begins_with, number_in, side, join_sides, read_bound, parse_usb, parse_start, parse_end, scan_dots, parse_range}
use Rattle.definition.specs.Component.{Component, ComponentType, literal, variable, filler}
use Rattle.answer_facts.specs.read.Facts.{Yields, given, nothing, Found, found, missing, after, bound, yields_if}
use Rattle.answer_facts.specs.read.Items.{Stands, Run, run_split, run_take, run_drop, run_part, run_inside}

-- ---- items cut at a sign, before a range's bracket, and at a colon

abbrev pub CutOf : List Item → Cut → Type 0
CutOf is c = is ≡ c.before ++ c.sign ∷ c.after

cut_behind : (i : Item) {is : List Item} {x : Option Cut} → Found (CutOf is) x → Found (CutOf (i ∷ is)) (behind i x)
cut_behind i (found e) = found (ap (λ (l : List Item). i ∷ l) e)
cut_behind i missing = missing

cut_last_lem : (p : Item → Bool) (is : List Item) → Found (CutOf is) (cut_last p is)
unfolding cut_last
cut_last_lem p [] = missing
cut_last_lem p (i ∷ is) = go (cut_last p is) (cut_last_lem p is)
  where
    go : (x : Option Cut) → Found (CutOf is) x
        → Found (CutOf (i ∷ is)) (elim x [ some c ↦ behind i (some c) | none ↦ if p i then some (record { before = []; sign = i; after = is }) else none ])
    go (some c) h = cut_behind i h
    go none h = here (p i)
      where
        here : (b : Bool) → Found (CutOf (i ∷ is)) (if b then some (record { before = []; sign = i; after = is }) else none)
        here true = found refl
        here false = missing

cut_pair_lem : (is : List Item) → Found (CutOf is) (cut_pair is)
unfolding cut_pair
cut_pair_lem [] = missing
cut_pair_lem (i ∷ is) = here (is_token char.minus i && begins_with (is_token char.minus) is) (cut_behind i (cut_pair_lem is))
  where
    here : (b : Bool) {x : Option Cut} → Found (CutOf (i ∷ is)) x → Found (CutOf (i ∷ is)) (if b then some (record { before = []; sign = i; after = is }) else x)
    here true h = found refl
    here false h = h

or_else_lem : {A : Type 0} {P : A → Type 0} {x y : Option A} → Found P x → Found P y → Found P (or_else x y)
or_else_lem (found p) q = found p
or_else_lem missing q = q

pub cut_bound_lem : (is : List Item) → Found (CutOf is) (cut_bound is)
cut_bound_lem is = or_else_lem (cut_last_lem (is_token char.plus) is) (or_else_lem (cut_pair_lem is) (cut_last_lem (is_token char.minus) is))

-- ---- in one component's text

module _ (txt : List ℕ) where
  abbrev pub InUsb : Usb → Type 0
  InUsb u = Stands txt u.s

  abbrev pub InUsbr : Usbr → Type 0
  InUsbr r = InUsb r.start × Found InUsb r.«end»

  abbrev pub InType : ComponentType → Type 0
  InType (literal bits) = Unit
  InType (variable p) = Stands txt p
  InType filler = Unit

  abbrev pub InComponent : Component → Type 0
  InComponent c = InType c.c_type × InUsbr c.range

  pub in_val : (x : ℤ) → InUsb (val x)
  in_val x = (txt, refl)

  -- ---- bounds

  pub with_x_lem : (r : Reason) (s : Part) (z : ℤ) → Stands txt s → Yields InUsb (with_x r s z)
  with_x_lem r s z h = go (narrow z)
    where
      go : (x : Option ℤ) → Yields InUsb (elim x [ none ↦ refuse r | some x ↦ ok (text s x) ])
      go none = nothing
      go (some x) = given h

  in_side : (p : Part) → Stands txt p → InUsb (side p)
  in_side p h = go (number_in p)
    where
      go : (x : Option ℤ) → InUsb (elim x [ some v ↦ val v | none ↦ text p (pos 0) ])
      go none = h
      go (some v) = in_val v

  join_sides_lem : (original : Usb) (c : Cut) → InUsb original → Run txt (c.before ++ c.sign ∷ c.after) → Yields InUsb (join_sides original c)
  join_sides_lem original c h r = go (number_in (part_of c.after)) (number_in (part_of c.before)) (is_token char.minus c.sign)
    where
      left : Usb
      left = side (part_of c.before)

      parts : Run txt c.before × Run txt (c.sign ∷ c.after)
      parts = run_split c.before r

      go : (x y : Option ℤ) (negative : Bool)
          → Yields InUsb (elim x [
            | some r ↦ with_x bound_overflow left.s (if negative then left.x -ℤ r else left.x +ℤ r)
            | none ↦ elim y [
              | some l ↦ ok (text (if negative then part_of (c.sign ∷ c.after) else part_of c.after) l)
              | none ↦ ok original
            ]
          ])
      go (some r) y negative = with_x_lem bound_overflow left.s (if negative then left.x -ℤ r else left.x +ℤ r) (in_side (part_of c.before) (run_part parts.0))
      go none (some l) true = given (run_part parts.1)
      go none (some l) false = given (run_part (run_split (c.sign ∷ []) parts.1).1)
      go none none negative = given h

  read_bound_lem : (is : List Item) → Run txt is → Yields InUsb (read_bound is)
  unfolding read_bound
  read_bound_lem is r = go (cut_bound is) (cut_bound_lem is)
    where
      original : Usb
      original = text (part_of is) (pos 0)

      go : (x : Option Cut) → Found (CutOf is) x → Yields InUsb (elim x [ none ↦ ok original | some c ↦ join_sides original c ])
      go none h = given (run_part r)
      go (some c) (found e) = join_sides_lem original c (run_part r) (rw e at r)

  parse_usb_lem : (is : List Item) → Run txt is → Yields InUsb (parse_usb is)
  unfolding parse_usb
  parse_usb_lem [] r = nothing
  parse_usb_lem (i ∷ []) r = go (is_group i)
    where
      go : (b : Bool)
          → Yields InUsb (elim b [
            | true ↦ need (eqb i.kind kinds.parenthesis) not_one_token >>= λ _. read_bound (items i.inside_at i.inside)
            | false ↦ read_bound (i ∷ [])
          ])
      go true = after (need (eqb i.kind kinds.parenthesis) not_one_token) λ _. read_bound_lem (items i.inside_at i.inside) (run_inside r)
      go false = read_bound_lem (i ∷ []) r
  parse_usb_lem (i ∷ j ∷ is) r = nothing

  -- ---- ranges

  parse_start_lem : (is : List Item) → Run txt is → Yields InUsb (parse_start is)
  parse_start_lem is r = yields_if (is_empty is) (given (in_val (pos 0))) (parse_usb_lem is r)

  parse_end_lem : (inclusive : Bool) (is : List Item) → Run txt is → Yields (Found InUsb) (parse_end inclusive is)
  parse_end_lem inclusive is r = go (is_empty is)
    where
      go : (b : Bool)
          → Yields (Found InUsb) (elim b [
            | true ↦ ok none
            | false ↦ do
              e ← parse_usb is
              e' ← if inclusive then with_x bound_overflow e.s (e.x +ℤ pos 1) else ok e
              ok (some e')
          ])
      go true = given missing
      go false =
          bound (parse_usb_lem is r) λ e h.
          bound (yields_if inclusive (with_x_lem bound_overflow e.s (e.x +ℤ pos 1) h) (given h)) λ e' h'. given (found h')

  pub parse_range_lem : (is : List Item) → Run txt is → Yields (Found InUsbr) (parse_range is)
  unfolding parse_range
  parse_range_lem is r = after (need (not (is_empty is)) empty_range) λ _. after (scan_dots is) λ st. go st st.found
    where
      go : (st : Scan) (x : Option (ℕ × ℕ))
          → Yields (Found InUsbr) (elim x [
            | none ↦ ok none
            | some f ↦ do
              s ← parse_start (take f.0 is)
              e ← parse_end st.inclusive (drop f.1 is)
              ok (some (record { start = s; «end» = e }))
          ])
      go st none = given missing
      go st (some f) =
          bound (parse_start_lem (take f.0 is) (run_take f.0 is r)) λ s h.
          bound (parse_end_lem st.inclusive (drop f.1 is) (run_drop f.1 is r)) λ e h'. given (found (h, h'))
