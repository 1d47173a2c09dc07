-- The bytes of text of a component that stages 1 and 2 read: with its starting value, at most twice the bytes of its records.
use Rattle.std.specs.Prelude.{◌≤◌, ◌+◌, ◌*◌, ◌&&◌, ◌||◌, ◌∷◌, ◌++◌, ◌+ℤ◌, ◌-ℤ◌, if◌then◌else◌}
use Rattle.std.proofs.Common.{zero-le, le_refl, arith, length-append}
use Rattle.definition.specs.Prelude.{ℕ, Bool, true, false, not, Option, none, some, List, [], length, take, drop, eqb, ℤ, pos, nat_abs, lt_z, le_z, non_neg}
use Rattle.definition.specs.Basics.{ok, ◌>>=◌, is_empty}
use Rattle.definition.specs.Numbers.{try_parse}
use Rattle.definition.specs.Refusals.{need, nothing_before_range, no_literal, overflow, negative_bound, reversed, zero_width, start_above_width, end_above_width, range_above_width, end_zero, open_start}
use Rattle.definition.specs.Image.{Unparsed, kinds}
use Rattle.definition.specs.Text.{no_text, Item, items, bytes_of, part_of}
use Rattle.definition.specs.Ranges.{Usb, Usbr, val, with_x, unbounded, parse_range, single_bit, static_val}
use Rattle.definition.specs.Component.{Component, ComponentType, literal, variable, filler, Split, split_range, Prefix, prefix_of, is_literal, typed, parse_component, simplify_usb, simplify_end, simplify_range, the_end, with_end, cut_literal, simplify_literal, simplify, is_zero, has_end, if_static, if_static_end, if_known}
use Rattle.answer_facts.specs.read.Facts.{Yields, given, Found, found, missing, Every, every_cons, every_split, after, bound, yields_if}
use Rattle.answer_facts.specs.read.Components.{ColonAt}
use Rattle.listing_length.specs.run.Items.{size, part_size, size_append, Holding, items_hold}
use Rattle.listing_length.specs.run.Ranges.{usb_text, Within, with_x_lem, end_text, range_text, parse_range_lem}

abbrev pub type_text : ComponentType → ℕ
type_text (literal bits) = 0
type_text (variable p) = length p.bytes
type_text filler = 0

abbrev pub component_text : Component → ℕ
component_text c = type_text c.c_type + range_text c.range

abbrev pub TextWithin : ℕ → Component → Type 0
TextWithin n c = component_text c ≤ n

-- ---- stage 1, from what stands before the bracket and in it

abbrev pub range_size : Option (List Item) → ℕ
range_size none = 0
range_size (some is) = size is

typed_within : (n : ℕ) (mid : List Item) (bits : List ℕ) (r : Usbr) → size mid + range_text r ≤ n → Yields (TextWithin n) (typed mid bits r)
typed_within n mid bits r h =
    yields_if (is_literal mid) (after (need (not (is_empty bits)) no_literal) λ _. given as_literal) (given as_variable)
  where
    as_literal : component_text (record { c_type = literal bits; range = r }) ≤ n
    as_literal = omega arith

    as_variable : component_text (record { c_type = variable (part_of mid); range = r }) ≤ n
    as_variable = omega (arith, part_size mid)

pub parsed_within : (mid : List Item) (range : Option (List Item)) (bits : List ℕ) → Every Holding mid → Found (Every Holding) range
    → Yields (TextWithin (size mid + 2 * range_size range)) (parse_component mid range bits)
unfolding parse_component
parsed_within mid range bits h k = after (need (not (is_empty mid)) nothing_before_range) λ _. go range k
  where
    single : (is : List Item) (x : Option Usbr) → Found (λ r. range_text r ≤ size is) x → range_text (elim x [ none ↦ single_bit is | some r' ↦ r' ]) ≤ 2 * size is
    single is none k = omega (arith, part_size is)
    single is (some r') (found k) = omega (arith, k)

    bare : (x : Option Usbr) → Found (λ r. range_text r ≤ size mid) x
        → Yields (TextWithin (size mid + 2 * 0)) (elim x [ none ↦ typed mid bits unbounded | some r' ↦ ok (record { c_type = filler; range = r' }) ])
    bare none k = typed_within (size mid + 2 * 0) mid bits unbounded (omega arith)
    bare (some r') (found k) = let l : component_text (record { c_type = filler; range = r' }) ≤ size mid + 2 * 0 = omega (arith, k) in given l

    go : (range : Option (List Item)) → Found (Every Holding) range
        → Yields (TextWithin (size mid + 2 * range_size range)) (elim range [
          | some is ↦ (parse_range is >>= λ r. typed mid bits (elim r [ none ↦ single_bit is | some r' ↦ r' ]))
          | none ↦ (parse_range mid >>= λ r. elim r [ none ↦ typed mid bits unbounded | some r' ↦ ok (record { c_type = filler; range = r' }) ])
        ])
    go (some is) (found p) =
        bound (parse_range_lem is p) λ x q.
        typed_within (size mid + 2 * size is) mid bits (elim x [ none ↦ single_bit is | some r' ↦ r' ]) (omega (arith, single is x q))
    go none missing = bound (parse_range_lem mid h) λ x q. bare x q

-- ---- what stands before a bracket and in it, and before and after a colon

-- a last item, taken for a range or not
abbrev taken : Item → Bool → Split
taken i b = if b then record { mid = []; range = some (items i.inside_at i.inside) } else record { mid = i ∷ []; range = none }

pub split_size : (is : List Item) → Every Holding is → size (split_range is).mid + range_size (split_range is).range ≤ size is
unfolding split_range bytes_of
split_size [] h = omega arith
split_size (i ∷ []) (every_cons p ps) = go (eqb i.kind kinds.bracket)
  where
    go : (b : Bool) → size (taken i b).mid + range_size (taken i b).range ≤ size (i ∷ [])
    go true = omega (arith, length-append i.part.bytes [], p)
    go false = omega arith
split_size (i ∷ j ∷ is) (every_cons p ps) =
    let s = split_range (j ∷ is) in
    let h = split_size (j ∷ is) ps in
    omega (arith, length-append i.part.bytes (bytes_of s.mid), length-append i.part.bytes (bytes_of (j ∷ is)))

pub in_bracket : (is : List Item) → Found (Every Holding) (split_range is).range
unfolding split_range
in_bracket [] = missing
in_bracket (i ∷ []) = go (eqb i.kind kinds.bracket)
  where
    go : (b : Bool) → Found (Every Holding) (taken i b).range
    go true = found (items_hold i.inside_at i.inside)
    go false = missing
in_bracket (i ∷ j ∷ is) = in_bracket (j ∷ is)

-- ---- a component: the bytes of its starting value, if it is scanned for one

abbrev pub init_size : Bool → Unparsed → ℕ
init_size false u = 0
init_size true u = elim (prefix_of u) [ none ↦ 0 | some p ↦ size p.before ]

pub colon_within : (is : List Item) → Every Holding is → (x : Option Prefix) → Found (ColonAt is) x
    → Every Holding (elim x [ none ↦ is | some p ↦ p.after ])
    × (elim x [ none ↦ 0 | some p ↦ size p.before ] + size (elim x [ none ↦ is | some p ↦ p.after ]) ≤ size is)
unfolding bytes_of
colon_within is h none f = (h, omega arith)
colon_within is h (some p) (found (colon, e)) =
    let parts = every_split {P = Holding} p.before {l = colon ∷ p.after} (rw e at h) in
    let rest = every_split {P = Holding} (colon ∷ []) {l = p.after} parts.1 in
    let l : size (p.before ++ colon ∷ p.after) ≤ size is = rw (← e) (le_refl (size is)) in
    (rest.1, omega (arith, l, size_append p.before (colon ∷ p.after), length-append colon.part.bytes (bytes_of p.after)))

-- ---- stage 2

usb_text_lem : (u : Usb) → Yields (Within (usb_text u)) (simplify_usb u)
unfolding simplify_usb
usb_text_lem u = yields_if (is_empty u.s.bytes) (given (le_refl (usb_text u))) (go (try_parse u.s.bytes))
  where
    go : (x : Option ℤ) → Yields (Within (usb_text u)) (elim x [ none ↦ ok u | some v ↦ with_x overflow no_text (u.x +ℤ v) ])
    go none = given (le_refl (usb_text u))
    go (some v) = with_x_lem (usb_text u) overflow no_text (u.x +ℤ v) zero-le

end_text_lem : (x : Option Usb) → Yields (λ y. end_text y ≤ end_text x) (simplify_end x)
end_text_lem none = given zero-le
end_text_lem (some e) = bound (usb_text_lem e) λ e' h. given h

range_text_lem : (r : Usbr) → Yields (λ s. range_text s ≤ range_text r) (simplify_range r)
unfolding simplify_range
range_text_lem r =
    bound (usb_text_lem r.start) λ s hs. bound (end_text_lem r.«end») λ e he.
    let r' : Usbr = record { start = s; «end» = e } in
    let l : range_text r' ≤ range_text r = omega (arith, hs, he) in
    after (need (if_static non_neg s && if_static_end non_neg r') negative_bound) λ _. after (need (if_known non_neg r') reversed) λ _.
    after (need (if_known (lt_z (pos 0)) r') zero_width) λ _. given l

literal_text : (bits : List ℕ) (r : Usbr) → component_text (cut_literal bits r) ≤ range_text r
literal_text bits r = go (static_val (the_end (length bits) r)) (static_val r.start)
  where
    ends : (x : Option Usb) → usb_text (elim x [ none ↦ val (pos (length bits)) | some e ↦ e ]) ≤ end_text x
    ends none = zero-le
    ends (some e) = le_refl (usb_text e)

    go : (x y : Option ℤ)
        → component_text (elim x [
          | none ↦ record { c_type = literal bits; range = with_end (length bits) r }
          | some x ↦ elim y [
            | none ↦ record { c_type = literal (take (nat_abs x) bits); range = with_end (length bits) r }
            | some a ↦ record {
              c_type = literal (drop (nat_abs a) (take (nat_abs x) bits));
              range = record { start = val (pos 0); «end» = some (val (x -ℤ a)) };
            }
          ]
        ])
        ≤ range_text r
    go none y = omega (arith, ends r.«end»)
    go (some x) none = omega (arith, ends r.«end»)
    go (some x) (some a) = zero-le

pub simplify_text : (c : Component) → Yields (TextWithin (component_text c)) (simplify c)
unfolding simplify simplify_literal
simplify_text c = bound (range_text_lem c.range) λ r k. go r k c.c_type
  where
    go : (r : Usbr) → range_text r ≤ range_text c.range → (ct : ComponentType)
        → Yields (TextWithin (type_text ct + range_text c.range)) (elim ct [
          | literal bits ↦ simplify_literal bits r
          | variable p ↦ ok (record { c_type = variable p; range = r })
          | filler ↦ (need (is_zero r.start || has_end r) open_start >>= λ _. ok (record { c_type = filler; range = r }))
        ])
    go r k (literal bits) =
        let w : ℤ = pos (length bits) in
        let l : component_text (cut_literal bits r) ≤ 0 + range_text c.range = omega (arith, k, literal_text bits r) in
        after (need (if_static (λ x. lt_z x w) r.start) start_above_width) λ _. after (need (if_static_end (λ x. le_z x w) r) end_above_width) λ _.
        after (need (if_known (λ x. le_z x w) (with_end (length bits) r)) range_above_width) λ _.
        after (need (if_static_end (lt_z (pos 0)) r) end_zero) λ _. given l
    go r k (variable p) =
        let l : component_text (record { c_type = variable p; range = r }) ≤ length p.bytes + range_text c.range = omega (arith, k) in given l
    go r k filler =
        let l : component_text (record { c_type = filler; range = r }) ≤ 0 + range_text c.range = omega (arith, k) in
        after (need (is_zero r.start || has_end r) open_start) λ _. given l
