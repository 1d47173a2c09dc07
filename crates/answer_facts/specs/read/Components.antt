-- Stages 1 and 2 of a component: its texts stand in the component's text, and its literal has no more bits than before.
use Rattle.std.specs.Prelude.{◌≡◌, refl, ℕ, ◌≤◌, ◌&&◌, ◌||◌, ◌∷◌, ◌++◌, ◌+ℤ◌, ◌-ℤ◌, if◌then◌else◌}
use Rattle.std.proofs.Common.{ap, zero-le, arith, length-take, length-drop}
use Rattle.std.proofs.Math.Nat.{le_refl}
use Rattle.definition.specs.Prelude.{Bool, true, false, not, Option, none, some, List, [], length, take, drop, eqb, ℤ, pos, nat_abs, lt_z, le_z, non_neg}
use Rattle.definition.specs.Basics.{ok, ◌>>=◌, is_empty}
use Rattle.definition.specs.Characters.{char}
use Rattle.definition.specs.Numbers.{try_parse}
use Rattle.definition.specs.Refusals.{need, nothing_before_range, no_literal, overflow, negative_bound, reversed, zero_width, start_above_width, end_above_width, range_above_width, end_zero, open_start}
use Rattle.definition.specs.Image.{Unparsed, kinds}
use Rattle.definition.specs.Tree.{text_of}
use Rattle.definition.specs.Text.{no_text, Item, items, is_token}
use Rattle.definition.specs.Ranges.{Usb, Usbr, val, with_x, unbounded, parse_range, single_bit, static_val}
use Rattle.definition.specs.Component.{Component, ComponentType, literal, variable, filler, Split, split_range, Prefix, beyond, split_colon, split_of, prefix_of, middle, is_literal, typed, parse_component, stage1_component, simplify_usb, simplify_end, simplify_range, the_end, with_end, cut_literal, simplify_literal, simplify, is_zero, has_end, if_static, if_static_end, if_known}
use Rattle.definition.specs.Concatenation.{bits_of}
use Rattle.prepared.specs.Bytes.{Holds}
use Rattle.answer_facts.specs.read.Facts.{Yields, given, Found, found, missing, after, bound, yields_if}
use Rattle.answer_facts.specs.read.Items.{Run, items_run, run_split, run_part, run_inside}
use Rattle.answer_facts.specs.read.Texts.{InUsb, InUsbr, InType, InComponent, in_val, with_x_lem, parse_range_lem}

-- ---- what stands before a range, and before and after a colon

-- a last item, taken for a range or not
abbrev taken : Item → Bool → Split
taken i b = if b then record { mid = []; range = some (items i.inside_at i.inside) } else record { mid = i ∷ []; range = none }

pub before_range : (is : List Item) → (last : List Item) × (is ≡ (split_range is).mid ++ last)
unfolding split_range
before_range [] = ([], refl)
before_range (i ∷ []) = go (eqb i.kind kinds.bracket)
  where
    go : (b : Bool) → (last : List Item) × (i ∷ [] ≡ (taken i b).mid ++ last)
    go true = (i ∷ [], refl)
    go false = ([], refl)
before_range (i ∷ j ∷ is) = let (last, e) = before_range (j ∷ is) in (last, ap (λ (l : List Item). i ∷ l) e)

abbrev pub ColonAt : List Item → Prefix → Type 0
ColonAt is p = (colon : Item) × (is ≡ p.before ++ colon ∷ p.after)

colon_beyond : (i : Item) {is : List Item} {x : Option Prefix} → Found (ColonAt is) x → Found (ColonAt (i ∷ is)) (beyond i x)
colon_beyond i (found (colon, e)) = found (colon, ap (λ (l : List Item). i ∷ l) e)
colon_beyond i missing = missing

pub colon_at : (is : List Item) → Found (ColonAt is) (split_colon is)
unfolding split_colon
colon_at [] = missing
colon_at (i ∷ []) = go (is_token char.colon i)
  where
    go : (b : Bool) → Found (ColonAt (i ∷ [])) (if b then some (record { before = []; after = [] }) else none)
    go true = found (i, refl)
    go false = missing
colon_at (i ∷ j ∷ is) =
    go (is_token char.colon i) (is_token char.colon j) (colon_beyond i (colon_beyond j (colon_at is))) (colon_beyond i (colon_at (j ∷ is)))
  where
    go : (a b : Bool) {x y : Option Prefix} → Found (ColonAt (i ∷ j ∷ is)) x → Found (ColonAt (i ∷ j ∷ is)) y
        → Found (ColonAt (i ∷ j ∷ is)) (if a then (if b then x else some (record { before = []; after = j ∷ is })) else y)
    go true true p q = p
    go true false p q = found (i, refl)
    go false b p q = q

module _ (txt : List ℕ) where
  in_bracket : (is : List Item) → Run txt is → Found (Run txt) (split_range is).range
  unfolding split_range
  in_bracket [] r = missing
  in_bracket (i ∷ []) r = go (eqb i.kind kinds.bracket)
    where
      go : (b : Bool) → Found (Run txt) (taken i b).range
      go true = found (run_inside r)
      go false = missing
  in_bracket (i ∷ j ∷ is) r = in_bracket (j ∷ is) (run_split (i ∷ []) r).1

  -- the component's texts stand, and its literal is no longer than what it was made of
  abbrev pub Kept : List ℕ → Component → Type 0
  Kept bits c = InComponent txt c × (length (bits_of c) ≤ length bits)

  -- ---- stage 1

  typed_kept : (mid : List Item) (bits : List ℕ) (r : Usbr) → Run txt mid → InUsbr txt r → Yields (Kept bits) (typed mid bits r)
  typed_kept mid bits r h k = yields_if (is_literal mid) (after (need (not (is_empty bits)) no_literal) λ _. given ((tt, k), le_refl (length bits))) (given ((run_part h, k), zero-le))

  parsed_kept : (mid : List Item) (range : Option (List Item)) (bits : List ℕ) → Run txt mid → Found (Run txt) range → Yields (Kept bits) (parse_component mid range bits)
  unfolding parse_component
  parsed_kept mid range bits h k = after (need (not (is_empty mid)) nothing_before_range) λ _. go range k
    where
      single : (is : List Item) → Run txt is → (x : Option Usbr) → Found (InUsbr txt) x → InUsbr txt (elim x [ none ↦ single_bit is | some r' ↦ r' ])
      single is r none k = (run_part r, found (run_part r))
      single is r (some r') (found k) = k

      bare : (x : Option Usbr) → Found (InUsbr txt) x
          → Yields (Kept bits) (elim x [ none ↦ typed mid bits unbounded | some r' ↦ ok (record { c_type = filler; range = r' }) ])
      bare none k = typed_kept mid bits unbounded h (in_val txt (pos 0), missing)
      bare (some r') (found k) = given ((tt, k), zero-le)

      go : (range : Option (List Item)) → Found (Run txt) range
          → Yields (Kept bits) (elim range [
            | some is ↦ (parse_range is >>= λ r. typed mid bits (elim r [ none ↦ single_bit is | some r' ↦ r' ]))
            | none ↦ (parse_range mid >>= λ r. elim r [ none ↦ typed mid bits unbounded | some r' ↦ ok (record { c_type = filler; range = r' }) ])
          ])
      go (some is) (found r) = bound (parse_range_lem txt is r) λ x k. typed_kept mid bits (elim x [ none ↦ single_bit is | some r' ↦ r' ]) h (single is r x k)
      go none missing = bound (parse_range_lem txt mid h) λ x k. bare x k

  -- ---- stage 2

  usb_kept : (u : Usb) → InUsb txt u → Yields (InUsb txt) (simplify_usb u)
  unfolding simplify_usb
  usb_kept u h = yields_if (is_empty u.s.bytes) (given h) (go (try_parse u.s.bytes))
    where
      go : (x : Option ℤ) → Yields (InUsb txt) (elim x [ none ↦ ok u | some v ↦ with_x overflow no_text (u.x +ℤ v) ])
      go none = given h
      go (some v) = with_x_lem txt overflow no_text (u.x +ℤ v) (txt, refl)

  end_kept : {x : Option Usb} → Found (InUsb txt) x → Yields (Found (InUsb txt)) (simplify_end x)
  end_kept (found {a = e} h) = bound (usb_kept e h) λ e' h'. given (found h')
  end_kept missing = given missing

  range_kept : (r : Usbr) → InUsbr txt r → Yields (InUsbr txt) (simplify_range r)
  unfolding simplify_range
  range_kept r (h, k) =
      bound (usb_kept r.start h) λ s hs. bound (end_kept k) λ e he.
      let r' : Usbr = record { start = s; «end» = e } in
      after (need (if_static non_neg s && if_static_end non_neg r') negative_bound) λ _. after (need (if_known non_neg r') reversed) λ _.
      after (need (if_known (lt_z (pos 0)) r') zero_width) λ _. given (hs, he)

  literal_cut : (bits : List ℕ) (r : Usbr) → InUsbr txt r → Kept bits (cut_literal bits r)
  literal_cut bits r (h, k) = go (static_val (the_end (length bits) r)) (static_val r.start)
    where
      ends : {x : Option Usb} → Found (InUsb txt) x → Found (InUsb txt) (some (elim x [ none ↦ val (pos (length bits)) | some e ↦ e ]))
      ends (found h) = found h
      ends missing = found (in_val txt (pos (length bits)))

      last : Found (InUsb txt) (some (the_end (length bits) r))
      last = ends k

      go : (x y : Option ℤ)
          → Kept bits (elim x [
            | none ↦ record { c_type = literal bits; range = with_end (length bits) r }
            | some x ↦ elim y [
              | none ↦ record { c_type = literal (take (nat_abs x) bits); range = with_end (length bits) r }
              | some a ↦ record {
                c_type = literal (drop (nat_abs a) (take (nat_abs x) bits));
                range = record { start = val (pos 0); «end» = some (val (x -ℤ a)) };
              }
            ]
          ])
      go none y = ((tt, (h, last)), le_refl (length bits))
      go (some x) none = ((tt, (h, last)), simp length-take (omega arith))
      go (some x) (some a) = ((tt, (in_val txt (pos 0), found (in_val txt (x -ℤ a)))), simp (length-drop, length-take) (omega arith))

  literal_kept : (bits : List ℕ) (r : Usbr) → InUsbr txt r → Yields (Kept bits) (simplify_literal bits r)
  unfolding simplify_literal
  literal_kept bits r k =
      let w : ℤ = pos (length bits) in
      after (need (if_static (λ x. lt_z x w) r.start) start_above_width) λ _. after (need (if_static_end (λ x. le_z x w) r) end_above_width) λ _.
      after (need (if_known (λ x. le_z x w) (with_end (length bits) r)) range_above_width) λ _.
      after (need (if_static_end (lt_z (pos 0)) r) end_zero) λ _. given (literal_cut bits r k)

  pub simplify_kept : (c : Component) → InComponent txt c → Yields (Kept (bits_of c)) (simplify c)
  unfolding simplify
  simplify_kept c (h, k) = bound (range_kept c.range k) λ r k'. go r k' c.c_type h
    where
      go : (r : Usbr) → InUsbr txt r → (ct : ComponentType) → InType txt ct
          → Yields (Kept (bits_of (record { c_type = ct; range = c.range }))) (elim ct [
            | literal bits ↦ simplify_literal bits r
            | variable p ↦ ok (record { c_type = variable p; range = r })
            | filler ↦ (need (is_zero r.start || has_end r) open_start >>= λ _. ok (record { c_type = filler; range = r }))
          ])
      go r k (literal bits) h = literal_kept bits r k
      go r k (variable p) h = given ((h, k), le_refl 0)
      go r k filler h = after (need (is_zero r.start || has_end r) open_start) λ _. given ((tt, k), le_refl 0)

-- ---- stage 1 of a component whose records' text begins a text

module _ (txt : List ℕ) (u : Unparsed) (begins : Holds txt 0 (text_of u.recs)) where
  whole_run : Run txt (items 0 u.recs)
  whole_run = items_run txt 0 u.recs begins

  mid_run : Run txt (split_of u).mid
  mid_run =
      let (last, e) = before_range (items 0 u.recs) in
      (run_split (split_of u).mid (rw e at whole_run)).0

  -- the starting value's items, and those after its colon
  pub prefix_runs : Found (λ p. Run txt p.before × Run txt p.after) (prefix_of u)
  prefix_runs = go (prefix_of u) (colon_at (split_of u).mid)
    where
      go : (x : Option Prefix) → Found (ColonAt (split_of u).mid) x → Found (λ p. Run txt p.before × Run txt p.after) x
      go none h = missing
      go (some p) (found (colon, e)) =
          let (b, r) = run_split p.before (rw e at mid_run) in
          found (b, (run_split (colon ∷ []) r).1)

  middle_run : (scanned : Bool) → Run txt (middle scanned u)
  middle_run false = mid_run
  middle_run true = go (prefix_of u) prefix_runs
    where
      go : (x : Option Prefix) → Found (λ p. Run txt p.before × Run txt p.after) x → Run txt (elim x [ none ↦ (split_of u).mid | some p ↦ p.after ])
      go none h = mid_run
      go (some p) (found h) = h.1

  pub stage1_kept : (scanned : Bool) → Yields (Kept txt u.bits) (stage1_component scanned u)
  stage1_kept scanned =
      parsed_kept txt (middle scanned u) (split_of u).range u.bits (middle_run scanned) (in_bracket txt (items 0 u.recs) whole_run)
