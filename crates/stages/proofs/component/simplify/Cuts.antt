-- The cut of a literal's bits by a range whose numbers are places among them: one law for each way through the code.
use Rattle.std.specs.Prelude as Std
use Rattle.std.specs.Prelude.{Some, None, Ok, ◌-◌, ◌^◌, ◌-ℤ◌, if◌then◌else◌}
use Rattle.std.proofs.Common.{◌≡◌, ◌<◌, ◌≤◌, min, sym, refl, ap, ◌∙◌, zero-add, arith}
use Rattle.definition.specs.Prelude.{ℕ, Option, none, some, List, [], length, take, drop, ℤ, pos, nat_abs}
use Rattle.definition.specs.Basics.{ok, same_bytes, tab}
use Rattle.definition.specs.Image.{bits_at}
use Rattle.definition.specs.Numbers.{narrow}
use Rattle.definition.specs.Ranges as D
use Rattle.definition.specs.Ranges.{val, static_val, static_width}
use Rattle.definition.specs.Component.{literal, cut_literal}
use Rattle.laws.specs.Numbers.{difference}
use Rattle.numbers.specs.Value.{value_of}
use Rattle.numbers.specs.declared.I128.{I128}
use Rattle.numbers.proofs.Small.{small}
use Rattle.stages.specs.answer.literal_bits.Put.{bit_of}
use Rattle.stages.specs.answer.merging.Literals.{take_tab, drop_tab}
use Rattle.stages.specs.ranges.Values.{Tree, zero_i, zero_by, val_by, usb_of, end_of, usbr_of, Measured}
use Rattle.stages.specs.ranges.Checks.{end_val, both_of}
use Rattle.stages.specs.component.Values.{bits_of, Whole, StagedReads}
use Rattle.stages.specs.component.Stage2.{Within, CutFits, cut_both_by}
use Rattle.stages.specs.declared.ranges.types.Usb.{Usb}
use Rattle.stages.specs.declared.ranges.types.Usbr.{Usbr}
use Rattle.stages.specs.declared.component.types.Bits.{Bits}
use Rattle.stages.specs.declared.component.types.ComponentType.TheVariants as T
use Rattle.stages.specs.declared.component.types.Component.{Component}
use Rattle.stages.proofs.Cases.{untrue, none_some}
use Rattle.stages.proofs.ranges.Bounds.{low_is, zero_is, val_is, val_fits}
use Rattle.stages.proofs.component.parse.Types.{whole_bits}
use Rattle.stages.proofs.component.simplify.Ends.{number_is, InOrder, places, last_place, cut_by}

-- ---- bits

-- bits from .. to of the literal at byte `at`
abbrev pub bits_by : ℕ → ℕ → ℕ → Bits
bits_by at from to = record { at = at; from = from; to = to }

module _ (image : List ℕ) (at w : ℕ) where
  first_bits : (n : ℕ) → n ≤ w → take n (bits_at image at w) ≡ bits_of image (bits_by at 0 n)
  first_bits n h = let e : min n w ≡ n - 0 = omega arith in take_tab (bit_of (drop at image)) n 0 w ∙ ap (tab (bit_of (drop at image)) 0) e

  mid_bits : (m n : ℕ) → n ≤ w → drop m (take n (bits_at image at w)) ≡ bits_of image (bits_by at m n)
  mid_bits m n h =
      let e : n - 0 - m ≡ n - m = omega arith in
      ap (drop m) (first_bits n h) ∙ drop_tab (bit_of (drop at image)) m 0 (n - 0) ∙ rw (zero-add m, e)

-- ---- both numbers, or one

both_inv : (a b : Option ℤ) (x y : ℤ) → some (x, y) ≡ both_of a b → (a ≡ some x) × (b ≡ some y)
both_inv none b x y h = none_some (sym h)
both_inv (some p) none x y h = none_some (sym h)
both_inv (some p) (some q) x y h = (ap some (sym (ap first h)), ap some (sym (ap second h)))
  where
    first : Option (ℤ × ℤ) → ℤ
    first o = elim o [ none ↦ x | some u ↦ u.0 ]

    second : Option (ℤ × ℤ) → ℤ
    second o = elim o [ none ↦ x | some u ↦ u.1 ]

start_none : (a : Option ℤ) (y : ℤ) → none ≡ both_of a (some y) → a ≡ none
start_none none y h = refl
start_none (some x) y h = none_some h

-- the places in the two halves of the numbers
pub record Halves (w : ℕ) (x y : I128) : Type 0 where
  pub start : value_of x ≡ pos x.low
  pub «end» : value_of y ≡ pos y.low
  pub order : x.low ≤ y.low
  pub last : y.low ≤ w

halves : (w : ℕ) (x y : I128) → w < 2 ^ 32 → InOrder w (value_of x) (value_of y) → Halves w x y
halves w x y l o =
    let k : o.to ≤ w = o.last in
    let g : o.from ≤ o.to = o.order in
    let p = (low_is x o.from o.starts (omega arith)).1 in
    let q = (low_is y o.to o.ends (omega arith)).1 in
    record { start = o.starts ∙ ap pos (sym p); «end» = o.ends ∙ ap pos (sym q); order = omega arith; last = omega arith }

module _ (image : List ℕ) (t : Tree) (base : ℕ) (w : ℕ) (l : w < 2 ^ 32) (s : Usb) where
  both_halves : (o : Std.Option Usb) (x y : I128) → Within w (usbr_of image t base (record { start = s; «end» = o }))
      → some (value_of x, value_of y) ≡ both_of (static_val (usb_of image t base s)) (end_val (end_of image t base o)) → Halves w x y
  both_halves (Some e) x y h p =
      let f = both_inv (static_val (usb_of image t base s)) (static_val (usb_of image t base e)) (value_of x) (value_of y) p in
      halves w x y l (places w (usb_of image t base s) (usb_of image t base e) l h (value_of x) (value_of y) f.0 f.1)
  both_halves None x y h p = untrue h.ends

  pub cut_fits : (o : Std.Option Usb) (x y : I128) → Within w (usbr_of image t base (record { start = s; «end» = o }))
      → some (value_of x, value_of y) ≡ both_of (static_val (usb_of image t base s)) (end_val (end_of image t base o)) → CutFits x y
  cut_fits o x y h p = let f = both_halves o x y h p in record { order = f.order; small = omega (arith, f.last) }

  -- the end alone, whose number is y
  end_place : (o : Std.Option Usb) (y : I128) → Within w (usbr_of image t base (record { start = s; «end» = o }))
      → some (value_of y) ≡ end_val (end_of image t base o) → (value_of y ≡ pos y.low) × (y.low ≤ w)
  end_place (Some e) y h q =
      let f = last_place w (usb_of image t base s) (usb_of image t base e) l h (value_of y) (sym q) in
      let k : f.0 ≤ w = f.2 in
      let g = (low_is y f.0 f.1 (omega arith)).1 in
      (f.1 ∙ ap pos (sym g), omega arith)
  end_place None y h q = untrue h.ends

  pub end_small : (o : Std.Option Usb) (y : I128) → Within w (usbr_of image t base (record { start = s; «end» = o }))
      → some (value_of y) ≡ end_val (end_of image t base o) → y.low < 2 ^ 32
  end_small o y h q = let f = end_place o y h q in omega (arith, f.1)

-- ---- one law for each way

abbrev pub cut_to : Bits → ℕ → Usbr → Std.Option I128 → Component
cut_to b to r x = record { c_type = T.Literal (bits_by b.at 0 to); range = r; width = x }

module _ (image : List ℕ) (t : Tree) (base : ℕ) (b : Bits) (whole : Whole image b) (s : Usb) (x : Std.Option I128) where
  -- the end is a text: all bits
  pub cut_none : (o : Std.Option Usb) → let r : Usbr = record { start = s; «end» = o } in Within b.to (usbr_of image t base r) → Measured image t base r x
      → none ≡ end_val (end_of image t base o) → StagedReads image t base (Ok (cut_to b b.to r x)) (ok (cut_literal (bits_at image b.at b.to) (usbr_of image t base r)))
  cut_none (Some e) h m q =
      record {
        is = ap (λ (c : List ℕ). ok (record { c_type = literal c; range = usbr_of image t base (record { start = s; «end» = Some e }) }))
            (whole_bits image (bits_by b.at 0 b.to) refl)
            ∙ ap (λ (y : Option ℤ). ok (cut_by (bits_at image b.at b.to) (usb_of image t base s) (usb_of image t base e) (static_val (usb_of image t base s)) y)) q;
        held = record { c_type = record { order = omega arith; short = whole.short; inside = whole.inside }; measured = m };
      }
  cut_none None h m q = untrue h.ends

  -- the end is the number y and the start a text: the bits below the end
  pub cut_end : (o : Std.Option Usb) (y : I128) → let r : Usbr = record { start = s; «end» = o } in Within b.to (usbr_of image t base r) → Measured image t base r x
      → some (value_of y) ≡ end_val (end_of image t base o) → none ≡ both_of (static_val (usb_of image t base s)) (end_val (end_of image t base o))
      → StagedReads image t base (Ok (cut_to b y.low r x)) (ok (cut_literal (bits_at image b.at b.to) (usbr_of image t base r)))
  cut_end (Some e) y h m q p =
      let u = usb_of image t base s in
      let v = usb_of image t base e in
      let bits = bits_at image b.at b.to in
      let few = whole.short in
      let f = end_place image t base b.to (omega (arith, few)) s (Some e) y h q in
      let alone : static_val u ≡ none = start_none (static_val u) (value_of y) (p ∙ ap (both_of (static_val u)) (sym q)) in
      record {
        is = ap (λ (c : List ℕ). ok (record { c_type = literal c; range = usbr_of image t base (record { start = s; «end» = Some e }) }))
            (sym (first_bits image b.at b.to y.low f.1))
            ∙ ap (λ (n : ℕ). ok (record { c_type = literal (take n bits); range = usbr_of image t base (record { start = s; «end» = Some e }) }))
            (ap nat_abs (sym f.0))
            ∙ ap (λ (a : Option ℤ). ok (cut_by bits u v a (some (value_of y)))) (sym alone)
            ∙ ap (λ (z : Option ℤ). ok (cut_by bits u v (static_val u) z)) q;
        held = record { c_type = record { order = omega arith; short = omega (arith, few, f.1); inside = whole.inside }; measured = m };
      }
  cut_end None y h m q p = untrue h.ends

  -- both are numbers: the bits between, with a range from 0
  between : (a c : I128) → Halves b.to a c
      → usbr_of image t base (record { start = zero_by; «end» = Some (val_by (record { high = 0; low = c.low - a.low })) })
      ≡ record { start = val (pos 0); «end» = some (val (value_of c -ℤ value_of a)) }
  between a c f =
      let d : I128 = record { high = 0; low = c.low - a.low } in
      let e : value_of d ≡ value_of c -ℤ value_of a =
      small d refl ∙ sym (difference c.low a.low f.order) ∙ ap (λ (z : ℤ). z -ℤ pos a.low) (sym f.«end»)
      ∙ ap (λ (z : ℤ). value_of c -ℤ z) (sym f.start) in
      ap (λ (u : D.Usb). record { start = u; «end» = some (usb_of image t base (val_by d)) }) (zero_is image t base)
      ∙ ap (λ (u : D.Usb). record { start = val (pos 0); «end» = some u }) (val_is image t base d ∙ ap val e)

  same_width : (a c : I128) → Halves b.to a c
      → static_width (record { start = val (pos 0); «end» = some (val (value_of c -ℤ value_of a)) }) ≡ narrow (value_of c -ℤ value_of a)
  unfolding same_bytes
  same_width a c f =
      let k : ℕ = c.low - a.low in
      let e : value_of c -ℤ value_of a ≡ pos k =
      ap (λ (z : ℤ). z -ℤ value_of a) f.«end» ∙ ap (λ (z : ℤ). pos c.low -ℤ z) f.start ∙ difference c.low a.low f.order in
      let g : pos k -ℤ pos 0 ≡ pos k = difference k 0 (omega arith) ∙ ap pos (omega arith) in
      ap narrow (ap (λ (z : ℤ). z -ℤ pos 0) e ∙ g ∙ sym e)

  old_width : (u v : D.Usb) (a c : ℤ) → static_val u ≡ some a → static_val v ≡ some c → static_width (record { start = u; «end» = some v }) ≡ narrow (c -ℤ a)
  unfolding same_bytes
  old_width u v a c p q = go u.s.bytes v.s.bytes u.x v.x (number_is u a p) (number_is v c q)
    where
      go : (i j : List ℕ) (d e : ℤ) → (i ≡ []) × (d ≡ a) → (j ≡ []) × (e ≡ c) → (if same_bytes i j then narrow (e -ℤ d) else none) ≡ narrow (c -ℤ a)
      go i j d e f g = rw (f.0, g.0, f.1, g.1)

  pub cut_numbers : (o : Std.Option Usb) (a c : I128) → let r : Usbr = record { start = s; «end» = o } in Within b.to (usbr_of image t base r)
      → Measured image t base r x → some (value_of a, value_of c) ≡ both_of (static_val (usb_of image t base s)) (end_val (end_of image t base o))
      → StagedReads image t base (Ok (cut_both_by b.at a c x)) (ok (cut_literal (bits_at image b.at b.to) (usbr_of image t base r)))
  cut_numbers (Some e) a c h m p =
      let u = usb_of image t base s in
      let v = usb_of image t base e in
      let bits = bits_at image b.at b.to in
      let few = whole.short in
      let f = both_inv (static_val u) (static_val v) (value_of a) (value_of c) p in
      let k : Halves b.to a c = both_halves image t base b.to (omega (arith, few)) s (Some e) a c h p in
      let d : I128 = record { high = 0; low = c.low - a.low } in
      let room : t.text ≤ length image = omega (arith, m.fits.start.part.room) in
      let top : c.low ≤ b.to = k.last in
      record {
        is = ap (λ (r : D.Usbr). ok (record { c_type = literal (bits_of image (bits_by b.at a.low c.low)); range = r })) (between a c k)
            ∙ ap (λ (l : List ℕ). ok (record { c_type = literal l; range = record { start = val (pos 0); «end» = some (val (value_of c -ℤ value_of a)) } }))
            (sym (mid_bits image b.at b.to a.low c.low top) ∙ ap (λ (n : ℕ). drop n (take c.low bits)) (ap nat_abs (sym k.start))
            ∙ ap (λ (n : ℕ). drop (nat_abs (value_of a)) (take n bits)) (ap nat_abs (sym k.«end»)))
            ∙ ap (λ (z : Option ℤ). ok (cut_by bits u v z (some (value_of c)))) (sym f.0) ∙ ap (λ (z : Option ℤ). ok (cut_by bits u v (static_val u) z)) (sym f.1);
        held = record {
          c_type = record { order = k.order; short = omega (arith, few, top); inside = whole.inside };
          measured = record {
            fits = record {
              start = val_fits image t base zero_i room (omega arith) (omega arith);
              «end» = val_fits image t base d room (omega arith) (omega (arith, few, top));
            };
            width = m.width ∙ old_width u v (value_of a) (value_of c) f.0 f.1 ∙ sym (same_width a c k) ∙ ap static_width (sym (between a c k));
          };
        };
      }
  cut_numbers None a c h m p = untrue h.ends
