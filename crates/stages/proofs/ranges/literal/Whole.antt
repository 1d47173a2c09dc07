-- The range of a literal: its start, then its end or none; and of a filler.
use Rattle.std.specs.Prelude as Std
use Rattle.std.specs.Option.{is_some}
use Rattle.std.specs.Prelude.{Some, None, Ok, Err, ◌-◌, ◌^◌, ◌∷◌, ◌-ℤ◌, if◌then◌else◌}
use Rattle.errors.specs.declared.reasons.Reason.{Reason}
use Rattle.errors.specs.declared.reasons.Reason.TheVariants as Reasons
use Rattle.std.proofs.Common.{◌≡◌, ◌<◌, ◌≤◌, Bool, true, false, not, ◌||◌, sym, refl, ap, ◌∙◌, subst, le_of_lt, arith, ltb-false, ltb-true, le-leb}
use borrow.Author.Tests.{lt-leb}
use Rattle.definition.specs.Prelude.{ℕ, Option, none, some, List, [], ltb, leb, ℤ, pos, negsuc, lt_z, le_z, non_neg}
use Rattle.definition.specs.Basics.{Result, ok, ◌>>=◌, is_empty, same_bytes}
use Rattle.definition.specs.Numbers.{half128, narrow}
use Rattle.definition.specs.Refusals.{need, start_above_width, end_above_width, range_above_width, end_zero, open_start}
use Rattle.definition.specs.Ranges as D
use Rattle.definition.specs.Ranges.{val, static_val, static_width}
use Rattle.definition.specs.Component.{if_static, if_static_end, if_known, is_zero, has_end, with_end}
use Rattle.laws.specs.Numbers.{difference}
use Rattle.laws.specs.Tests.{by_test}
use Rattle.numbers.specs.Value.{value_of, option_of}
use Rattle.numbers.specs.declared.I128.{I128}
use Rattle.stages.specs.ranges.Values.{Tree, val_by, usb_of, end_of, usbr_of, UsbFits, UsbrFits, Measured, SimplifiedReads}
use Rattle.stages.specs.ranges.Checks.{passes, Positive, end_checked, to_width, literal_range, filler_range}
use Rattle.stages.specs.declared.ranges.types.Usb.{Usb}
use Rattle.stages.specs.declared.ranges.types.Usbr.{Usbr}
use Rattle.stages.specs.declared.ranges.types.Simplified.{Simplified}
use Rattle.stages.proofs.Cases.{untrue}
use Rattle.stages.proofs.ranges.Bounds.{val_is, val_fits}
use Rattle.stages.proofs.ranges.literal.Limits.{limit}

-- ---- the end at the width

module _ (image : List ℕ) (t : Tree) (base : ℕ) (start e : Usb) (x : I128) (w : ℕ) (q : e ≡ val_by x) (v : value_of x ≡ pos w)
    (low : x.low < 2 ^ 64) (high : x.high < 2 ^ 64) (f : UsbFits image t base start) where
  pub to_width_fits : UsbrFits image t base (record { start = start; «end» = Some e })
  to_width_fits = record { start = f; «end» = subst (UsbFits image t base) (sym q) (val_fits image t base x (omega (arith, f.part.room)) low high) }

  pub to_width_is : (y : Std.Option I128) → option_of y ≡ static_width (usbr_of image t base (record { start = start; «end» = Some e }))
      → SimplifiedReads image t base (Ok (record { range = record { start = start; «end» = Some e }; width = y })) (to_width w (usb_of image t base start))
  to_width_is y h =
      record {
        is = ap (λ (u : D.Usb). ok (record { start = usb_of image t base start; «end» = some u }))
            (ap (usb_of image t base) q ∙ val_is image t base x ∙ ap val v);
        held = record { fits = to_width_fits; width = h };
      }

-- ---- 24

below_is : (w n : ℕ) → 1 ≤ w → leb n (w - 1) ≡ ltb n w
below_is w n h =
    by_test (ltb n w) (λ e. let l = ltb-true n w e in le-leb n (w - 1) (omega arith) ∙ sym e) (λ e. let l = ltb-false n w e in lt-leb n (w - 1) (omega arith) ∙ sym e)

less_is : (w : ℕ) (o : Option ℤ) → 1 ≤ w → passes (λ x. le_z x (pos (w - 1))) o ≡ passes (λ x. lt_z x (pos w)) o
less_is w none h = refl
less_is w (some (pos n)) h = below_is w n h
less_is w (some (negsuc n)) h = refl

abbrev gate : D.Usbr → Bool → Bool → Bool → Bool → Result D.Usbr
gate v a b c d =
    need a start_above_width >>= λ _. (need b end_above_width >>= λ _. (need c range_above_width >>= λ _. (need d end_zero >>= λ _. ok v)))

-- a range that has no end passes what follows
module _ (w : ℕ) where
  fits_below : (a : ℕ) → passes (λ x. le_z x (pos w)) (narrow (pos (w - a))) ≡ true
  fits_below a = by_test (ltb (w - a) half128) (λ e. rw e (le-leb (w - a) w (omega arith))) (λ e. rw e)

  to_end : (bytes : List ℕ) (x : ℤ) → let o : Option ℤ = if is_empty bytes then some x else none in
      passes non_neg o ≡ true → passes (λ x. lt_z x (pos w)) o ≡ true
      → passes (λ x. le_z x (pos w)) (if same_bytes bytes [] then narrow (pos w -ℤ x) else none) ≡ true
  unfolding same_bytes
  to_end [] (pos a) g h = let l : a < w = ltb-true a w h in rw (difference w a (le_of_lt l)) (fits_below a)
  to_end [] (negsuc a) g h = untrue g
  to_end (b ∷ bytes) x g h = refl

  open_range : (s : D.Usb) → if_static non_neg s ≡ true → if_static (λ x. lt_z x (pos w)) s ≡ true → literal_range w (record { start = s; «end» = none }) ≡ to_width w s
  open_range s g h =
      let v : D.Usbr = with_end w (record { start = s; «end» = none }) in
      ap (λ (a : Bool). gate v a true (if_known (λ x. le_z x (pos w)) v) true) h
      ∙ ap (λ (c : Bool). gate v true true c true) (to_end s.s.bytes s.x g h)

  ended_range_lem : (s e : D.Usb) → if_static (λ x. lt_z x (pos w)) s ≡ true
      → literal_range w (record { start = s; «end» = some e }) ≡ end_checked w (record { start = s; «end» = some e })
  ended_range_lem s e h =
      let v : D.Usbr = record { start = s; «end» = some e } in
      ap (λ (a : Bool). gate v a (if_static_end (λ x. le_z x (pos w)) v) (if_known (λ x. le_z x (pos w)) v) (if_static_end (lt_z (pos 0)) v)) h

module _ (image : List ℕ) (t : Tree) (base : ℕ) (r : Usbr) (w : ℕ) (some_bits : 1 ≤ w) (p : Positive (usbr_of image t base r))
    (s : Std.Option I128) (ps : option_of s ≡ static_val (usb_of image t base r.start))
    (a : Bool) (ea : a ≡ not (passes (λ x. le_z x (pos (w - 1))) (option_of s))) where
  starts : (k : Bool) → a ≡ k → if_static (λ x. lt_z x (pos w)) (usb_of image t base r.start) ≡ not k
  starts k h =
      sym (less_is w (static_val (usb_of image t base r.start)) some_bits)
      ∙ limit s (static_val (usb_of image t base r.start)) (w - 1) a k ps ea h

  pub literal_over : a ≡ true → SimplifiedReads image t base (Err Reasons.StartAboveWidth) (literal_range w (usbr_of image t base r))
  literal_over h =
      let v = usbr_of image t base r in
      record {
        is = sym (ap (λ (a : Bool). gate (with_end w v) a (if_static_end (λ x. le_z x (pos w)) v) (if_known (λ x. le_z x (pos w)) (with_end w v)) (if_static_end (lt_z (pos 0)) v))
            (starts true h));
        held = tt;
      }

  pub literal_ended : (e : Usb) (q : Std.Result Simplified Reason) → a ≡ false → r.«end» ≡ Some e → SimplifiedReads image t base q (end_checked w (usbr_of image t base r))
      → SimplifiedReads image t base q (literal_range w (usbr_of image t base r))
  literal_ended e q h g k = subst (SimplifiedReads image t base q) (sym (go r.«end» g)) k
    where
      go : (o : Std.Option Usb) → o ≡ Some e → let v : D.Usbr = record { start = usb_of image t base r.start; «end» = end_of image t base o } in
          literal_range w v ≡ end_checked w v
      go (Some u) g = ended_range_lem w (usb_of image t base r.start) (usb_of image t base u) (starts false h)
      go None g = let z : ◌≡◌ {A = ℕ} 0 1 = cc in absurd (omega arith)

  pub literal_open : (q : Std.Result Simplified Reason) → a ≡ false → r.«end» ≡ None → SimplifiedReads image t base q (to_width w (usb_of image t base r.start))
      → SimplifiedReads image t base q (literal_range w (usbr_of image t base r))
  literal_open q h g k =
      subst (λ (o : Std.Option Usb). SimplifiedReads image t base q (literal_range w (record { start = usb_of image t base r.start; «end» = end_of image t base o })))
      (sym g)
      (subst (SimplifiedReads image t base q) (sym (open_range w (usb_of image t base r.start) p.start (starts false h))) k)

-- ---- 28

or_comm : (x y : Bool) → (x || y) ≡ (y || x)
or_comm true true = refl
or_comm true false = refl
or_comm false true = refl
or_comm false false = refl

has_end_is : (s : D.Usb) (image : List ℕ) (t : Tree) (base : ℕ) (e : Std.Option Usb) → has_end (record { start = s; «end» = end_of image t base e }) ≡ is_some e
has_end_is s image t base (Some u) = refl
has_end_is s image t base None = refl

module _ (image : List ℕ) (t : Tree) (base : ℕ) (r : Usbr) (z : Bool) (ez : z ≡ is_zero (usb_of image t base r.start)) where
  filled : (k : Bool) → (is_some r.«end» || z) ≡ k → filler_range (usbr_of image t base r) ≡ (need k open_start >>= λ _. ok (usbr_of image t base r))
  filled k h =
      let v = usbr_of image t base r in
      ap (λ (b : Bool). need b open_start >>= λ _. ok v)
      (or_comm (is_zero v.start) (has_end v)
      ∙ ap (λ (b : Bool). b || is_zero v.start) (has_end_is v.start image t base r.«end») ∙ ap (λ (b : Bool). is_some r.«end» || b) (sym ez) ∙ h)

  pub filler_passed : (is_some r.«end» || z) ≡ true → (x : Std.Option I128) → Measured image t base r x
      → SimplifiedReads image t base (Ok (record { range = r; width = x })) (filler_range (usbr_of image t base r))
  filler_passed h x m = record { is = sym (filled true h); held = m }

  pub filler_open : (is_some r.«end» || z) ≡ false → SimplifiedReads image t base (Err Reasons.OpenStart) (filler_range (usbr_of image t base r))
  filler_open h = record { is = sym (filled false h); held = tt }
