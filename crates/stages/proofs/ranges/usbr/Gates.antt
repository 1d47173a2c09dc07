-- The tests of a range in code, 21 to 23: the bounds' signs, then the width.
use Rattle.std.specs.Prelude as Std
use Rattle.std.specs.Prelude.{Ok, Err, ◌||◌}
use Rattle.std.proofs.Common.{◌≡◌, Bool, true, false, not, ◌&&◌, sym, refl, ap, ◌∙◌}
use Rattle.definition.specs.Prelude.{ℕ, Option, none, some, List, ℤ, pos, lt_z, non_neg}
use Rattle.definition.specs.Basics.{Result, ok, ◌>>=◌}
use Rattle.definition.specs.Refusals.{need, negative_bound, reversed, zero_width}
use Rattle.definition.specs.Ranges as D
use Rattle.definition.specs.Ranges.{static_val, static_width}
use Rattle.definition.specs.Component.{if_static, if_static_end, if_known}
use Rattle.errors.specs.Reasoned.{reasoned}
use Rattle.errors.specs.declared.reasons.Reason.{Reason}
use Rattle.errors.specs.declared.reasons.Reason.TheVariants as Reasons
use Rattle.laws.specs.Results.{bind_assoc}
use Rattle.numbers.specs.Value.{option_of}
use Rattle.numbers.specs.declared.I128.{I128}
use Rattle.stages.specs.ranges.Values.{Tree, usb_of, end_of, usbr_of, UsbrFits, SimplifiedReads}
use Rattle.stages.specs.ranges.Checks.{passes, end_val, width_checked, checked_range}
use Rattle.stages.specs.declared.ranges.types.Usbr.{Usbr}

pub ends_pass : (p : ℤ → Bool) (s : D.Usb) (e : Option D.Usb) → passes p (end_val e) ≡ if_static_end p (record { start = s; «end» = e })
ends_pass p s none = refl
ends_pass p s (some e) = refl

both_pass : (x y : Bool) → (x && y) ≡ not (not x || not y)
both_pass true true = refl
both_pass true false = refl
both_pass false y = refl

abbrev gate : D.Usbr → Bool → Result D.Usbr
gate v a = need a negative_bound >>= λ _. (need (if_known non_neg v) reversed >>= λ _. (need (if_known (lt_z (pos 0)) v) zero_width >>= λ _. ok v))

module _ (image : List ℕ) (t : Tree) (base : ℕ) (r : Usbr)
    (a : Std.Option I128) (pa : option_of a ≡ static_val (usb_of image t base r.start)) (b : Bool) (eb : b ≡ not (passes non_neg (option_of a)))
    (e : Std.Option I128) (pe : option_of e ≡ end_val (end_of image t base r.«end»)) (d : Bool) (ed : d ≡ not (passes non_neg (option_of e))) where
  tested : (k : Bool) → (b || d) ≡ k → checked_range (usbr_of image t base r) ≡ gate (usbr_of image t base r) (not k)
  tested k h =
      let v = usbr_of image t base r in
      let x : b ≡ not (if_static non_neg v.start) = eb ∙ ap (λ (o : Option ℤ). not (passes non_neg o)) pa in
      let y : d ≡ not (if_static_end non_neg v) = ed ∙ ap (λ (o : Option ℤ). not (passes non_neg o)) pe ∙ ap not (ends_pass non_neg v.start v.«end») in
      ap (gate v)
      (both_pass (if_static non_neg v.start) (if_static_end non_neg v)
      ∙ ap (λ (z : Bool). not (z || not (if_static_end non_neg v))) (sym x) ∙ ap (λ (z : Bool). not (b || z)) (sym y) ∙ ap not h)

  pub negative : (b || d) ≡ true → SimplifiedReads image t base (Err Reasons.NegativeBound) (checked_range (usbr_of image t base r))
  negative h = record { is = sym (tested true h); held = tt }

  module _ (h : (b || d) ≡ false) (w : Std.Option I128) (pw : option_of w ≡ static_width (usbr_of image t base r)) where
    by_width : (width_checked (option_of w) >>= λ _. ok (usbr_of image t base r)) ≡ checked_range (usbr_of image t base r)
    by_width =
        let v = usbr_of image t base r in
        ap (λ (o : Option ℤ). width_checked o >>= λ _. ok v) pw
        ∙ sym (bind_assoc (need (if_known non_neg v) reversed) (λ _. need (if_known (lt_z (pos 0)) v) zero_width) (λ _. ok v))
        ∙ sym (tested false h)

    pub width_refused : (n : Reason) → reasoned {A = Unit} (Err n) ≡ width_checked (option_of w)
        → SimplifiedReads image t base (Err n) (checked_range (usbr_of image t base r))
    width_refused n k = record { is = ap (λ (m : Result Unit). m >>= λ _. ok (usbr_of image t base r)) k ∙ by_width; held = tt }

    pub range_passed : ok tt ≡ width_checked (option_of w) → UsbrFits image t base r
        → SimplifiedReads image t base (Ok (record { range = r; width = w })) (checked_range (usbr_of image t base r))
    range_passed k f =
        record { is = ap (λ (m : Result Unit). m >>= λ _. ok (usbr_of image t base r)) k ∙ by_width; held = record { fits = f; width = pw } }
