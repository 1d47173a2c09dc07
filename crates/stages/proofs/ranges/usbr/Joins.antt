-- Stage 2 of a range in code: the width, both bounds one after the other, then the tests.
use Rattle.std.specs.Prelude as Std
use Rattle.errors.specs.declared.reasons.Reason.{Reason}
use Rattle.std.specs.Prelude.{Some, Ok, Err}
use Rattle.std.proofs.Common.{◌≡◌, sym, ap, ◌∙◌}
use Rattle.definition.specs.Prelude.{ℕ, Option, some, List}
use Rattle.definition.specs.Basics.{Result, ok, ◌>>=◌}
use Rattle.definition.specs.Ranges as D
use Rattle.definition.specs.Component.{simplify_usb, simplify_end, simplify_range}
use Rattle.stages.specs.ranges.Values.{Tree, usb_of, end_of, usbr_of, UsbReads, EndReads, UsbrReads, SimplifiedReads}
use Rattle.stages.specs.ranges.Checks.{both_simple, checked_range}
use Rattle.stages.specs.declared.ranges.types.Usb.{Usb}
use Rattle.stages.specs.declared.ranges.types.Usbr.{Usbr}
use Rattle.stages.specs.declared.ranges.types.Simplified.{Simplified}
use Rattle.stages.proofs.ranges.Checked.{range_is}

module _ (image : List ℕ) (t : Tree) (base : ℕ) where
  -- ---- the end

  module _ (e : Std.Option Usb) (u : Usb) (p : e ≡ Some u) where
    ended : (simplify_usb (usb_of image t base u) >>= λ x. ok (some x)) ≡ simplify_end (end_of image t base e)
    ended = sym (ap (λ (e : Std.Option Usb). simplify_end (end_of image t base e)) p)

    pub end_simple : (v : Usb) → UsbReads image t base (Ok v) (simplify_usb (usb_of image t base u))
        → EndReads image t base (Ok (Some v)) (simplify_end (end_of image t base e))
    end_simple v h = record { is = ap (λ (m : Result D.Usb). m >>= λ x. ok (some x)) h.is ∙ ended; held = h.held }

  -- ---- both bounds

  module _ (r : D.Usbr) where
    pub both_read : (s : Usb) (e : Std.Option Usb) → UsbReads image t base (Ok s) (simplify_usb r.start) → EndReads image t base (Ok e) (simplify_end r.«end»)
        → UsbrReads image t base (Ok (record { start = s; «end» = e })) (both_simple r)
    both_read s e h k =
        record {
          is = ap (λ (m : Result (Option D.Usb)). m >>= λ e. ok (record { start = usb_of image t base s; «end» = e })) k.is
              ∙ ap (λ (m : Result D.Usb). m >>= λ s. (simplify_end r.«end» >>= λ e. ok (record { start = s; «end» = e }))) h.is;
          held = record { start = h.held; «end» = k.held };
        }

    -- ---- then the tests

    pub simplify_refused : (n : Reason) → UsbrReads image t base (Err n) (both_simple r) → SimplifiedReads image t base (Err n) (simplify_range r)
    simplify_refused n h = record { is = ap (λ (m : Result D.Usbr). m >>= checked_range) h.is ∙ range_is r; held = tt }

    pub simplify_ok : (u : Usbr) (q : Std.Result Simplified Reason) → UsbrReads image t base (Ok u) (both_simple r)
        → SimplifiedReads image t base q (checked_range (usbr_of image t base u)) → SimplifiedReads image t base q (simplify_range r)
    simplify_ok u q h k = record { is = k.is ∙ ap (λ (m : Result D.Usbr). m >>= checked_range) h.is ∙ range_is r; held = k.held }
