-- The bounds of a range: what `parse_start` and `parse_end` give.
use Rattle.std.specs.Prelude as Std
use Rattle.std.specs.Prelude.{Some, None, Ok, Err, ◌+◌, if◌then◌else◌}
use Rattle.errors.specs.declared.reasons.Reason.{Reason}
use Rattle.std.proofs.Common.{◌≡◌, ◌<◌, ◌≤◌, sym, refl, ap, ◌∙◌, subst, arith}
use Rattle.definition.specs.Prelude.{ℕ, Bool, true, false, some, List, [], length}
use Rattle.definition.specs.Basics.{Result, ok, ◌>>=◌}
use Rattle.definition.specs.Text.{Item}
use Rattle.definition.specs.Ranges as Ranges
use Rattle.definition.specs.Ranges.{parse_usb, parse_start, parse_end}
use Rattle.stages.specs.token_tree.Laid.{Laid, Runs}
use Rattle.stages.specs.ranges.Values.{zero_by, usb_of, UsbReads, EndReads}
use Rattle.stages.specs.ranges.Sides.{raised_one}
use Rattle.stages.specs.declared.token_tree.types.Tree.{Tree}
use Rattle.stages.specs.declared.ranges.types.Usb.{Usb}
use Rattle.stages.proofs.token_tree.Places.{laid_first, laid_none}
use Rattle.stages.proofs.ranges.Bounds.{zero_is, zero_fits}

module _ (image : List ℕ) (t : Tree) (base : ℕ) where
  -- ---- a run that is empty, and one that is not

  pub start_none : (stop tail r s : ℕ) (is : List Item) (z : Usb) → r ≡ stop → z ≡ zero_by → t.text + tail ≤ length image
      → Laid image t base stop tail r s is → UsbReads image t base (Ok z) (parse_start is)
  start_none stop tail r s is z e q room h =
      let n = (laid_none image t base stop tail r s is (omega (arith, e)) h).0 in
      let g : UsbReads image t base (Ok zero_by) (parse_start []) =
      record { is = ap ok (zero_is image t base); held = zero_fits image t base (omega (arith, room)) } in
      rw (q, n) g

  pub start_some : (stop tail r s : ℕ) (is : List Item) (q : Std.Result Usb Reason) → r < stop → Laid image t base stop tail r s is
      → UsbReads image t base q (parse_usb is) → UsbReads image t base q (parse_start is)
  start_some stop tail r s is q l h k =
      let f = laid_first image t base stop tail r s is l h in
      subst (λ (x : Result Ranges.Usb). UsbReads image t base q x) (subst (λ x. parse_usb x ≡ parse_start x) (sym f.parts) refl) k

  pub end_none : (stop tail r s : ℕ) (is : List Item) (i : Bool) → r ≡ stop → Laid image t base stop tail r s is
      → EndReads image t base (Ok None) (parse_end i is)
  end_none stop tail r s is i e h =
      let n = (laid_none image t base stop tail r s is (omega (arith, e)) h).0 in
      rw n (record { is = refl; held = tt })

  -- the end of a run that is not empty: parse_usb's, and behind `..=` raised
  module _ (stop tail r s : ℕ) (is : List Item) (l : r < stop) (h : Laid image t base stop tail r s is) where
    end_some : (i : Bool) → (parse_usb is >>= λ e. (if i then raised_one e else ok e) >>= λ e'. ok (some e')) ≡ parse_end i is
    end_some i =
        let f = laid_first image t base stop tail r s is l h in
        subst (λ (x : List Item). (parse_usb x >>= λ e. (if i then raised_one e else ok e) >>= λ e'. ok (some e')) ≡ parse_end i x) (sym f.parts) refl

    pub end_refused : (n : Reason) (i : Bool) → UsbReads image t base (Err n) (parse_usb is) → EndReads image t base (Err n) (parse_end i is)
    end_refused n i k =
        record { is = ap (λ (m : Result Ranges.Usb). m >>= λ e. (if i then raised_one e else ok e) >>= λ e'. ok (some e')) k.is ∙ end_some i; held = tt }

    module _ (u : Usb) (k : UsbReads image t base (Ok u) (parse_usb is)) where
      pub end_kept : (i : Bool) → i ≡ false → EndReads image t base (Ok (Some u)) (parse_end i is)
      end_kept i e =
          rw e (record {
            is = ap (λ (m : Result Ranges.Usb). m >>= λ e. ok e >>= λ e'. ok (some e')) k.is ∙ end_some false;
            held = k.held;
          })

      raised_end : (i : Bool) → i ≡ true → (raised_one (usb_of image t base u) >>= λ e. ok (some e)) ≡ parse_end i is
      raised_end i e = rw e (ap (λ (m : Result Ranges.Usb). m >>= λ e. raised_one e >>= λ e'. ok (some e')) k.is ∙ end_some true)

      pub end_over : (i : Bool) (n : Reason) → i ≡ true → UsbReads image t base (Err n) (raised_one (usb_of image t base u))
          → EndReads image t base (Err n) (parse_end i is)
      end_over i n e f = record { is = ap (λ (m : Result Ranges.Usb). m >>= λ e. ok (some e)) f.is ∙ raised_end i e; held = tt }

      pub end_raised : (i : Bool) (v : Usb) → i ≡ true → UsbReads image t base (Ok v) (raised_one (usb_of image t base u))
          → EndReads image t base (Ok (Some v)) (parse_end i is)
      end_raised i v e f = record { is = ap (λ (m : Result Ranges.Usb). m >>= λ e. ok (some e)) f.is ∙ raised_end i e; held = f.held }

-- ---- what parse_usb asks

pub runs_to : (image : List ℕ) (t : Tree) (stop tail tail' r s : ℕ) → tail' ≡ tail → Runs image t stop tail r s → Runs image t stop tail' r s
runs_to image t stop tail tail' r s e h = rw e h
