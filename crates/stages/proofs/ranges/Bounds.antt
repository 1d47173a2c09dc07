-- Bounds in code and in the definition: a text's emptiness, the number of a bound, and what simplifying and raising give.
use Rattle.std.specs.Prelude as Std
use Rattle.std.specs.Bool.{then_some}
use Rattle.std.specs.Option.{option_zip}
use Rattle.std.specs.Prelude.{Some, None, Ok, Err, ◌+◌, ◌*◌, ◌-◌, ◌^◌, ◌∷◌, ◌+ℤ◌, if◌then◌else◌}
use Rattle.errors.specs.declared.reasons.Reason.TheVariants as Reasons
use Rattle.std.proofs.Common.{◌≡◌, ◌<◌, ◌≤◌, sym, refl, ap, ◌∙◌, subst, arith, eq-eqb, ne_eqb}
use lib.Dec.{eqb-suc-zero}
use Rattle.definition.specs.Prelude.{ℕ, zero, suc, Bool, true, false, Option, none, some, List, [], length, ltb, eqb, ℤ, pos, negsuc, nat_abs}
use Rattle.definition.specs.Basics.{Result, ok, is_empty}
use Rattle.definition.specs.Numbers.{narrow, try_parse}
use Rattle.definition.specs.Refusals.{Reason, refuse, overflow, bound_overflow}
use Rattle.definition.specs.Image.{padded}
use Rattle.definition.specs.Text as Text
use Rattle.definition.specs.Text.{no_text}
use Rattle.definition.specs.Ranges as D
use Rattle.definition.specs.Ranges.{text, val, static_val, with_x}
use Rattle.definition.specs.Component.{simplify_usb, is_zero}
use Rattle.laws.specs.Tests.{by_test}
use Rattle.numbers.specs.Value.{bits, value_of, option_of}
use Rattle.numbers.specs.declared.I128.{I128}
use Rattle.stages.specs.token_tree.Parts.{bytes_in}
use Rattle.stages.specs.ranges.Values.{Tree, zero_i, val_by, zero_by, usb_of, end_of, UsbFits, UsbReads}
use Rattle.stages.specs.ranges.Checks.{end_val, both_of, range_of}
use Rattle.stages.specs.ranges.Sides.{moved_text, raised_one}
use Rattle.stages.specs.declared.ranges.types.Usb.{Usb}
use Rattle.stages.proofs.token_tree.Written.{no_text_is, none_fits}

pub empty_is : (n : ℕ) (s : List ℕ) → is_empty (padded n s) ≡ eqb n 0
unfolding padded
empty_is zero s = refl
empty_is (suc n) [] = sym (eqb-suc-zero n)
empty_is (suc n) (b ∷ s) = sym (eqb-suc-zero n)

-- a number that is no larger than 64 bits is its low half
pub low_is : (x : I128) (n : ℕ) → value_of x ≡ pos n → n < 2 ^ 64 → (x.high ≡ 0) × (x.low ≡ n)
unfolding value_of
low_is x n h l =
    by_test (ltb x.high (2 ^ 63))
    (λ e. let p : pos (bits x) ≡ pos n = rw e at h in let q : bits x ≡ n = cc in (omega (arith, q), omega (arith, q)))
    (λ e. let p : negsuc ((2 ^ 64 - 1 - x.high) * 2 ^ 64 + (2 ^ 64 - 1 - x.low)) ≡ pos n = rw e at h in
    let z : ◌≡◌ {A = ℕ} 0 1 = cc in absurd (omega arith))

abbrev pub zero_of : Option ℤ → Bool
zero_of o = elim o [ none ↦ false | some x ↦ eqb (nat_abs x) 0 ]

-- the bound of a number that fits, by the reason where it does not
abbrev given : Reason → Text.Part → Option ℤ → Result D.Usb
given r s o = elim o [ none ↦ refuse r | some x ↦ ok (text s x) ]

abbrev added : D.Usb → Option ℤ → Result D.Usb
added u o = elim o [ none ↦ ok u | some v ↦ with_x overflow no_text (u.x +ℤ v) ]

pub zero_value : value_of zero_i ≡ pos 0
unfolding value_of
zero_value = refl

one : value_of (record { high = 0; low = 1 }) ≡ pos 1
unfolding value_of
one = refl

pub zipped : (a b : Std.Option I128) → range_of (option_zip a b) ≡ both_of (option_of a) (option_of b)
zipped None b = refl
zipped (Some x) None = refl
zipped (Some x) (Some y) = refl

module _ (image : List ℕ) (t : Tree) (base : ℕ) where
  -- ---- a bound that is a number

  pub val_is : (x : I128) → usb_of image t base (val_by x) ≡ val (value_of x)
  val_is x = ap (λ (s : Text.Part). text s (value_of x)) (no_text_is image t base)

  pub val_fits : (x : I128) → t.text ≤ length image → x.low < 2 ^ 64 → x.high < 2 ^ 64 → UsbFits image t base (val_by x)
  val_fits x h l k = record { part = none_fits image t base h; low = l; high = k }

  pub zero_is : usb_of image t base zero_by ≡ val (pos 0)
  zero_is = val_is zero_i ∙ ap val zero_value

  pub zero_fits : t.text ≤ length image → UsbFits image t base zero_by
  zero_fits h = val_fits zero_i h (omega arith) (omega arith)

  static_by : (u : Usb) → static_val (usb_of image t base u) ≡ (if eqb u.s.len 0 then some (value_of u.x) else none)
  static_by u = rw empty_is

  pub static_is : (u : Usb) → option_of (then_some (eqb u.s.len 0) u.x) ≡ static_val (usb_of image t base u)
  static_is u = go (eqb u.s.len 0) ∙ sym (static_by u)
    where
      go : (b : Bool) → option_of (then_some b u.x) ≡ (if b then some (value_of u.x) else none)
      go true = refl
      go false = refl

  pub static_yes : (u : Usb) → u.s.len ≡ 0 → some (value_of u.x) ≡ static_val (usb_of image t base u)
  static_yes u h = sym (static_by u ∙ rw (eq-eqb u.s.len 0 h))

  pub static_no : (u : Usb) → (u.s.len ≡ 0 → ⊥) → none ≡ static_val (usb_of image t base u)
  static_no u h = sym (static_by u ∙ rw (ne_eqb u.s.len 0 h))

  pub zero_no : (u : Usb) → (u.s.len ≡ 0 → ⊥) → false ≡ is_zero (usb_of image t base u)
  zero_no u h = ap zero_of (static_no u h)

  pub zero_yes : (u : Usb) (b : Bool) → u.s.len ≡ 0 → b ≡ eqb (nat_abs (value_of u.x)) 0 → b ≡ is_zero (usb_of image t base u)
  zero_yes u b h e = e ∙ ap zero_of (static_yes u h)

  -- ---- the end

  pub end_some : (e : Std.Option Usb) (u : Usb) {r : Option ℤ} → e ≡ Some u → r ≡ static_val (usb_of image t base u) → r ≡ end_val (end_of image t base e)
  end_some e u p h = h ∙ sym (ap (λ (e : Std.Option Usb). end_val (end_of image t base e)) p)

  -- ---- a sum: the text's number, or 1

  module _ (a : Std.Option I128) (x v : ℤ) (sum : option_of a ≡ narrow (x +ℤ v)) where
    pub moved_ok : (y : I128) (u : Usb) → a ≡ Some y → u ≡ val_by y → t.text ≤ length image → y.low < 2 ^ 64 → y.high < 2 ^ 64
        → UsbReads image t base (Ok u) (moved_text x v)
    moved_ok y u n e h l k =
        record {
          is = ap (λ (u : Usb). ok (usb_of image t base u)) e ∙ ap ok (val_is y) ∙ sym (ap (λ (a : Std.Option I128). given overflow no_text (option_of a)) n)
              ∙ ap (given overflow no_text) sum;
          held = subst (UsbFits image t base) (sym e) (val_fits y h l k);
        }

  module _ (u : Usb) (a : Std.Option I128) (sum : option_of a ≡ narrow (value_of u.x +ℤ value_of (record { high = 0; low = 1 }))) where
    raised : given bound_overflow (usb_of image t base u).s (option_of a) ≡ raised_one (usb_of image t base u)
    raised =
        ap (given bound_overflow (usb_of image t base u).s) sum
        ∙ ap (λ (z : ℤ). given bound_overflow (usb_of image t base u).s (narrow (value_of u.x +ℤ z))) one

    pub raised_ok : (x : I128) → a ≡ Some x → UsbFits image t base u → x.low < 2 ^ 64 → x.high < 2 ^ 64
        → UsbReads image t base (Ok (record { s = u.s; x = x })) (raised_one (usb_of image t base u))
    raised_ok x n f l k =
        record {
          is = sym (ap (λ (a : Std.Option I128). given bound_overflow (usb_of image t base u).s (option_of a)) n) ∙ raised;
          held = record { part = f.part; low = l; high = k };
        }

    pub raised_over : a ≡ None → UsbReads image t base (Err Reasons.BoundOverflow) (raised_one (usb_of image t base u))
    raised_over n = record { is = sym (ap (λ (a : Std.Option I128). given bound_overflow (usb_of image t base u).s (option_of a)) n) ∙ raised; held = tt }

  -- ---- 20

  empty_kept : (u : Usb) → u.s.len ≡ 0 → ok (usb_of image t base u) ≡ simplify_usb (usb_of image t base u)
  unfolding simplify_usb
  empty_kept u h = sym (rw (empty_is, eq-eqb u.s.len 0 h))

  pub simplify_empty : (u : Usb) → u.s.len ≡ 0 → UsbFits image t base u → UsbReads image t base (Ok u) (simplify_usb (usb_of image t base u))
  simplify_empty u h f = record { is = empty_kept u h; held = f }

  module _ (u : Usb) (h : u.s.len ≡ 0 → ⊥) (p : Std.Option I128) (parsed : option_of p ≡ try_parse (bytes_in image t u.s)) where
    simplify_by : added (usb_of image t base u) (option_of p) ≡ simplify_usb (usb_of image t base u)
    unfolding simplify_usb
    simplify_by = ap (added (usb_of image t base u)) parsed ∙ sym (rw (empty_is, ne_eqb u.s.len 0 h))

    pub simplify_none : p ≡ None → UsbFits image t base u → UsbReads image t base (Ok u) (simplify_usb (usb_of image t base u))
    simplify_none e f = record { is = sym (ap (λ (p : Std.Option I128). added (usb_of image t base u) (option_of p)) e) ∙ simplify_by; held = f }

    pub simplify_some : (v : I128) → p ≡ Some v → moved_text (value_of u.x) (value_of v) ≡ simplify_usb (usb_of image t base u)
    simplify_some v e = sym (ap (λ (p : Std.Option I128). added (usb_of image t base u) (option_of p)) e) ∙ simplify_by
