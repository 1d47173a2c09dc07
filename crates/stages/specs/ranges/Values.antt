-- Bounds and ranges in code as the definition's. Texts are places of the text table; `base` is where the component's text begins there.
use Rattle.std.specs.Prelude as Std
use Rattle.std.specs.Prelude.{Some, None, Ok, Err, ◌≡◌, ◌<◌, ◌^◌}
use Rattle.definition.specs.Prelude.{ℕ, Option, none, some, List}
use Rattle.definition.specs.Basics.{Result, ok, refused, refusal_of}
use Rattle.definition.specs.Ranges as Ranges
use Rattle.definition.specs.Ranges.{static_width}
use Rattle.numbers.specs.Value.{value_of, option_of}
use Rattle.errors.specs.Reasons.{number}
use Rattle.errors.specs.declared.reasons.Reason.{Reason}
use Rattle.numbers.specs.declared.I128.{I128}
use Rattle.stages.specs.token_tree.Parts.{no_part, part_of, PartFits}
use Rattle.stages.specs.declared.token_tree.types.Part.{Part}
pub use Rattle.stages.specs.declared.token_tree.types.Tree.{Tree}
use Rattle.stages.specs.declared.ranges.types.Usb.{Usb}
use Rattle.stages.specs.declared.ranges.types.Usbr.{Usbr}
use Rattle.stages.specs.declared.ranges.types.Simplified.{Simplified}

-- ---- values that are made

abbrev pub zero_i : I128
zero_i = record { high = 0; low = 0 }

abbrev pub new_by : Part → Usb
new_by s = record { s = s; x = zero_i }

abbrev pub val_by : I128 → Usb
val_by x = record { s = no_part; x = x }

abbrev pub zero_by : Usb
zero_by = val_by zero_i

abbrev pub unbounded_by : Usbr
unbounded_by = record { start = zero_by; «end» = None }

-- ---- what they mean

abbrev pub usb_of : List ℕ → Tree → ℕ → Usb → Ranges.Usb
usb_of image t base u = record { s = part_of image t base u.s; x = value_of u.x }

abbrev pub end_of : List ℕ → Tree → ℕ → Std.Option Usb → Option Ranges.Usb
end_of image t base (Some u) = some (usb_of image t base u)
end_of image t base None = none

abbrev pub usbr_of : List ℕ → Tree → ℕ → Usbr → Ranges.Usbr
usbr_of image t base r = record { start = usb_of image t base r.start; «end» = end_of image t base r.«end» }

abbrev pub range_of : List ℕ → Tree → ℕ → Std.Option Usbr → Option Ranges.Usbr
range_of image t base (Some r) = some (usbr_of image t base r)
range_of image t base None = none

-- an answer whose refusal is a reason, as the definition's, what it holds being f of what the code's holds
abbrev pub answered : {A B : Type 0} → (A → B) → Std.Result A Reason → Result B
answered f (Ok a) = ok (f a)
answered f (Err r) = refused (refusal_of (number r) 0 0)

-- ---- texts within the image, and halves of 64 bits

pub record UsbFits (image : List ℕ) (t : Tree) (base : ℕ) (u : Usb) : Type 0 where
  pub part : PartFits image t base u.s
  pub low : u.x.low < 2 ^ 64
  pub high : u.x.high < 2 ^ 64

abbrev pub EndFits : List ℕ → Tree → ℕ → Std.Option Usb → Type 0
EndFits image t base (Some u) = UsbFits image t base u
EndFits image t base None = Unit

pub record UsbrFits (image : List ℕ) (t : Tree) (base : ℕ) (r : Usbr) : Type 0 where
  pub start : UsbFits image t base r.start
  pub «end» : EndFits image t base r.«end»

-- a range with its static width
pub record Measured (image : List ℕ) (t : Tree) (base : ℕ) (r : Usbr) (x : Std.Option I128) : Type 0 where
  pub fits : UsbrFits image t base r
  pub width : option_of x ≡ static_width (usbr_of image t base r)

-- ---- an answer is the definition's m, and what it holds lies within the image

-- P of what an answer holds
abbrev pub Held : {A : Type 0} → (A → Type 0) → Std.Result A Reason → Type 0
Held P (Ok a) = P a
Held P (Err r) = Unit

pub record UsbReads (image : List ℕ) (t : Tree) (base : ℕ) (q : Std.Result Usb Reason) (m : Result Ranges.Usb) : Type 0 where
  pub is : answered (usb_of image t base) q ≡ m
  pub held : Held (UsbFits image t base) q

pub record EndReads (image : List ℕ) (t : Tree) (base : ℕ) (q : Std.Result (Std.Option Usb) Reason) (m : Result (Option Ranges.Usb)) : Type 0 where
  pub is : answered (end_of image t base) q ≡ m
  pub held : Held (EndFits image t base) q

pub record UsbrReads (image : List ℕ) (t : Tree) (base : ℕ) (q : Std.Result Usbr Reason) (m : Result Ranges.Usbr) : Type 0 where
  pub is : answered (usbr_of image t base) q ≡ m
  pub held : Held (UsbrFits image t base) q

abbrev pub RangeFits : List ℕ → Tree → ℕ → Std.Option Usbr → Type 0
RangeFits image t base (Some r) = UsbrFits image t base r
RangeFits image t base None = Unit

pub record RangeReads (image : List ℕ) (t : Tree) (base : ℕ) (q : Std.Result (Std.Option Usbr) Reason) (m : Result (Option Ranges.Usbr)) : Type 0 where
  pub is : answered (range_of image t base) q ≡ m
  pub held : Held (RangeFits image t base) q

pub record SimplifiedReads (image : List ℕ) (t : Tree) (base : ℕ) (q : Std.Result Simplified Reason) (m : Result Ranges.Usbr) : Type 0 where
  pub is : answered (λ s. usbr_of image t base s.range) q ≡ m
  pub held : Held (λ s. Measured image t base s.range s.width) q
