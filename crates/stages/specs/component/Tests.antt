-- Tests of a component in code.
use Rattle.std.specs.Prelude as Std
use Rattle.std.specs.Prelude.{◌≡◌}
use Rattle.definition.specs.Prelude.{ℕ, Bool, true, false, Option, none, some, List, eqb, nat_abs, non_neg}
use Rattle.definition.specs.Ranges.{Usb, static_val}
use Rattle.stages.specs.ranges.Values.{Tree, end_of}
use Rattle.stages.specs.declared.ranges.types.Usb.{Usb as Now}

-- a literal of w bits ends at its width, or has no end
abbrev pub full_end : Option Usb → ℕ → Bool
full_end e w = elim e [ none ↦ true | some u ↦ elim (static_val u) [ none ↦ false | some x ↦ eqb (nat_abs x) w ] ]

-- an end that is no number below 0
abbrev EndNonNeg : Option Usb → Type 0
EndNonNeg e = elim e [ none ↦ true | some u ↦ elim (static_val u) [ none ↦ true | some x ↦ non_neg x ] ] ≡ true

abbrev pub EndsAt : Std.Option Now → ℕ → Bool → Type 0
EndsAt e w b = (image : List ℕ) (t : Tree) (base : ℕ) → EndNonNeg (end_of image t base e) → b ≡ full_end (end_of image t base e) w
