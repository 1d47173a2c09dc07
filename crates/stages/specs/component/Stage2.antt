-- Stage 2 of a component, step by step as the code goes.
use Rattle.std.specs.Prelude as Std
use Rattle.std.specs.Prelude.{Some, ◌≡◌, ◌<◌, ◌≤◌, ◌-◌, ◌^◌, ◌&&◌}
use Rattle.definition.specs.Prelude.{ℕ, true, List, pos, lt_z, le_z, non_neg}
use Rattle.definition.specs.Basics.{Result, ok, ◌>>=◌}
use Rattle.definition.specs.Ranges.{Usbr}
use Rattle.definition.specs.Component.{Component, ComponentType, literal, variable, filler, cut_literal, simplify_literal, if_static, if_static_end, if_known, has_end}
use Rattle.numbers.specs.declared.I128.{I128}
use Rattle.stages.specs.ranges.Values.{zero_by, val_by}
use Rattle.stages.specs.ranges.Checks.{filler_range}
use Rattle.stages.specs.declared.component.types.Component.{Component as Now}
use Rattle.stages.specs.declared.component.types.ComponentType.TheVariants as T

-- a range as 20 to 27 leave it: it has an end, and numbers that are places among w bits, in order
pub record Within (w : ℕ) (v : Usbr) : Type 0 where
  pub ends : has_end v ≡ true
  pub start : if_static (λ x. non_neg x && lt_z x (pos w)) v.start ≡ true
  pub «end» : if_static_end (λ x. non_neg x && le_z x (pos w)) v ≡ true
  pub width : if_known non_neg v ≡ true

-- two such numbers
pub record CutFits (x y : I128) : Type 0 where
  pub order : x.low ≤ y.low
  pub small : y.low < 2 ^ 32

abbrev pub cut_both_by : ℕ → I128 → I128 → Std.Option I128 → Now
cut_both_by at x y width =
    record {
      c_type = T.Literal (record { at = at; from = x.low; to = y.low });
      range = record { start = zero_by; «end» = Some (val_by (record { high = 0; low = y.low - x.low })) };
      width = width;
    }

-- a component with the range that is left
abbrev pub with_type : ComponentType → Result Usbr → Result Component
with_type t m = m >>= λ v. ok (record { c_type = t; range = v })

abbrev pub cut_all : List ℕ → Result Usbr → Result Component
cut_all bits m = m >>= λ v. ok (cut_literal bits v)

-- the end of `simplify`
abbrev pub by_type : ComponentType → Usbr → Result Component
by_type t v = elim t [ literal bits ↦ simplify_literal bits v | variable p ↦ with_type (variable p) (ok v) | filler ↦ with_type filler (filler_range v) ]
