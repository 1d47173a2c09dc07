-- Stage 2 of a range, step by step as the code goes, each a part of the definition's.
use Rattle.std.specs.Prelude as Std
use Rattle.std.specs.Prelude.{Some, None, ◌≡◌, ◌&&◌, ◌||◌}
use Rattle.definition.specs.Prelude.{ℕ, Bool, true, false, Option, none, some, ℤ, pos, lt_z, le_z, non_neg}
use Rattle.definition.specs.Basics.{Result, ok, ◌>>=◌}
use Rattle.definition.specs.Refusals.{need, negative_bound, reversed, zero_width, start_above_width, end_above_width, range_above_width, end_zero, open_start}
use Rattle.definition.specs.Ranges.{Usb, Usbr, val, static_val}
use Rattle.definition.specs.Component.{simplify_usb, simplify_end, if_static, if_static_end, if_known, is_zero, has_end, with_end}
use Rattle.numbers.specs.Value.{value_of}
use Rattle.numbers.specs.declared.I128.{I128}

-- a test that what is not known passes
abbrev pub passes : (ℤ → Bool) → Option ℤ → Bool
passes p o = elim o [ none ↦ true | some x ↦ p x ]

abbrev pub end_val : Option Usb → Option ℤ
end_val o = elim o [ none ↦ none | some e ↦ static_val e ]

abbrev pub ends_in_zero : Option Usb → Bool
ends_in_zero o = elim o [ none ↦ false | some e ↦ is_zero e ]

-- two numbers, where both are known
abbrev pub both_of : Option ℤ → Option ℤ → Option (ℤ × ℤ)
both_of none b = none
both_of (some x) none = none
both_of (some x) (some y) = some (x, y)

abbrev pub range_of : Std.Option (I128 × I128) → Option (ℤ × ℤ)
range_of (Some p) = some (value_of p.0, value_of p.1)
range_of None = none

-- 22, 23, of a width
abbrev pub width_checked : Option ℤ → Result Unit
width_checked w = do
  _ ← need (passes non_neg w) reversed
  need (passes (lt_z (pos 0)) w) zero_width

-- ---- 20

abbrev pub both_simple : Usbr → Result Usbr
both_simple v = do
  s ← simplify_usb v.start
  e ← simplify_end v.«end»
  ok (record { start = s; «end» = e })

-- ---- 21 to 23, the end of simplify_range

abbrev pub checked_range : Usbr → Result Usbr
checked_range v = do
  _ ← need (if_static non_neg v.start && if_static_end non_neg v) negative_bound
  _ ← need (if_known non_neg v) reversed
  _ ← need (if_known (lt_z (pos 0)) v) zero_width
  ok v

-- what they leave
pub record Positive (v : Usbr) : Type 0 where
  pub start : if_static non_neg v.start ≡ true
  pub «end» : if_static_end non_neg v ≡ true
  pub width : if_known non_neg v ≡ true

-- ---- 24 to 27, simplify_literal without the cut

-- of a range that has an end
abbrev pub end_checked : ℕ → Usbr → Result Usbr
end_checked w v = do
  _ ← need (if_static_end (λ x. le_z x (pos w)) v) end_above_width
  _ ← need (if_known (λ x. le_z x (pos w)) v) range_above_width
  _ ← need (if_static_end (lt_z (pos 0)) v) end_zero
  ok v

-- of one that has none
abbrev pub to_width : ℕ → Usb → Result Usbr
to_width w s = ok (record { start = s; «end» = some (val (pos w)) })

abbrev pub literal_range : ℕ → Usbr → Result Usbr
literal_range w v = do
  _ ← need (if_static (λ x. lt_z x (pos w)) v.start) start_above_width
  _ ← need (if_static_end (λ x. le_z x (pos w)) v) end_above_width
  _ ← need (if_known (λ x. le_z x (pos w)) (with_end w v)) range_above_width
  _ ← need (if_static_end (lt_z (pos 0)) v) end_zero
  ok (with_end w v)

-- 28
abbrev pub filler_range : Usbr → Result Usbr
filler_range v = need (is_zero v.start || has_end v) open_start >>= λ _. ok v
