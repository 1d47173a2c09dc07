-- Stage 2 of a component, on the definition alone: by type, a literal's range and then its cut, and what the tests of a literal leave.
use Rattle.std.specs.Prelude.{◌-◌, ◌&&◌, ◌||◌, ◌∷◌, ◌-ℤ◌, if◌then◌else◌}
use Rattle.std.proofs.Common.{◌≡◌, ◌<◌, refl, subst, le_refl, le_of_lt, ltb-true, le-leb}
use Rattle.definition.specs.Prelude.{ℕ, Bool, true, false, Option, none, some, List, [], length, ltb, ℤ, pos, negsuc, lt_z, le_z, non_neg}
use Rattle.definition.specs.Basics.{ok, ◌>>=◌, is_empty, same_bytes}
use Rattle.definition.specs.Numbers.{half128, narrow}
use Rattle.definition.specs.Refusals.{need, start_above_width, end_above_width, range_above_width, end_zero, open_start}
use Rattle.definition.specs.Ranges.{Usb, Usbr, static_val}
use Rattle.definition.specs.Component.{Component, ComponentType, literal, variable, filler, simplify, simplify_range, simplify_literal, cut_literal, with_end, if_static, if_static_end, if_known, is_zero, has_end}
use Rattle.laws.specs.Numbers.{difference}
use Rattle.laws.specs.Tests.{by_test, and_iff}
use Rattle.stages.specs.ranges.Checks.{passes, Positive, literal_range}
use Rattle.stages.specs.component.Stage2.{Within, with_type, cut_all, by_type}
use Rattle.stages.proofs.Cases.{untrue, never}
use Rattle.stages.proofs.ranges.Checked.{bind_same}

-- ---- by type

pub stage_is : (c : Component) → (simplify_range c.range >>= by_type c.c_type) ≡ simplify c
unfolding simplify
stage_is c = bind_same (simplify_range c.range) (λ v. go v c.c_type)
  where
    opened : (v : Usbr) (b : Bool)
        → with_type filler (need b open_start >>= λ _. ok v)
        ≡ (need b open_start >>= λ _. ok (record { c_type = filler; range = v }))
    opened v true = refl
    opened v false = refl

    go : (v : Usbr) (t : ComponentType) → by_type t v
        ≡ elim t [
          | literal bits ↦ simplify_literal bits v
          | variable p ↦ ok (record { c_type = variable p; range = v })
          | filler ↦ (need (is_zero v.start || has_end v) open_start >>= λ _. ok (record { c_type = filler; range = v }))
        ]
    go v (literal bits) = refl
    go v (variable p) = refl
    go v filler = opened v (is_zero v.start || has_end v)

-- ---- a literal: its range, then the cut

gate : (bits : List ℕ) (v : Usbr) (a b c d : Bool)
    → (need a start_above_width >>= λ _. (need b end_above_width >>= λ _. (need c range_above_width >>= λ _. (need d end_zero >>= λ _. ok (cut_literal bits v)))))
    ≡ cut_all bits (need a start_above_width >>= λ _. (need b end_above_width >>= λ _. (need c range_above_width >>= λ _. (need d end_zero >>= λ _. ok v))))
gate bits v true true true true = refl
gate bits v true true true false = refl
gate bits v true true false d = refl
gate bits v true false c d = refl
gate bits v false b c d = refl

pub literal_is : (bits : List ℕ) (v : Usbr) → simplify_literal bits v ≡ cut_all bits (literal_range (length bits) v)
unfolding simplify_literal
literal_is bits v =
    let w : ℤ = pos (length bits) in
    gate bits (with_end (length bits) v) (if_static (λ x. lt_z x w) v.start) (if_static_end (λ x. le_z x w) v) (if_known (λ x. le_z x w) (with_end (length bits) v))
    (if_static_end (lt_z (pos 0)) v)

-- ---- what the tests leave

passed : (v u : Usbr) (a b c d : Bool)
    → (need a start_above_width >>= λ _. (need b end_above_width >>= λ _. (need c range_above_width >>= λ _. (need d end_zero >>= λ _. ok v)))) ≡ ok u
    → (a ≡ true) × (b ≡ true) × (v ≡ u)
passed v u true true true true h = (refl, refl, cc)
passed v u true true true false h = never h
passed v u true true false d h = never h
passed v u true false c d h = never h
passed v u false b c d h = never h

pub passes_both : (p q : ℤ → Bool) (o : Option ℤ) → passes p o ≡ true → passes q o ≡ true → passes (λ x. p x && q x) o ≡ true
passes_both p q none g h = refl
passes_both p q (some x) g h = (and_iff (p x) (q x)).1 (g, h)

fits_pos : (n : ℕ) → passes non_neg (narrow (pos n)) ≡ true
fits_pos n = by_test (ltb n half128) (λ e. rw e) (λ e. rw e)

module _ (w : ℕ) (s : Usb) where
  end_within : (e : Option Usb) → let v : Usbr = record { start = s; «end» = e } in
      if_static_end non_neg v ≡ true → if_static_end (λ x. le_z x (pos w)) v ≡ true → if_static_end (λ x. non_neg x && le_z x (pos w)) (with_end w v) ≡ true
  end_within none g h = le-leb w w (le_refl w)
  end_within (some e) g h = passes_both non_neg (λ x. le_z x (pos w)) (static_val e) g h

  to_end : (bytes : List ℕ) (x : ℤ) → let o : Option ℤ = if is_empty bytes then some x else none in
      passes non_neg o ≡ true → passes (λ x. lt_z x (pos w)) o ≡ true → passes non_neg (if same_bytes bytes [] then narrow (pos w -ℤ x) else none) ≡ true
  unfolding same_bytes
  to_end [] (pos a) g h = let l : a < w = ltb-true a w h in rw (difference w a (le_of_lt l)) (fits_pos (w - a))
  to_end [] (negsuc a) g h = untrue g
  to_end (b ∷ bytes) x g h = refl

  width_within : (e : Option Usb) → let v : Usbr = record { start = s; «end» = e } in
      if_static non_neg s ≡ true → if_static (λ x. lt_z x (pos w)) s ≡ true → if_known non_neg v ≡ true → if_known non_neg (with_end w v) ≡ true
  width_within none g h k = to_end s.s.bytes s.x g h
  width_within (some e) g h k = k

pub within : (w : ℕ) (v u : Usbr) → literal_range w v ≡ ok u → Positive v → Within w u
within w v u h p =
    let f =
    passed (with_end w v) u (if_static (λ x. lt_z x (pos w)) v.start) (if_static_end (λ x. le_z x (pos w)) v)
    (if_known (λ x. le_z x (pos w)) (with_end w v)) (if_static_end (lt_z (pos 0)) v) h in
    subst (Within w) f.2 (record {
      ends = refl;
      start = passes_both non_neg (λ x. lt_z x (pos w)) (static_val v.start) p.start f.0;
      «end» = end_within w v.start v.«end» p.«end» f.1;
      width = width_within w v.start v.«end» p.start f.0 p.width;
    })
