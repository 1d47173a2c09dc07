-- Numbers of a range that a literal's tests leave are places among its bits, in order; so no end that stage 2 leaves is a number below 0.
use Rattle.std.specs.Prelude.{◌-◌, ◌^◌, ◌&&◌, ◌||◌, ◌∷◌, ◌-ℤ◌, if◌then◌else◌}
use Rattle.std.proofs.Common.{◌≡◌, ◌<◌, ◌≤◌, sym, refl, ◌∙◌, subst, lt_of_lt_of_le, arith, lit≤, ltb-false, ltb-true, lt-ltb, leb-true}
use Rattle.definition.specs.Prelude.{ℕ, zero, suc, Bool, true, false, Option, none, some, List, [], length, take, drop, ltb, ℤ, pos, negsuc, nat_abs, lt_z, le_z, non_neg}
use Rattle.definition.specs.Basics.{ok, ◌>>=◌, is_empty, same_bytes}
use Rattle.definition.specs.Refusals.{need, open_start}
use Rattle.definition.specs.Numbers.{half128, narrow}
use Rattle.definition.specs.Ranges.{Usb, Usbr, val, static_val}
use Rattle.definition.specs.Component.{Component, ComponentType, literal, variable, filler, simplify, simplify_range, cut_literal, if_static, if_static_end, is_zero, has_end}
use Rattle.laws.specs.Numbers.{difference}
use Rattle.laws.specs.Results.{bind_ok}
use Rattle.laws.specs.Tests.{by_test, and_iff}
use Rattle.stages.specs.ranges.Checks.{passes, Positive, literal_range}
use Rattle.stages.specs.component.Stage2.{Within, by_type, with_type}
use Rattle.stages.proofs.Cases.{untrue, none_some, never}
use Rattle.stages.proofs.ranges.Checked.{range_positive}
use Rattle.stages.proofs.component.simplify.Defined.{stage_is, literal_is, within}

-- ---- numbers that fit

small : (n : ℕ) → n < 2 ^ 64 → ltb n half128 ≡ true
unfolding half128
small n h = lt-ltb n half128 (lt_of_lt_of_le h (lit≤ tt))

-- a difference of small numbers that is known is not negative
pub in_order : (m n : ℕ) → m < 2 ^ 64 → passes non_neg (narrow (pos n -ℤ pos m)) ≡ true → m ≤ n
in_order zero n l h = omega arith
in_order (suc k) n l h =
    by_test (ltb n (suc k)) (λ e. let q : ltb (suc k - suc n) half128 ≡ true = small (suc k - suc n) (omega (arith, l)) in untrue (rw (e, q) at h))
    (λ e. ltb-false n (suc k) e)

-- ---- a bound that is a number

pub number_is : (u : Usb) (z : ℤ) → static_val u ≡ some z → (u.s.bytes ≡ []) × (u.x ≡ z)
number_is u z = go u.s.bytes
  where
    go : (l : List ℕ) → (if is_empty l then some u.x else none) ≡ some z → (l ≡ []) × (u.x ≡ z)
    go [] h = (refl, cc)
    go (b ∷ l) h = none_some h

-- ---- places among w bits

pub record InOrder (w : ℕ) (b y : ℤ) : Type 0 where
  pub from : ℕ
  pub to : ℕ
  pub starts : b ≡ pos from
  pub ends : y ≡ pos to
  pub order : from ≤ to
  pub last : to ≤ w

placed : (w : ℕ) (b y : ℤ) → w < 2 ^ 32 → (non_neg b && lt_z b (pos w)) ≡ true → (non_neg y && le_z y (pos w)) ≡ true
    → passes non_neg (narrow (y -ℤ b)) ≡ true → InOrder w b y
placed w (pos m) (pos n) l p q h =
    let g : m < w = ltb-true m w p in
    record { from = m; to = n; starts = refl; ends = refl; order = in_order m n (omega arith) h; last = leb-true n w q }
placed w (pos m) (negsuc n) l p q h = untrue q
placed w (negsuc m) y l p q h = untrue p

module _ (w : ℕ) (s e : Usb) (l : w < 2 ^ 32) (h : Within w (record { start = s; «end» = some e })) where
  pub places : (b y : ℤ) → static_val s ≡ some b → static_val e ≡ some y → InOrder w b y
  unfolding same_bytes
  places b y p q =
      let f = number_is s b p in
      let g = number_is e y q in
      placed w b y l (subst (λ (o : Option ℤ). passes (λ x. non_neg x && lt_z x (pos w)) o ≡ true) p h.start)
      (subst (λ (o : Option ℤ). passes (λ x. non_neg x && le_z x (pos w)) o ≡ true) q h.«end»)
      (known s.s.bytes e.s.bytes s.x e.x f.0 g.0 f.1 g.1 h.width)
    where
      known : (i j : List ℕ) (a c : ℤ) → i ≡ [] → j ≡ [] → a ≡ b → c ≡ y → passes non_neg (if same_bytes i j then narrow (c -ℤ a) else none) ≡ true
          → passes non_neg (narrow (y -ℤ b)) ≡ true
      known i j a c p q r t k = rw (p, q, r, t) at k

  -- the end alone
  pub last_place : (y : ℤ) → static_val e ≡ some y → (n : ℕ) × (y ≡ pos n) × (n ≤ w)
  last_place y q = go y (subst (λ (o : Option ℤ). passes (λ x. non_neg x && le_z x (pos w)) o ≡ true) q h.«end»)
    where
      go : (y : ℤ) → (non_neg y && le_z y (pos w)) ≡ true → (n : ℕ) × (y ≡ pos n) × (n ≤ w)
      go (pos n) p = (n, refl, leb-true n w p)
      go (negsuc n) p = untrue p

-- ---- the cut, by the numbers of its bounds

abbrev pub cut_by : List ℕ → Usb → Usb → Option ℤ → Option ℤ → Component
cut_by bits s e a x =
    elim x [
      | none ↦ record { c_type = literal bits; range = record { start = s; «end» = some e } }
      | some x ↦ elim a [
        | none ↦ record { c_type = literal (take (nat_abs x) bits); range = record { start = s; «end» = some e } }
        | some a ↦ record { c_type = literal (drop (nat_abs a) (take (nat_abs x) bits)); range = record { start = val (pos 0); «end» = some (val (x -ℤ a)) } }
      ]
    ]

given : (bits : List ℕ) (s e : Usb) (a x : Option ℤ) → if_static non_neg e ≡ true → ((b y : ℤ) → a ≡ some b → x ≡ some y → non_neg (y -ℤ b) ≡ true)
    → if_static_end non_neg (cut_by bits s e a x).range ≡ true
given bits s e a none h k = h
given bits s e none (some x) h k = h
given bits s e (some a) (some x) h k = k a x refl refl

cut_given : (bits : List ℕ) (v : Usbr) → length bits < 2 ^ 32 → Within (length bits) v → if_static_end non_neg (cut_literal bits v).range ≡ true
cut_given bits v l h = go v.start v.«end» h
  where
    left : (o : Option ℤ) → passes (λ x. non_neg x && le_z x (pos (length bits))) o ≡ true → passes non_neg o ≡ true
    left none p = refl
    left (some x) p = ((and_iff (non_neg x) (le_z x (pos (length bits)))).0 p).0

    positive : (b y : ℤ) → InOrder (length bits) b y → non_neg (y -ℤ b) ≡ true
    positive b y o = rw (o.starts, o.ends, difference o.to o.from o.order)

    go : (s : Usb) (e : Option Usb) → Within (length bits) (record { start = s; «end» = e })
        → if_static_end non_neg (cut_literal bits (record { start = s; «end» = e })).range ≡ true
    go s none h = untrue h.ends
    go s (some e) h =
        given bits s e (static_val s) (static_val e) (left (static_val e) h.«end») (λ b y p q. positive b y (places (length bits) s e l h b y p q))

-- ---- no end that stage 2 leaves is a number below 0

-- a literal's bits are few
abbrev pub FewBits : ComponentType → Type 0
FewBits t = elim t [ literal bits ↦ length bits ≤ 4096 | variable p ↦ Unit | filler ↦ Unit ]

by_type_lem : (t : ComponentType) (v : Usbr) (d : Component) → FewBits t → Positive v → by_type t v ≡ ok d → if_static_end non_neg d.range ≡ true
by_type_lem (literal bits) v d few p h =
    let f = bind_ok (literal_range (length bits) v) (λ v. ok (cut_literal bits v)) (sym (literal_is bits v) ∙ h) in
    let same : cut_literal bits f.0 ≡ d = let q = f.2 in cc in
    subst (λ (d : Component). if_static_end non_neg d.range ≡ true) same
    (cut_given bits f.0 (omega (arith, few)) (within (length bits) v f.0 f.1 p))
by_type_lem (variable q) v d few p h =
    let same : ◌≡◌ {A = Component} (record { c_type = variable q; range = v }) d = cc in
    subst (λ (d : Component). if_static_end non_neg d.range ≡ true) same p.«end»
by_type_lem filler v d few p h = opened (is_zero v.start || has_end v) h
  where
    opened : (b : Bool) → with_type filler (need b open_start >>= λ _. ok v) ≡ ok d → if_static_end non_neg d.range ≡ true
    opened true h =
        let same : ◌≡◌ {A = Component} (record { c_type = filler; range = v }) d = cc in
        subst (λ (d : Component). if_static_end non_neg d.range ≡ true) same p.«end»
    opened false h = never h

pub end_given : (m d : Component) → FewBits m.c_type → simplify m ≡ ok d → if_static_end non_neg d.range ≡ true
end_given m d few h =
    let f = bind_ok (simplify_range m.range) (by_type m.c_type) (stage_is m ∙ h) in
    by_type_lem m.c_type f.0 d few (range_positive m.range f.0 f.1) f.2
