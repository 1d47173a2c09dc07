-- Tests of a component: one law for each way through the code.
use Rattle.std.specs.Prelude as Std
use Rattle.std.specs.Option.{is_some}
use Rattle.std.specs.Prelude.{Some, None, ◌-◌, ◌^◌, ◌&&◌}
use Rattle.std.proofs.Common.{◌≡◌, ◌<◌, ◌⊎◌, sym, refl, ap, ◌∙◌, subst, ⊎_elim, arith, ne_eqb, eqb-true}
use borrow.Author.Tests.{eqb-false}
use Rattle.definition.specs.Prelude.{ℕ, Bool, true, false, not, Option, none, some, List, length, drop, ltb, eqb, ℤ, pos, nat_abs, non_neg}
use Rattle.definition.specs.Ranges as D
use Rattle.definition.specs.Ranges.{val, static_val}
use Rattle.definition.specs.Component as Def
use Rattle.definition.specs.Component.{is_zero, has_end, if_static_end}
use Rattle.definition.specs.Concatenation.{has_full_range}
use Rattle.laws.specs.Lists.{length_tab}
use Rattle.laws.specs.Tests.{by_test}
use Rattle.numbers.specs.Value.{bits, value_of}
use Rattle.numbers.specs.declared.I128.{I128}
use Rattle.numbers.proofs.Small.{small}
use Rattle.stages.specs.answer.literal_bits.Put.{bit_of}
use Rattle.stages.specs.ranges.Values.{Tree, usb_of, end_of, usbr_of}
use Rattle.stages.specs.component.Values.{type_of, component_of}
use Rattle.stages.specs.component.Tests.{full_end}
use Rattle.stages.specs.declared.token_tree.types.Part.{Part}
use Rattle.stages.specs.declared.ranges.types.Usb.{Usb}
use Rattle.stages.specs.declared.component.types.Bits.{Bits}
use Rattle.stages.specs.declared.component.types.ComponentType.{ComponentType}
use Rattle.stages.specs.declared.component.types.ComponentType.TheVariants as T
use Rattle.stages.specs.declared.component.types.Component.{Component}
use Rattle.stages.proofs.Cases.{untrue}
use Rattle.stages.proofs.ranges.Bounds.{static_yes, static_no}

-- ---- an end at w

abbrev at_width : ℕ → Option ℤ → Bool
at_width w o = elim o [ none ↦ false | some x ↦ eqb (nat_abs x) w ]

high_apart : (x : I128) (w : ℕ) → w < 2 ^ 64 → (x.high ≡ 0 → ⊥) → non_neg (value_of x) ≡ true → false ≡ eqb (nat_abs (value_of x)) w
unfolding value_of
high_apart x w l h =
    by_test (ltb x.high (2 ^ 63)) (λ e. rw e (λ n. sym (ne_eqb (bits x) w (λ q. omega arith)))) (λ e. rw e (λ n. untrue n))

module _ (image : List ℕ) (t : Tree) (base : ℕ) (e : Std.Option Usb) (w : ℕ) where
  -- of an end that is no number below 0
  abbrev pub Given : Std.Option Usb → Type 0
  Given e = if_static_end non_neg (record { start = val (pos 0); «end» = end_of image t base e }) ≡ true

  module _ (u : Usb) (p : e ≡ Some u) where
    there : {b : Bool} → b ≡ at_width w (static_val (usb_of image t base u)) → b ≡ full_end (end_of image t base e) w
    there h = h ∙ sym (ap (λ (e : Std.Option Usb). full_end (end_of image t base e) w) p)

    ends_text : (u.s.len ≡ 0 → ⊥) → false ≡ full_end (end_of image t base e) w
    ends_text h = there (ap (at_width w) (static_no image t base u h))

    ends_low : u.s.len ≡ 0 → u.x.high ≡ 0 → eqb u.x.low w ≡ full_end (end_of image t base e) w
    ends_low h k = there (ap (λ (z : ℤ). eqb (nat_abs z) w) (sym (small u.x k)) ∙ ap (at_width w) (static_yes image t base u h))

    ends_high : u.s.len ≡ 0 → (u.x.high ≡ 0 → ⊥) → w < 2 ^ 64 → Given e → false ≡ full_end (end_of image t base e) w
    ends_high h k l g =
        let n : non_neg (value_of u.x) ≡ true =
        subst (λ (o : Option ℤ). elim o [ none ↦ true | some x ↦ non_neg x ] ≡ true) (sym (static_yes image t base u h)) (subst Given p g) in
        there (high_apart u.x w l k n ∙ ap (at_width w) (static_yes image t base u h))

    -- the first two tests, joined
    module _ (b : Bool) (came : ((u.s.len ≡ 0) × (b ≡ eqb u.x.high 0)) ⊎ ((u.s.len ≡ 0 → ⊥) × (b ≡ false))) where
      pub ends_yes : b ≡ true → eqb u.x.low w ≡ full_end (end_of image t base e) w
      ends_yes h = ⊎_elim (λ c. ends_low c.0 (eqb-true u.x.high 0 (sym c.1 ∙ h))) (λ c. untrue (sym c.1 ∙ h)) came

      pub ends_no : b ≡ false → w < 2 ^ 64 → Given e → b ≡ full_end (end_of image t base e) w
      ends_no h l g =
          ⊎_elim (λ c. h ∙ ends_high c.0 (eqb-false u.x.high 0 (sym c.1 ∙ h)) l g) (λ c. h ∙ ends_text c.0) came

-- ---- a full range

pub there_is : (image : List ℕ) (t : Tree) (base : ℕ) (e : Std.Option Usb) (s : D.Usb) → is_some e ≡ has_end (record { start = s; «end» = end_of image t base e })
there_is image t base (Some u) s = refl
there_is image t base None s = refl

turned : (a b : Bool) → a ≡ not b → b ≡ not a
turned a true h = rw h refl
turned a false h = rw h refl

module _ (image : List ℕ) (t : Tree) (base : ℕ) (c : Component) where
  abbrev full_by : Bool → ComponentType → Bool
  full_by z k =
      z && elim (type_of image t base k) [
        | Def.literal l ↦ full_end (end_of image t base c.range.«end») (length l)
        | Def.variable p ↦ not (has_end (usbr_of image t base c.range))
        | Def.filler ↦ has_end (usbr_of image t base c.range)
      ]

  module _ (z : Bool) (e : z ≡ is_zero (usb_of image t base c.range.start)) where
    pub full_not : z ≡ false → false ≡ has_full_range (component_of image t base c)
    full_not h = sym (ap (λ (z : Bool). full_by z c.c_type) (sym e ∙ h))

    full_is : {r : Bool} (k : ComponentType) → z ≡ true → c.c_type ≡ k → r ≡ full_by true k → r ≡ has_full_range (component_of image t base c)
    full_is k h q g = g ∙ sym (ap (λ (z : Bool). full_by z c.c_type) (sym e ∙ h) ∙ ap (full_by true) q)

    pub full_literal : (b : Bits) (r : Bool) → z ≡ true → c.c_type ≡ T.Literal b → r ≡ full_end (end_of image t base c.range.«end») (b.to - b.from)
        → r ≡ has_full_range (component_of image t base c)
    full_literal b r h q g =
        full_is (T.Literal b) h q
        (g ∙ ap (full_end (end_of image t base c.range.«end»)) (sym (length_tab (bit_of (drop b.at image)) b.from (b.to - b.from))))

    pub full_variable : (p : Part) (r : Bool) → z ≡ true → c.c_type ≡ T.Variable p → is_some c.range.«end» ≡ not r
        → r ≡ has_full_range (component_of image t base c)
    full_variable p r h q g = full_is (T.Variable p) h q
        (turned (is_some c.range.«end») r g ∙ ap not (there_is image t base c.range.«end» (usb_of image t base c.range.start)))

    pub full_filler : (r : Bool) → z ≡ true → c.c_type ≡ T.Filler → r ≡ is_some c.range.«end» → r ≡ has_full_range (component_of image t base c)
    full_filler r h q g = full_is T.Filler h q (g ∙ there_is image t base c.range.«end» (usb_of image t base c.range.start))
