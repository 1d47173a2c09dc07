-- The type of a component, and stage 1 by what its range gives.
use Rattle.std.specs.Prelude as Std
use Rattle.std.specs.Prelude.{Some, None, Ok, Err, ◌+◌, ◌-◌, ◌∷◌}
use Rattle.std.proofs.Common.{◌≡◌, ◌≤◌, sym, refl, ap, ◌∙◌, subst, arith}
use Rattle.definition.specs.Prelude.{ℕ, zero, suc, Bool, true, false, none, some, List, [], length, get_or}
use Rattle.definition.specs.Basics.{Result, ok, refused, refusal_of, ◌>>=◌, is_empty, tab}
use Rattle.definition.specs.Image.{bits_at}
use Rattle.definition.specs.Text.{Item}
use Rattle.definition.specs.Ranges as Ranges
use Rattle.definition.specs.Ranges.{parse_range, single_bit, unbounded}
use Rattle.definition.specs.Component as Def
use Rattle.definition.specs.Component.{is_literal, typed, parse_component}
use Rattle.stages.specs.token_tree.Parts.{part_by}
use Rattle.stages.specs.token_tree.Laid.{Laid}
use Rattle.stages.specs.ranges.Values.{Tree, unbounded_by, usbr_of, UsbrFits, RangeReads}
use Rattle.errors.specs.declared.reasons.Reason.{Reason}
use Rattle.errors.specs.declared.reasons.Reason.TheVariants as Reasons
use Rattle.stages.specs.component.Values.{component_by, bits_of, Whole, ComponentReads}
use Rattle.stages.specs.declared.token_tree.types.Part.{Part}
use Rattle.stages.specs.declared.ranges.types.Usbr.{Usbr}
use Rattle.stages.specs.declared.component.types.Bits.{Bits}
use Rattle.stages.specs.declared.component.types.Component.{Component}
use Rattle.stages.specs.declared.component.types.ComponentType.TheVariants as T
use Rattle.stages.proofs.token_tree.Written.{laid_part, laid_fits}
use Rattle.stages.proofs.ranges.Bounds.{zero_is, zero_fits}
use Rattle.stages.proofs.component.parse.Texts.{begins_by, laid_literal}

-- ---- a literal or a variable

some_tab : (f : ℕ → ℕ) (n : ℕ) → (n ≡ 0 → ⊥) → is_empty (tab f 0 n) ≡ false
unfolding tab
some_tab f zero h = absurd (h refl)
some_tab f (suc n) h = refl

no_tab : (f : ℕ → ℕ) (n : ℕ) → n ≡ 0 → is_empty (tab f 0 n) ≡ true
unfolding tab
no_tab f n h = rw h refl

-- the bits of a whole literal
pub whole_bits : (image : List ℕ) (b : Bits) → b.from ≡ 0 → bits_of image b ≡ bits_at image b.at b.to
whole_bits image b e = (let z : b.to - 0 ≡ b.to = omega arith in rw (e, z) refl)

module _ (image : List ℕ) (t : Tree) (s tail b : ℕ) (lit : Bits) (range : Usbr) (is_number : Bool) (eb : b ≡ get_or image (t.text + s) 0) (et : is_number ≡ begins_by b)
    (base r stop : ℕ) (mid : List Item) (whole : Whole image lit) (some : 1 ≤ length mid) (h : Laid image t base stop tail r s mid) (fits : UsbrFits image t base range) where
  literal_is : is_literal mid ≡ is_number
  literal_is = laid_literal image t base stop tail r s b mid some h eb ∙ sym et

  abbrev Typed : Std.Result Component Reason → Type 0
  Typed q = ComponentReads image t base q (typed mid (bits_at image lit.at lit.to) (usbr_of image t base range))

  pub typed_none : is_number ≡ true → lit.to ≡ 0 → Typed (Err Reasons.NoLiteral)
  typed_none n z =
      let l : is_literal mid ≡ true = literal_is ∙ n in
      record { is = rw (l, no_tab _ lit.to z) refl; held = tt }

  pub typed_literal : (c : Component) → is_number ≡ true → (lit.to ≡ 0 → ⊥) → c ≡ component_by (T.Literal lit) range → Typed (Ok c)
  typed_literal c n z e =
      let l : is_literal mid ≡ true = literal_is ∙ n in
      let bits : bits_of image lit ≡ bits_at image lit.at lit.to = whole_bits image lit whole.from in
      rw e (record {
        is = rw (l, some_tab _ lit.to z) (ap (λ (x : List ℕ). ok (record { c_type = Def.literal x; range = usbr_of image t base range })) bits);
        held = record { c_type = (whole, pos lit.to z); range = fits };
      })
    where
      pos : (w : ℕ) → (w ≡ 0 → ⊥) → 1 ≤ w
      pos w z = omega (arith, z)

  pub typed_variable : (c : Component) (p : Part) → is_number ≡ false → s ≤ tail → t.text + tail ≤ length image → p ≡ part_by s tail
      → c ≡ component_by (T.Variable p) range → Typed (Ok c)
  typed_variable c p n o f ep e =
      let l : is_literal mid ≡ false = literal_is ∙ n in
      rw (e, ep) (record {
        is = rw (l, ← laid_part image t base stop tail r s mid h) refl;
        held = record { c_type = laid_fits image t base stop tail r s mid h f; range = fits };
      })

-- ---- stage 1 by what the range gives

parse_some : (mid is : List Item) (bits : List ℕ) → 1 ≤ length mid → parse_component mid (some is) bits
    ≡ (parse_range is >>= λ r. typed mid bits (elim r [ none ↦ single_bit is | some r' ↦ r' ]))
unfolding parse_component
parse_some [] is bits l = absurd (omega (arith, l))
parse_some (i ∷ mid) is bits l = refl

parse_none : (mid : List Item) (bits : List ℕ) → 1 ≤ length mid → parse_component mid none bits
    ≡ (parse_range mid >>= λ r. elim r [ none ↦ typed mid bits unbounded | some r' ↦ ok (record { c_type = Def.filler; range = r' }) ])
unfolding parse_component
parse_none [] bits l = absurd (omega (arith, l))
parse_none (i ∷ mid) bits l = refl

pub parse_empty : (range : _) (bits : List ℕ) → refused (refusal_of 11 0 0) ≡ parse_component [] range bits
unfolding parse_component
parse_empty range bits = refl

module _ (image : List ℕ) (t : Tree) (base : ℕ) (mid : List Item) (bits : List ℕ) (some_mid : 1 ≤ length mid) (q : Std.Result Component Reason) (s : Std.Result (Std.Option Usbr) Reason) where
  -- a range in brackets
  module _ (is : List Item) (h : RangeReads image t base s (parse_range is)) where
    abbrev With : Type 0
    With = ComponentReads image t base q (parse_component mid (some is) bits)

    by_range : (m : Result (_)) → m ≡ parse_range is → (d : Result Def.Component) → d ≡ (m >>= λ r. typed mid bits (elim r [ none ↦ single_bit is | some r' ↦ r' ]))
        → ComponentReads image t base q d → With
    by_range m e d f g =
        subst (ComponentReads image t base q)
        (f ∙ ap (λ x. x >>= λ r. typed mid bits (elim r [ none ↦ single_bit is | some r' ↦ r' ])) e ∙ sym (parse_some mid is bits some_mid)) g

    pub bracket_range : (range : Usbr) → s ≡ Ok (Some range)
        → (UsbrFits image t base range → ComponentReads image t base q (typed mid bits (usbr_of image t base range))) → With
    bracket_range range e g =
        let k : RangeReads image t base (Ok (Some range)) (parse_range is) = rw e at h in
        by_range _ k.is _ refl (g k.held)

    pub bracket_single : (range : Usbr) → s ≡ Ok None → usbr_of image t base range ≡ single_bit is
        → ComponentReads image t base q (typed mid bits (usbr_of image t base range)) → With
    bracket_single range e f g =
        let k : RangeReads image t base (Ok None) (parse_range is) = rw e at h in
        by_range _ k.is _ (ap (typed mid bits) f) g

    pub bracket_refused : (n : Reason) → s ≡ Err n → q ≡ Err n → With
    bracket_refused n e f =
        let k : RangeReads image t base (Err n) (parse_range is) = rw e at h in
        by_range _ k.is _ refl (rw f (record { is = refl; held = tt }))

  -- none
  module _ (h : RangeReads image t base s (parse_range mid)) where
    abbrev Without : Type 0
    Without = ComponentReads image t base q (parse_component mid none bits)

    by_none : (m : Result (_)) → m ≡ parse_range mid → (d : Result Def.Component)
        → d ≡ (m >>= λ r. elim r [ none ↦ typed mid bits unbounded | some r' ↦ ok (record { c_type = Def.filler; range = r' }) ])
        → ComponentReads image t base q d → Without
    by_none m e d f g =
        subst (ComponentReads image t base q)
        (f ∙ ap (λ x. x >>= λ r. elim r [ none ↦ typed mid bits unbounded | some r' ↦ ok (record { c_type = Def.filler; range = r' }) ]) e
        ∙ sym (parse_none mid bits some_mid)) g

    pub plain_filler : (range : Usbr) (c : Component) → s ≡ Ok (Some range) → q ≡ Ok c → c ≡ component_by T.Filler range → Without
    plain_filler range c e f g =
        let k : RangeReads image t base (Ok (Some range)) (parse_range mid) = rw e at h in
        by_none _ k.is _ refl (rw (f, g) (record { is = refl; held = record { c_type = tt; range = k.held } }))

    pub plain_typed : (range : Usbr) → s ≡ Ok None → usbr_of image t base range ≡ unbounded
        → ComponentReads image t base q (typed mid bits (usbr_of image t base range)) → Without
    plain_typed range e f g =
        let k : RangeReads image t base (Ok None) (parse_range mid) = rw e at h in
        by_none _ k.is _ (ap (typed mid bits) f) g

    pub plain_refused : (n : Reason) → s ≡ Err n → q ≡ Err n → Without
    plain_refused n e f =
        let k : RangeReads image t base (Err n) (parse_range mid) = rw e at h in
        by_none _ k.is _ refl (rw f (record { is = refl; held = tt }))

-- without bounds
pub unbounded_is : (image : List ℕ) (t : Tree) (base : ℕ) (u : Usbr) → u ≡ unbounded_by → t.text ≤ length image
    → (usbr_of image t base u ≡ unbounded) × UsbrFits image t base u
unbounded_is image t base u e f =
    rw e (ap (λ (x : Ranges.Usb). record { start = x; «end» = none }) (zero_is image t base), record { start = zero_fits image t base f; «end» = tt })
