-- Stage 2 of a component in code: by its type, and from the range's answer to the component's.
use Rattle.std.specs.Prelude as Std
use Rattle.std.specs.Prelude.{Ok, Err}
use Rattle.std.proofs.Common.{◌≡◌, ◌≤◌, sym, refl, ap, ◌∙◌, subst}
use Rattle.definition.specs.Prelude.{ℕ, List}
use Rattle.definition.specs.Basics.{Result, ok, ◌>>=◌}
use Rattle.definition.specs.Image.{bits_at}
use Rattle.definition.specs.Ranges as D
use Rattle.definition.specs.Component.{cut_literal, simplify_literal, simplify_range, simplify}
use Rattle.laws.specs.Lists.{length_tab}
use Rattle.errors.specs.declared.reasons.Reason.{Reason}
use Rattle.stages.specs.ranges.Values.{Tree, usbr_of, Measured, SimplifiedReads}
use Rattle.stages.specs.ranges.Checks.{Positive, literal_range, filler_range}
use Rattle.stages.specs.component.Values.{type_of, component_of, TypeParsed, Whole, StagedReads}
use Rattle.stages.specs.component.Stage2.{Within, with_type, cut_all, by_type}
use Rattle.stages.specs.declared.token_tree.types.Part.{Part}
use Rattle.stages.specs.declared.ranges.types.Simplified.{Simplified}
use Rattle.stages.specs.declared.component.types.Bits.{Bits}
use Rattle.stages.specs.declared.component.types.ComponentType.{ComponentType}
use Rattle.stages.specs.declared.component.types.ComponentType.TheVariants as T
use Rattle.stages.specs.declared.component.types.Component.{Component}
use Rattle.stages.proofs.ranges.Checked.{range_positive}
use Rattle.stages.proofs.component.parse.Types.{whole_bits}
use Rattle.stages.proofs.component.simplify.Defined.{stage_is, literal_is, within}

module _ (image : List ℕ) (t : Tree) (base : ℕ) where
  -- ---- by type

  -- as stage 1 leaves it
  pub literal_parsed : (k : ComponentType) (b : Bits) → k ≡ T.Literal b → TypeParsed image t base k → Whole image b × (1 ≤ b.to)
  literal_parsed k b e h = subst (TypeParsed image t base) e h

  of_literal : (at w : ℕ) (v : D.Usbr) → simplify_literal (bits_at image at w) v ≡ cut_all (bits_at image at w) (literal_range w v)
  of_literal at w v =
      literal_is (bits_at image at w) v ∙ ap (λ (n : ℕ). cut_all (bits_at image at w) (literal_range n v)) (length_tab _ 0 w)

  module _ (k : ComponentType) (v : D.Usbr) where
    -- a literal
    module _ (b : Bits) (e : k ≡ T.Literal b) (w : Whole image b) where
      by_literal : by_type (type_of image t base k) v ≡ cut_all (bits_at image b.at b.to) (literal_range b.to v)
      by_literal =
          ap (λ (k : ComponentType). by_type (type_of image t base k) v) e ∙ ap (λ (l : List ℕ). simplify_literal l v) (whole_bits image b w.from)
          ∙ of_literal b.at b.to v

      module _ (s : Simplified) (h : SimplifiedReads image t base (Ok s) (literal_range b.to v)) where
        pub cut_within : Positive v → Within b.to (usbr_of image t base s.range)
        cut_within p = within b.to v (usbr_of image t base s.range) (sym h.is) p

        pub cut_ok : (q : Std.Result Component Reason) → StagedReads image t base q (ok (cut_literal (bits_at image b.at b.to) (usbr_of image t base s.range)))
            → StagedReads image t base q (by_type (type_of image t base k) v)
        cut_ok q g = subst (StagedReads image t base q) (ap (cut_all (bits_at image b.at b.to)) h.is ∙ sym by_literal) g

      pub cut_refused : (r : Reason) → SimplifiedReads image t base (Err r) (literal_range b.to v)
          → StagedReads image t base (Err r) (by_type (type_of image t base k) v)
      cut_refused r h = record { is = ap (cut_all (bits_at image b.at b.to)) h.is ∙ sym by_literal; held = tt }

    -- a variable
    pub as_variable : (p : Part) → k ≡ T.Variable p → TypeParsed image t base k → (s : Simplified) → v ≡ usbr_of image t base s.range
        → Measured image t base s.range s.width
        → StagedReads image t base (Ok (record { c_type = k; range = s.range; width = s.width })) (by_type (type_of image t base k) v)
    as_variable p e f s g m =
        rw (e, g) (record { is = refl; held = record { c_type = subst (TypeParsed image t base) e f; measured = m } })

    -- a filler
    module _ (e : k ≡ T.Filler) where
      by_filler : by_type (type_of image t base k) v ≡ with_type (type_of image t base k) (filler_range v)
      by_filler = rw e refl

      pub filler_ok : (s : Simplified) → SimplifiedReads image t base (Ok s) (filler_range v)
          → StagedReads image t base (Ok (record { c_type = k; range = s.range; width = s.width })) (by_type (type_of image t base k) v)
      filler_ok s h =
          record { is = ap (with_type (type_of image t base k)) h.is ∙ sym by_filler; held = record { c_type = rw e tt; measured = h.held } }

      pub filler_refused : (r : Reason) → SimplifiedReads image t base (Err r) (filler_range v)
          → StagedReads image t base (Err r) (by_type (type_of image t base k) v)
      filler_refused r h = record { is = ap (with_type (type_of image t base k)) h.is ∙ sym by_filler; held = tt }

  -- ---- the whole component

  module _ (c : Component) where
    pub whole_positive : (s : Simplified) → SimplifiedReads image t base (Ok s) (simplify_range (usbr_of image t base c.range))
        → Positive (usbr_of image t base s.range)
    whole_positive s h = range_positive (usbr_of image t base c.range) (usbr_of image t base s.range) (sym h.is)

    pub whole_ok : (s : Simplified) (q : Std.Result Component Reason) → SimplifiedReads image t base (Ok s) (simplify_range (usbr_of image t base c.range))
        → StagedReads image t base q (by_type (type_of image t base c.c_type) (usbr_of image t base s.range))
        → StagedReads image t base q (simplify (component_of image t base c))
    whole_ok s q h g =
        subst (StagedReads image t base q)
        (ap (λ (m : Result D.Usbr). m >>= by_type (type_of image t base c.c_type)) h.is ∙ stage_is (component_of image t base c)) g

    pub whole_refused : (r : Reason) → SimplifiedReads image t base (Err r) (simplify_range (usbr_of image t base c.range))
        → StagedReads image t base (Err r) (simplify (component_of image t base c))
    whole_refused r h =
        record {
          is = ap (λ (m : Result D.Usbr). m >>= by_type (type_of image t base c.c_type)) h.is ∙ stage_is (component_of image t base c);
          held = tt;
        }
