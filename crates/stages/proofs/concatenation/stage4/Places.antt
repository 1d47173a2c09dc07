-- The first filler of a concatenation, and the first concatenation that is opposite: over what the code keeps as over the definition's.
use Rattle.std.specs.Prelude as Std
use Rattle.std.specs.Prelude.{Some, None, ◌+◌, ◌-◌, ◌&&◌, ◌∷◌}
use Rattle.std.proofs.Common.{◌≡◌, ◌<◌, sym, refl, ap, ◌∙◌, add-one, length-drop}
use Rattle.std.proofs.Math.Seq.{take-length}
use Rattle.definition.specs.Prelude.{ℕ, zero, suc, Bool, true, false, not, Option, none, some, List, [], length, get_or, take, drop, eqb}
use Rattle.definition.specs.Basics.{Result, ok, refused, refusal_of, with_places}
use Rattle.definition.specs.Refusals.{number_of, need, refuse, filler_without_start, middle_filler, opposite_fillers}
use Rattle.definition.specs.Image.{Placed}
use Rattle.definition.specs.Component as Def
use Rattle.definition.specs.Component.{literal, variable, filler}
use Rattle.definition.specs.Ranges as Ranges
use Rattle.definition.specs.Concatenation.{Concatenation, is_align, align_mid, is_unbounded_filler}
use Rattle.definition.specs.Overall.{place_from, is_filler, is_sided, check_source}
use Rattle.stages.specs.ranges.Values.{Tree, end_of}
use Rattle.stages.specs.token_tree.Table.{tree_in}
use Rattle.stages.specs.component.Kept.{Are}
use Rattle.stages.specs.component.Values.{type_of, component_of}
use Rattle.stages.specs.concatenation.alignment.Align.{align_of}
use Rattle.stages.specs.concatenation.Heads.{HeadIs, HeadsAre}
use Rattle.stages.specs.concatenation.Overall.{filler_in, unbounded_in, middle_at, is_opposite, opposite_at, opposite_as}
use Rattle.stages.specs.declared.concatenation.alignment.align.FillerAlign.{FillerAlign as Align}
use Rattle.stages.specs.declared.concatenation.alignment.align.FillerAlign.TheVariants as A
use Rattle.stages.specs.declared.component.types.Component.{Component}
use Rattle.stages.specs.declared.component.types.ComponentType.{ComponentType}
use Rattle.stages.specs.declared.component.types.ComponentType.TheVariants as T
use Rattle.stages.specs.declared.concatenation.stage3.Concatenation.{Concatenation as Now}
use Rattle.stages.specs.declared.ranges.types.Usb.{Usb}
use Rattle.stages.proofs.concatenation.Kept.{ith}

-- ---- a test of a component that looks at no text

abbrev filler_of : Def.ComponentType → Bool
filler_of k = elim k [ literal b ↦ false | variable p ↦ false | filler ↦ true ]

-- `x`: whether it has an end
abbrev unbounded_of : Bool → Def.ComponentType → Bool
unbounded_of x k = elim k [ literal b ↦ false | variable p ↦ false | filler ↦ not x ]

abbrev there : Option Ranges.Usb → Bool
there e = elim e [ none ↦ false | some u ↦ true ]

module _ (image : List ℕ) (t : Tree) where
  filler_type : (base : ℕ) (k : ComponentType) → filler_of (type_of image t 0 k) ≡ filler_of (type_of image t base k)
  filler_type base (T.Literal b) = refl
  filler_type base (T.Variable p) = refl
  filler_type base T.Filler = refl

  filler_alike : (c : Component) (base : ℕ) → is_filler (component_of image t 0 c) ≡ is_filler (component_of image t base c)
  filler_alike c base = filler_type base c.c_type

  ends_alike : (base : ℕ) (e : Std.Option Usb) → there (end_of image t 0 e) ≡ there (end_of image t base e)
  ends_alike base (Some u) = refl
  ends_alike base None = refl

  unbounded_type : (base : ℕ) (k : ComponentType) (x y : Bool) → x ≡ y → unbounded_of x (type_of image t 0 k) ≡ unbounded_of y (type_of image t base k)
  unbounded_type base (T.Literal b) x y e = refl
  unbounded_type base (T.Variable p) x y e = refl
  unbounded_type base T.Filler x y e = ap not e

  unbounded_alike : (c : Component) (base : ℕ) → is_unbounded_filler (component_of image t 0 c) ≡ is_unbounded_filler (component_of image t base c)
  unbounded_alike c base =
      unbounded_type base c.c_type (there (end_of image t 0 c.range.end)) (there (end_of image t base c.range.end)) (ends_alike base c.range.end)

  places_alike : (p : Component → Bool) (q : Def.Component → Bool) → ((c : Component) (base : ℕ) → p c ≡ q (component_of image t base c))
      → (cs : List Component) (ps : List (Placed Def.Component)) (n : ℕ) → Are image t cs ps
      → place_from p n cs ≡ place_from (λ (x : Placed Def.Component). q x.value) n ps
  unfolding place_from
  places_alike p q f [] [] n h = refl
  places_alike p q f [] (x ∷ ps) n h = absurd h
  places_alike p q f (c ∷ cs) [] n h = absurd h
  places_alike p q f (c ∷ cs) (x ∷ ps) n h = rw (f c x.base ∙ ap q h.0.value, places_alike p q f cs ps (suc n) h.1)

module _ (image : List ℕ) (kept : List Component) (x : Now) (d : Concatenation) (h : HeadIs image kept x d) where
  comps_are : Are image (tree_in image) (take x.len (drop x.first.0 kept)) d.comps
  comps_are = rw h.len_is h.comps

  pub filler_place : place_from (λ (c : Component). is_filler (component_of image (tree_in image) 0 c)) 0 (take x.len (drop x.first.0 kept))
      ≡ filler_in d
  filler_place = places_alike image (tree_in image) _ is_filler (filler_alike image (tree_in image)) _ d.comps 0 comps_are

  pub unbounded_place : place_from (λ (c : Component). is_unbounded_filler (component_of image (tree_in image) 0 c)) 0 (take x.len (drop x.first.0 kept))
      ≡ unbounded_in d
  unbounded_place = places_alike image (tree_in image) _ is_unbounded_filler (unbounded_alike image (tree_in image)) _ d.comps 0 comps_are

-- ---- what is said where one is found, and where none is

abbrev source_as : Bool → ℕ → Option ℕ → Result Unit
source_as bare i p = elim p [ none ↦ ok tt | some k ↦ with_places 0 k (need (not (bare && eqb i 0)) filler_without_start) ]

module _ (bare : Bool) (i : ℕ) (d : Concatenation) where
  pub source_found : (k : ℕ) → some k ≡ filler_in d → (bare && eqb i 0) ≡ true
      → refused (refusal_of (number_of filler_without_start) 0 k) ≡ check_source bare i d
  source_found k e t = here t ∙ ap (source_as bare i) e
    where
      here : (bare && eqb i 0) ≡ true → refused (refusal_of (number_of filler_without_start) 0 k) ≡ source_as bare i (some k)
      here t = rw t

  pub source_none : none ≡ filler_in d → ok tt ≡ check_source bare i d
  source_none e = ap (source_as bare i) e

abbrev middle_as : ℕ → Option ℕ → Result Unit
middle_as i p = elim p [ none ↦ ok tt | some k ↦ with_places i k (refuse middle_filler) ]

module _ (i : ℕ) (d : Concatenation) where
  pub middle_found : (k : ℕ) → is_align d.align align_mid ≡ true → some k ≡ unbounded_in d
      → refused (refusal_of (number_of middle_filler) i k) ≡ middle_at i d
  middle_found k t e = rw t (ap (middle_as i) e)

  pub middle_none : is_align d.align align_mid ≡ true → none ≡ unbounded_in d → ok tt ≡ middle_at i d
  middle_none t e = rw t (ap (middle_as i) e)

  module _ (later : List Concatenation) where
    pub opposite_found : (j : ℕ) → some j ≡ place_from (is_opposite d) (i + 1) later
        → refused (refusal_of (number_of opposite_fillers) i j) ≡ opposite_at i d later
    opposite_found j e = ap (opposite_as i) (e ∙ ap (λ n. place_from (is_opposite d) n later) (add-one i))

    pub opposite_none : none ≡ place_from (is_opposite d) (i + 1) later → ok tt ≡ opposite_at i d later
    opposite_none e = ap (opposite_as i) (e ∙ ap (λ n. place_from (is_opposite d) n later) (add-one i))

-- ---- the first that is opposite

abbrev pub opposite_to : Align → Now → Bool
opposite_to a x = is_sided (align_of a) && is_sided (align_of x.running.align) && not (is_align (align_of a) (align_of x.running.align))

module _ (image : List ℕ) (kept : List Component) where
  opposites_alike : (a : Align) (d : Concatenation) → align_of a ≡ d.align → (xs : List Now) (ds : List Concatenation) (n : ℕ) → HeadsAre image kept xs ds
      → place_from (opposite_to a) n xs ≡ place_from (is_opposite d) n ds
  unfolding place_from
  opposites_alike a d e [] [] n h = refl
  opposites_alike a d e [] (y ∷ ds) n h = absurd h
  opposites_alike a d e (x ∷ xs) [] n h = absurd h
  opposites_alike a d e (x ∷ xs) (y ∷ ds) n h = rw (e, h.0.summary.align_is, opposites_alike a d e xs ds (suc n) h.1)

  heads_from : (xs : List Now) (ds : List Concatenation) (k : ℕ) → HeadsAre image kept xs ds → HeadsAre image kept (drop k xs) (drop k ds)
  heads_from xs ds zero h = h
  heads_from [] [] (suc k) h = tt
  heads_from [] (d ∷ ds) (suc k) h = absurd h
  heads_from (x ∷ xs) [] (suc k) h = absurd h
  heads_from (x ∷ xs) (d ∷ ds) (suc k) h = heads_from xs ds k h.1

  pub opposite_place : (a : Align) (d : Concatenation) → align_of a ≡ d.align → (xs : List Now) (ds : List Concatenation) (k n : ℕ) → HeadsAre image kept xs ds
      → place_from (opposite_to a) n (take (length xs - k) (drop k xs)) ≡ place_from (is_opposite d) n (drop k ds)
  opposite_place a d e xs ds k n h =
      let z : length xs - k ≡ length (drop k xs) = sym (length-drop k xs) in
      rw (z, take-length (drop k xs)) (opposites_alike a d e (drop k xs) (drop k ds) n (heads_from xs ds k h))

-- what stands where no head stands, as the code's reading has it
abbrev pub nowhere : Now
nowhere =
    record {
      first = record { 0 = 0 };
      len = 0;
      merged = 0;
      running = record { width = None; align = A.None; deterministic = false; nonzero = false };
    }

-- the alignment of the i-th, where it is d
pub align_here : (image : List ℕ) (kept : List Component) (xs : List Now) (ds : List Concatenation) (i : ℕ) (d : Concatenation) → HeadsAre image kept xs ds
    → i < length xs → drop i ds ≡ d ∷ drop (i + 1) ds → (x : Now) → align_of (get_or xs i x).running.align ≡ d.align
align_here image kept xs ds i d h l e x =
    let t = ith image kept xs ds i h l in
    let f : t.one ∷ drop (i + 1) ds ≡ d ∷ drop (i + 1) ds = sym t.rest ∙ e in
    let same : t.one ≡ d = cc in
    (t.is x).summary.align_is ∙ ap (λ (y : Concatenation). y.align) same
