-- The stages over a tree whose components' texts stand in one text: so do the answer's texts, and the answer is no larger than the tree.
use Rattle.std.specs.Prelude.{◌≡◌, refl, ◌&&◌, ◌∷◌, ◌++◌, if◌then◌else◌}
use Rattle.std.proofs.Common.{ap, ap₂, ◌∙◌, arith, length-append}
use Prim.Native.Nat.{ℕ, suc, ◌+◌, ◌≤◌}
use Rattle.std.proofs.Math.Nat.{le_refl, le_trans}
use Rattle.std.proofs.Math.ListN.{length-map}
use Rattle.definition.specs.Prelude.{Bool, true, false, not, Option, none, some, List, [], map, length, drop, ltb, eqb, pos}
use Rattle.definition.specs.Basics.{Result, ok, ◌>>=◌, with_places, is_empty, sum, joined}
use Rattle.definition.specs.Refusals.{need, empty_after_colon, zero_total_width}
use Rattle.definition.specs.Image.{Unparsed, Placed}
use Rattle.definition.specs.Tree.{text_of}
use Rattle.definition.specs.Text.{Part, part_of}
use Rattle.definition.specs.Component.{Component, Prefix, Parsed, prefix_of, starting_value, source, each_in, each, keep_base, stage1_component, simplify, stage1, stage2}
use Rattle.definition.specs.Concatenation.{Concatenation, is_static_literal, whole_literal, bits_of, unchecked, check_from, check, stage3, merge_onto, merge, merged}
use Rattle.definition.specs.Overall.{stage4}
use Rattle.definition.specs.Run.{Choices, has_start, stages}
use Rattle.std.proofs.lemmas.List.{map-append}
use Rattle.laws.specs.Lists.{sum_append}
use Rattle.prepared.specs.Bytes.{Holds}
use Rattle.answer_facts.specs.read.Facts.{Yields, given, Found, found, missing, Every, every_nil, every_cons, after, bound, yields_placed, every_append, every_split}
use Rattle.answer_facts.specs.read.Items.{Stands, Run, run_part}
use Rattle.answer_facts.specs.read.Texts.{InComponent, in_val}
use Rattle.answer_facts.specs.read.Components.{simplify_kept, prefix_runs, stage1_kept}

-- a size of each element, over a list
abbrev pub total : {A : Type 0} → (A → ℕ) → List A → ℕ
total w l = sum (map w l)

pub total_append : {A : Type 0} (w : A → ℕ) (k l : List A) → total w (k ++ l) ≡ total w k + total w l
total_append w k l = ap sum (map-append w k l) ∙ sum_append (map w k) (map w l)

-- ---- a step on each element that keeps a fact and makes nothing larger

module _ {A B : Type 0} (f : Bool → A → Result B) (Pre : A → Type 0) (Post : B → Type 0) (v : A → ℕ) (w : B → ℕ)
    (step : (last : Bool) (a : A) → Pre a → Yields (λ b. Post b × (w b ≤ v a)) (f last a)) where
  in_kept : (i k : ℕ) {c : List A} → Every Pre c → Yields (λ bs. Every Post bs × (total w bs ≤ total v c)) (each_in f i k c)
  unfolding each_in sum
  in_kept i k every_nil = given (every_nil, le_refl 0)
  in_kept i k (every_cons {a = a} {l = l} p ps) =
      bound (yields_placed i k (step (eqb i 0 && is_empty l) a p)) λ b q. bound (in_kept i (suc k) ps) λ bs qs. given (every_cons q.0 qs.0, omega arith)

  pub each_kept : (i : ℕ) (t : List (List A)) → Every Pre (joined t)
      → Yields (λ bss. (length bss ≡ length t) × Every Post (joined bss) × (total w (joined bss) ≤ total v (joined t))) (each f i t)
  unfolding each joined sum
  each_kept i [] ps = given (refl, every_nil, le_refl 0)
  each_kept i (c ∷ t) ps =
      bound (in_kept i 0 (every_split c ps).0) λ bs q. bound (each_kept (suc i) t (every_split c ps).1) λ bss qs.
      let l = total_append w bs (joined bss) in
      let r = total_append v c (joined t) in
      given (ap suc qs.0, every_append q.0 qs.1, omega arith)

-- ---- in one text

-- the bits of a component, and one for itself
abbrev pub size_of : Placed Component → ℕ
size_of c = suc (length (bits_of c.value))

abbrev pub size_before : Placed Unparsed → ℕ
size_before u = suc (length u.value.bits)

module _ (txt : List ℕ) where
  -- its records' text stands at its text start
  abbrev pub Begins : Placed Unparsed → Type 0
  Begins u = Holds txt u.base (text_of u.value.recs)

  -- its texts stand, counted from its text start
  abbrev pub Within : Placed Component → Type 0
  Within c = InComponent (drop c.base txt) c.value

  abbrev pub PartWithin : Placed Part → Type 0
  PartWithin p = Stands (drop p.base txt) p.value

  start_kept : (k : ℕ) {us : List (Placed Unparsed)} → Every Begins us → Yields (Found PartWithin) (starting_value k us)
  unfolding starting_value
  start_kept k every_nil = given missing
  start_kept k (every_cons {a = u} h every_nil) = go (prefix_of u.value) (prefix_runs (drop u.base txt) u.value h)
    where
      go : (x : Option Prefix) → Found (λ p. Run (drop u.base txt) p.before × Run (drop u.base txt) p.after) x
          → Yields (Found PartWithin) (elim x [
            | none ↦ ok none
            | some p ↦ do
              _ ← with_places 0 k (need (not (is_empty p.after)) empty_after_colon)
              ok (some (record { base = u.base; value = part_of p.before }))
          ])
      go none r = given missing
      go (some p) (found r) = after (with_places 0 k (need (not (is_empty p.after)) empty_after_colon)) λ _. given (found (run_part r.0))
  start_kept k (every_cons h (every_cons {a = u} h' hs)) = start_kept (suc k) (every_cons {a = u} h' hs)

  first_kept : (last : Bool) (u : Placed Unparsed) → Begins u → Yields (λ c. Within c × (size_of c ≤ size_before u)) (keep_base stage1_component last u)
  first_kept last u h = bound (stage1_kept (drop u.base txt) u.value h last) λ c k. given (k.0, omega arith)

  second_kept : (last : Bool) (c : Placed Component) → Within c → Yields (λ d. Within d × (size_of d ≤ size_of c)) (keep_base (λ last. simplify) last c)
  second_kept last c h = bound (simplify_kept (drop c.base txt) c.value h) λ d k. given (k.0, omega arith)

  -- ---- merging

  onto_kept : (c : Placed Component) {l : List (Placed Component)} → Within c → Every Within l
      → Every Within (merge_onto c l) × (total size_of (merge_onto c l) ≤ size_of c + total size_of l)
  unfolding sum
  onto_kept c h every_nil = (every_cons h every_nil, le_refl (size_of c + 0))
  onto_kept c h (every_cons {a = d} {l = l} k ks) = go (is_static_literal c.value && is_static_literal d.value)
    where
      both : Placed Component
      both = record { base = c.base; value = whole_literal (bits_of c.value ++ bits_of d.value) }

      go : (b : Bool)
          → Every Within (if b then both ∷ l else c ∷ d ∷ l) × (total size_of (if b then both ∷ l else c ∷ d ∷ l) ≤ size_of c + total size_of (d ∷ l))
      go true =
          let none_in = drop c.base txt in
          let bits = length-append (bits_of c.value) (bits_of d.value) in
          (every_cons (tt, (in_val none_in (pos 0), found (in_val none_in (pos (length (bits_of c.value ++ bits_of d.value)))))) ks, omega arith)
      go false = (every_cons h (every_cons k ks), le_refl (total size_of (c ∷ d ∷ l)))

  merge_kept : {cs : List (Placed Component)} → Every Within cs → Every Within (merge cs) × (total size_of (merge cs) ≤ total size_of cs)
  unfolding merge sum
  merge_kept every_nil = (every_nil, le_refl 0)
  merge_kept (every_cons {a = c} {l = cs} h hs) =
      let (k, l) = merge_kept hs in
      let (k', l') = onto_kept c h k in
      (k', omega arith)

  rows_merged : (t : List (List (Placed Component))) → Every Within (joined t)
      → Every Within (joined (map merge t)) × (total size_of (joined (map merge t)) ≤ total size_of (joined t))
  unfolding joined
  rows_merged [] h = (h, le_refl (total size_of (joined [])))
  rows_merged (c ∷ t) h =
      let (p, q) = merge_kept (every_split c h).0 in
      let (ps, qs) = rows_merged t (every_split c h).1 in
      let l = total_append size_of (merge c) (joined (map merge t)) in
      let r = total_append size_of c (joined t) in
      (every_append p ps, omega arith)

-- ---- stage 3 leaves the components as they are

check_comps : (i : ℕ) (cs : List (Placed Component)) → Yields (λ d. d.comps ≡ cs) (check i cs)
unfolding check
check_comps i cs = after (check_from i 0 true cs unchecked) λ r. after (with_places i 0 (need (elim r.width [ none ↦ true | some w ↦ ltb 0 w ]) zero_total_width)) λ _. given refl

pub stage3_comps : (i : ℕ) (t : List (List (Placed Component))) → Yields (λ ds. map (λ d. d.comps) ds ≡ t) (stage3 i t)
unfolding stage3
stage3_comps i [] = given refl
stage3_comps i (c ∷ t) = bound (check_comps i c) λ d e. bound (stage3_comps (suc i) t) λ ds es. given (ap₂ (λ x xs. x ∷ xs) e es)

pub merged_comps : (ds : List Concatenation) → map (λ d. d.comps) (map merged ds) ≡ map merge (map (λ d. d.comps) ds)
merged_comps [] = refl
merged_comps (d ∷ ds) = ap (λ (l : List (List (Placed Component))). merge d.comps ∷ l) (merged_comps ds)

-- ---- the whole

-- n concatenations, of a size in all, whose texts and starting value stand in a text
pub record Fitting (txt : List ℕ) (n size : ℕ) (init : Option (Placed Part)) (cc : List (List (Placed Component))) : Type 0 where
  pub concats : length cc ≡ n
  pub init_stands : Found (PartWithin txt) init
  pub texts : Every (Within txt) (joined cc)
  pub small : total size_of (joined cc) ≤ size

module _ (txt : List ℕ) where
  source_begins : (t : List (List (Placed Unparsed))) → Every (Begins txt) (joined t) → Every (Begins txt) (source t)
  unfolding joined
  source_begins [] h = h
  source_begins (c ∷ t) h = (every_split c h).0

  stage1_fitting : (t : List (List (Placed Unparsed))) → Every (Begins txt) (joined t)
      → Yields (λ t₁. Fitting txt (length t) (total size_before (joined t)) t₁.init t₁.cc) (stage1 t)
  unfolding stage1
  stage1_fitting t h =
      bound (start_kept txt 0 (source_begins t h)) λ init i.
      bound (each_kept (keep_base stage1_component) (Begins txt) (Within txt) size_before size_of (first_kept txt) 0 t h) λ cc f.
      given (record { concats = f.0; init_stands = i; texts = f.1; small = f.2 })

  stage2_fitting : (n size : ℕ) (t : Parsed) → Fitting txt n size t.init t.cc → Yields (λ t₂. Fitting txt n size t₂.init t₂.cc) (stage2 t)
  unfolding stage2
  stage2_fitting n size t h =
      bound (each_kept (keep_base (λ last. simplify)) (Within txt) (Within txt) size_of size_of (second_kept txt) 0 t.cc h.texts) λ cc f.
      given (record { concats = f.0 ∙ h.concats; init_stands = h.init_stands; texts = f.1; small = le_trans f.2 h.small })

  pub stages_fitting : (how : Choices) (t : List (List (Placed Unparsed))) → Every (Begins txt) (joined t)
      → Yields (λ a. Fitting txt (length t) (total size_before (joined t)) a.init (map (λ c. c.comps) a.cc)) (stages how t)
  unfolding stages
  stages_fitting how t h =
      bound (stage1_fitting t h) λ t₁ f₁. bound (stage2_fitting (length t) (total size_before (joined t)) t₁ f₁) λ t₂ f₂.
      bound (stage3_comps 0 t₂.cc) λ cc e. after (stage4 how.mode (has_start how t₂.init) cc) λ o.
      given (go t₂ cc e f₂)
    where
      go : (t₂ : Parsed) (cc : List Concatenation) → map (λ c. c.comps) cc ≡ t₂.cc → Fitting txt (length t) (total size_before (joined t)) t₂.init t₂.cc
          → Fitting txt (length t) (total size_before (joined t)) t₂.init (map (λ c. c.comps) (map merged cc))
      go t₂ cc e f =
          let (texts, small) = rows_merged txt t₂.cc f.texts in
          rw (merged_comps cc, e)
          (record { concats = length-map t₂.cc merge ∙ f.concats; init_stands = f.init_stands; texts = texts; small = le_trans small f.small })
