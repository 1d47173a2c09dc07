-- The stages do not look at the text starts: each stage of a tree without them is the stage of the tree, its result without them.
use Rattle.std.specs.Prelude.{◌≡◌, refl, ◌&&◌, ◌∷◌, ◌++◌, if◌then◌else◌}
use Rattle.std.proofs.Common.{ap, ap₂, ◌∙◌}
use Rattle.std.proofs.lemmas.List.{length-map}
use Rattle.definition.specs.Prelude.{ℕ, suc, Bool, true, false, not, Option, none, some, List, [], map, leb, ltb, eqb}
use Rattle.definition.specs.Basics.{Result, ok, refused, ◌>>=◌, with_places, is_empty}
use Rattle.definition.specs.Refusals.{need, refuse, middle_filler, opposite_fillers, zero_total_width, empty_after_colon}
use Rattle.definition.specs.Image.{Unparsed, Placed}
use Rattle.definition.specs.Text.{Part, part_of}
use Rattle.definition.specs.Component.{Component, Prefix, Parsed, prefix_of, starting_value, source, each_in, each, keep_base, stage1_component, simplify, stage1, stage2}
use Rattle.definition.specs.Concatenation.{Concatenation, Running, is_align, align_mid, unchecked, is_unbounded_filler, is_static_literal, whole_literal, bits_of, check_from, check, stage3, merge_onto, merge, merged}
use Rattle.definition.specs.Overall.{Overall, overall_start, place_from, check_source, overall_from, middle_from, opposite_from, is_filler, is_sided, stage4}
use Rattle.definition.specs.Run.{Choices, has_start, stages}
use Rattle.answer_facts.specs.read.Statement.{erase, erase_tree, erase_concatenation, erase_answer, on_ok, EraseStages}

abbrev pub erase_init : Option (Placed Part) → Option (Placed Part)
erase_init none = none
erase_init (some p) = some (erase p)

abbrev pub erase_parsed : Parsed → Parsed
erase_parsed t = record { init = erase_init t.init; cc = erase_tree t.cc }

-- two runs, step by step: the first step's results agree, and so do the second's
on_bind : {A A' B B' : Type 0} (f : A → A') (g : B → B') (m : Result A) {m' : Result A'} (k : A → Result B) (k' : A' → Result B')
    → m' ≡ on_ok f m → ((a : A) → k' (f a) ≡ on_ok g (k a)) → (m' >>= k') ≡ on_ok g (m >>= k)
on_bind f g (ok a) k k' e h = rw e (h a)
on_bind f g (refused q) k k' e h = rw e

-- the same where the first step has one result
on_same : {A B B' : Type 0} (g : B → B') (m : Result A) {m' : Result A} (k : A → Result B) (k' : A → Result B')
    → m' ≡ m → ((a : A) → k' a ≡ on_ok g (k a)) → (m' >>= k') ≡ on_ok g (m >>= k)
on_same g (ok a) k k' e h = rw e (h a)
on_same g (refused q) k k' e h = rw e

empty_map : {A B : Type 0} (f : A → B) (l : List A) → is_empty (map f l) ≡ is_empty l
empty_map f [] = refl
empty_map f (a ∷ l) = refl

-- ---- stages 1 and 2

erase_kept : {A B : Type 0} (f : Bool → A → Result B) (i k : ℕ) (last : Bool) (p : Placed A)
    → with_places i k (keep_base f last (erase p)) ≡ on_ok erase (with_places i k (keep_base f last p))
erase_kept {A} {B} f i k last p = go (f last p.value)
  where
    go : (r : Result B)
        → with_places i k (r >>= λ b. ok (record { base = 0; value = b })) ≡ on_ok erase (with_places i k (r >>= λ b. ok (record { base = p.base; value = b })))
    go (ok b) = refl
    go (refused q) = refl

erase_each_in : {A B : Type 0} (f : Bool → A → Result B) (i k : ℕ) (ps : List (Placed A))
    → each_in (keep_base f) i k (map erase ps) ≡ on_ok (map erase) (each_in (keep_base f) i k ps)
unfolding each_in
erase_each_in f i k [] = refl
erase_each_in f i k (p ∷ ps) =
    rw (empty_map erase ps)
    (on_bind erase (map erase) (with_places i k (keep_base f (eqb i 0 && is_empty ps) p)) _ _ (erase_kept f i k (eqb i 0 && is_empty ps) p) λ b.
    on_bind (map erase) (map erase) (each_in (keep_base f) i (suc k) ps) _ _ (erase_each_in f i (suc k) ps) λ bs. refl)

erase_each : {A B : Type 0} (f : Bool → A → Result B) (i : ℕ) (t : List (List (Placed A)))
    → each (keep_base f) i (erase_tree t) ≡ on_ok erase_tree (each (keep_base f) i t)
unfolding each
erase_each f i [] = refl
erase_each f i (c ∷ cs) =
    on_bind (map erase) erase_tree (each_in (keep_base f) i 0 c) _ _ (erase_each_in f i 0 c) λ bs.
    on_bind erase_tree erase_tree (each (keep_base f) (suc i) cs) _ _ (erase_each f (suc i) cs) λ bss. refl

erase_start : (k : ℕ) (us : List (Placed Unparsed)) → starting_value k (map erase us) ≡ on_ok erase_init (starting_value k us)
unfolding starting_value
erase_start k [] = refl
erase_start k (u ∷ []) = go (prefix_of u.value)
  where
    from : ℕ → Option Prefix → Result (Option (Placed Part))
    from base x =
        elim x [
          | none ↦ ok none
          | some p ↦ do
            _ ← with_places 0 k (need (not (is_empty p.after)) empty_after_colon)
            ok (some (record { base = base; value = part_of p.before }))
        ]

    go : (x : Option Prefix) → from 0 x ≡ on_ok erase_init (from u.base x)
    go none = refl
    go (some p) = on_same erase_init (with_places 0 k (need (not (is_empty p.after)) empty_after_colon)) _ _ refl λ _. refl
erase_start k (u ∷ v ∷ us) = erase_start (suc k) (v ∷ us)

erase_source : {A : Type 0} (t : List (List (Placed A))) → source (erase_tree t) ≡ map erase (source t)
erase_source [] = refl
erase_source (c ∷ cs) = refl

erase_stage1 : (t : List (List (Placed Unparsed))) → stage1 (erase_tree t) ≡ on_ok erase_parsed (stage1 t)
unfolding stage1
erase_stage1 t =
    on_bind erase_init erase_parsed (starting_value 0 (source t)) _ _ (ap (starting_value 0) (erase_source t) ∙ erase_start 0 (source t)) λ init.
    on_bind erase_tree erase_parsed (each (keep_base stage1_component) 0 t) _ _ (erase_each stage1_component 0 t) λ cc. refl

erase_stage2 : (t : Parsed) → stage2 (erase_parsed t) ≡ on_ok erase_parsed (stage2 t)
unfolding stage2
erase_stage2 t = on_bind erase_tree erase_parsed (each (keep_base (λ last. simplify)) 0 t.cc) _ _ (erase_each (λ last. simplify) 0 t.cc) λ cc. refl

-- stages 1 and 2
pub erase_early : (t : List (List (Placed Unparsed))) → (stage1 (erase_tree t) >>= stage2) ≡ on_ok erase_parsed (stage1 t >>= stage2)
erase_early t = on_bind erase_parsed erase_parsed (stage1 t) _ _ (erase_stage1 t) erase_stage2

-- ---- stage 3

erase_check_from : (i k : ℕ) (first : Bool) (cs : List (Placed Component)) (r : Running)
    → check_from i k first (map erase cs) r ≡ check_from i k first cs r
unfolding check_from
erase_check_from i k first [] r = refl
erase_check_from i k first (c ∷ cs) r = simp (empty_map erase cs, erase_check_from i (suc k) false cs)

erase_check : (i : ℕ) (cs : List (Placed Component)) → check i (map erase cs) ≡ on_ok erase_concatenation (check i cs)
unfolding check
erase_check i cs =
    on_same erase_concatenation (check_from i 0 true cs unchecked) _ _ (erase_check_from i 0 true cs unchecked) λ r.
    on_same erase_concatenation (with_places i 0 (need (elim r.width [ none ↦ true | some w ↦ ltb 0 w ]) zero_total_width)) _ _ refl λ _. refl

erase_stage3 : (i : ℕ) (t : List (List (Placed Component))) → stage3 i (erase_tree t) ≡ on_ok (map erase_concatenation) (stage3 i t)
unfolding stage3
erase_stage3 i [] = refl
erase_stage3 i (c ∷ cs) =
    on_bind erase_concatenation (map erase_concatenation) (check i c) _ _ (erase_check i c) λ d.
    on_bind (map erase_concatenation) (map erase_concatenation) (stage3 (suc i) cs) _ _ (erase_stage3 (suc i) cs) λ ds. refl

-- ---- stage 4

place_map : {A B : Type 0} (p : B → Bool) (f : A → B) (n : ℕ) (l : List A) → place_from p n (map f l) ≡ place_from (λ a. p (f a)) n l
unfolding place_from
place_map p f n [] = refl
place_map p f n (a ∷ l) = rw (place_map p f (suc n) l)

erase_check_source : (bare : Bool) (i : ℕ) (c : Concatenation) → check_source bare i (erase_concatenation c) ≡ check_source bare i c
erase_check_source bare i c = rw (place_map (λ (p : Placed Component). is_filler p.value) erase 0 c.comps, check_source)

erase_overall_from : (bare : Bool) (i : ℕ) (cs : List Concatenation) (o : Overall)
    → overall_from bare i (map erase_concatenation cs) o ≡ overall_from bare i cs o
unfolding overall_from
erase_overall_from bare i [] o = refl
erase_overall_from bare i (c ∷ cs) o =
    simp (erase_check_source bare i c, erase_overall_from bare (suc i) cs)

erase_middle_from : (i : ℕ) (cs : List Concatenation) → middle_from i (map erase_concatenation cs) ≡ middle_from i cs
unfolding middle_from
erase_middle_from i [] = refl
erase_middle_from i (c ∷ cs) =
    ap₂ (λ (x : Option ℕ) (later : Result Unit). if is_align c.align align_mid then elim x [ none ↦ later | some k ↦ with_places i k (refuse middle_filler) ] else later)
    (place_map (λ (p : Placed Component). is_unbounded_filler p.value) erase 0 c.comps) (erase_middle_from (suc i) cs)

erase_opposite_from : (i : ℕ) (cs : List Concatenation) → opposite_from i (map erase_concatenation cs) ≡ opposite_from i cs
unfolding opposite_from
erase_opposite_from i [] = refl
erase_opposite_from i (c ∷ cs) =
    ap₂ (λ (x : Option ℕ) (later : Result Unit). elim x [ none ↦ later | some j ↦ with_places i j (refuse opposite_fillers) ])
    (place_map (λ (d : Concatenation). is_sided c.align && is_sided d.align && not (is_align c.align d.align)) erase_concatenation (suc i) cs)
    (erase_opposite_from (suc i) cs)

erase_overall : (cs : List Concatenation) → overall_start (map erase_concatenation cs) ≡ overall_start cs
erase_overall [] = refl
erase_overall (c ∷ cs) = refl

erase_stage4 : (mode : ℕ) (given : Bool) (cs : List Concatenation) → stage4 mode given (map erase_concatenation cs) ≡ stage4 mode given cs
unfolding stage4
erase_stage4 mode given cs =
    rw (erase_overall, erase_overall_from (leb 1 mode && not given) 0 cs (overall_start cs), length-map cs erase_concatenation, erase_middle_from 0 cs, erase_opposite_from 0 cs)

-- ---- stage 5, and the whole

pub erase_merge : (cs : List (Placed Component)) → merge (map erase cs) ≡ map erase (merge cs)
unfolding merge
erase_merge [] = refl
erase_merge (c ∷ cs) = rw (erase_merge cs) (go (merge cs))
  where
    go : (l : List (Placed Component)) → merge_onto (erase c) (map erase l) ≡ map erase (merge_onto c l)
    go [] = refl
    go (d ∷ l) = by_both (is_static_literal c.value && is_static_literal d.value)
      where
        by_both : (b : Bool)
            → (if b then record { base = 0; value = whole_literal (bits_of c.value ++ bits_of d.value) } ∷ map erase l else erase c ∷ erase d ∷ map erase l)
            ≡ map erase (if b then record { base = c.base; value = whole_literal (bits_of c.value ++ bits_of d.value) } ∷ l else c ∷ d ∷ l)
        by_both true = refl
        by_both false = refl

erase_merged : (cs : List Concatenation) → map merged (map erase_concatenation cs) ≡ map erase_concatenation (map merged cs)
erase_merged [] = refl
erase_merged (c ∷ cs) = rw (erase_merge c.comps, erase_merged cs)

erase_has_start : (how : Choices) (x : Option (Placed Part)) → has_start how (erase_init x) ≡ has_start how x
erase_has_start how none = refl
erase_has_start how (some p) = refl

pub erase_stages : EraseStages
unfolding stages
erase_stages how t =
    on_bind erase_parsed erase_answer (stage1 t) _ _ (erase_stage1 t) λ t₁.
    on_bind erase_parsed erase_answer (stage2 t₁) _ _ (erase_stage2 t₁) λ t₂.
    on_bind (map erase_concatenation) erase_answer (stage3 0 t₂.cc) _ _ (erase_stage3 0 t₂.cc) λ cc.
    on_same erase_answer (stage4 how.mode (has_start how t₂.init) cc) _ _
    (ap (λ (b : Bool). stage4 how.mode b (map erase_concatenation cc)) (erase_has_start how t₂.init) ∙ erase_stage4 how.mode (has_start how t₂.init) cc) λ o.
    rw (erase_merged cc)
