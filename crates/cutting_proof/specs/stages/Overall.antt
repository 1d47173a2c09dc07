-- Stage 4 of such concatenations: it accepts them with the same result.
use Rattle.std.specs.Prelude.{◌≡◌, refl, ◌&&◌, ◌||◌, ◌∷◌, if◌then◌else◌}
use Rattle.std.proofs.Common.{sym, ap, ap₂, ◌∙◌, subst}
use Rattle.definition.specs.Prelude.{ℕ, suc, Bool, true, false, not, Option, none, some, List, [], map, length, leb, eqb}
use Rattle.definition.specs.Basics.{Result, ok, with_places}
use Rattle.definition.specs.Refusals.{need, refuse, filler_without_start, no_common_width, only_source, middle_filler, opposite_fillers}
use Rattle.definition.specs.Image.{Placed}
use Rattle.definition.specs.Component.{Component}
use Rattle.definition.specs.Concatenation.{FillerAlign, Concatenation, merged, is_align, align_mid, align_multiple, is_unbounded_filler}
use Rattle.definition.specs.Overall.{Overall, place_from, is_filler, join_width, check_source, overall_from, overall_start, middle_from, is_sided, opposite_from, stage4}
use Rattle.cutting_proof.specs.stages.Cuts.{some_is}
use Rattle.cutting_proof.specs.stages.Keeping.{Keeps, bind_keeps, placed_keeps}
use Rattle.cutting_proof.specs.stages.Checked.{Alike, Pairwise, done, pair}

abbrev found : Option ℕ → Bool
found none = false
found (some k) = true

found_place : (t : Component → Bool) (n : ℕ) (l : List (Placed Component)) → found (place_from (λ (c : Placed Component). t c.value) n l) ≡ some_is t l
unfolding place_from some_is
found_place t n [] = refl
found_place t n (c ∷ l) = go (t c.value) (found_place t (suc n) l)
  where
    go : (b : Bool) → found (place_from (λ (c : Placed Component). t c.value) (suc n) l) ≡ some_is t l
        → found (if b then some n else place_from (λ (c : Placed Component). t c.value) (suc n) l) ≡ (b || some_is t l)
    go true e = refl
    go false e = e

-- a refusal at the first component that passes a test
abbrev refused_at : (Component → Bool) → List (Placed Component) → ℕ → Result Unit → Result Unit → Result Unit
refused_at t l i m n = elim (place_from (λ (c : Placed Component). t c.value) 0 l) [ none ↦ m | some k ↦ with_places i k n ]

refused_keeps : (t : Component → Bool) (l l' : List (Placed Component)) (i : ℕ) (m m' n : Result Unit) → some_is t l ≡ some_is t l' → Keeps m m'
    → Keeps (refused_at t l i m n) (refused_at t l' i m' n)
refused_keeps t l l' i m m' n e h = go (place l) (place l') (found_place t 0 l ∙ e ∙ sym (found_place t 0 l'))
  where
    place : List (Placed Component) → Option ℕ
    place x = place_from (λ (c : Placed Component). t c.value) 0 x

    go : (x y : Option ℕ) → found x ≡ found y → Keeps {A = Unit} (elim x [ none ↦ m | some k ↦ with_places i k n ]) (elim y [ none ↦ m' | some k ↦ with_places i k n ])
    go none none p a q = h a q
    go none (some k) p a q = cc
    go (some k) none p a q = cc
    go (some k) (some k') p a q = placed_keeps i k i k' n n (λ a q. q) a q

if_keeps : {A : Type 0} (t : Bool) (m m' n n' : Result A) → Keeps m m' → Keeps n n' → Keeps (if t then m else n) (if t then m' else n')
if_keeps true m m' n n' h k = h
if_keeps false m m' n n' h k = k

join_alike : (i : ℕ) (c d : Concatenation) (o : Overall) → Alike c d → join_width i c o ≡ join_width i d o
join_alike i c d o h = ap (λ (e : Concatenation). join_width i e o) h.same_merged

source_keeps : (bare : Bool) (i : ℕ) (c d : Concatenation) → Alike c d → Keeps (check_source bare i c) (check_source bare i d)
source_keeps bare i c d h = refused_keeps is_filler c.comps d.comps 0 (ok tt) (ok tt) (need (not (bare && eqb i 0)) filler_without_start) h.same_filler (λ a q. q)

overall_keeps : (bare : Bool) {cs ds : List Concatenation} → Pairwise Alike cs ds → (i : ℕ) (o : Overall) → Keeps (overall_from bare i cs o) (overall_from bare i ds o)
unfolding overall_from
overall_keeps bare done i o a q = q
overall_keeps bare (pair {a = c} {b = d} h hs) i o a q =
    bind_keeps (join_width i c o) (join_width i d o) _ _ (λ o' e. sym (join_alike i c d o h) ∙ e)
    (λ o'. bind_keeps (check_source bare i c) (check_source bare i d) _ _ (source_keeps bare i c d h) (λ u a q. overall_keeps bare hs (suc i) o' a q)) a q

same_overall : {cs ds : List Concatenation} → Pairwise Alike cs ds → overall_start cs ≡ overall_start ds
same_overall done = refl
same_overall (pair h hs) = ap (λ c. overall_start (c ∷ [])) h.same_merged

-- a concatenation in front of what the later ones say
abbrev middle_at : ℕ → Concatenation → Result Unit → Result Unit
middle_at i c later = if is_align c.align align_mid then refused_at is_unbounded_filler c.comps i later (refuse middle_filler) else later

middle_front : (i : ℕ) (c d : Concatenation) (m m' : Result Unit) → Alike c d → Keeps m m' → Keeps (middle_at i c m) (middle_at i d m')
middle_front i c d m m' h k a q =
    if_keeps (is_align d.align align_mid) _ _ m m' (refused_keeps is_unbounded_filler c.comps d.comps i m m' (refuse middle_filler) h.same_unbounded k) k a
    (subst (λ (x : FillerAlign). (if is_align x align_mid then refused_at is_unbounded_filler c.comps i m (refuse middle_filler) else m) ≡ ok a)
    (ap (λ (e : Concatenation). e.align) h.same_merged) q)

middle_keeps : {cs ds : List Concatenation} → Pairwise Alike cs ds → (i : ℕ) → Keeps (middle_from i cs) (middle_from i ds)
unfolding middle_from
middle_keeps done i a q = q
middle_keeps (pair {a = c} {b = d} {l} {m} h hs) i a q = middle_front i c d (middle_from (suc i) l) (middle_from (suc i) m) h (λ a q. middle_keeps hs (suc i) a q) a q

pub same_merged_list : {cs ds : List Concatenation} → Pairwise Alike cs ds → map merged cs ≡ map merged ds
same_merged_list done = refl
same_merged_list (pair h hs) = λ i. h.same_merged i ∷ same_merged_list hs i

same_length : {cs ds : List Concatenation} → Pairwise Alike cs ds → length cs ≡ length ds
same_length done = refl
same_length (pair h hs) = ap suc (same_length hs)

-- stage 4 looks for opposite fillers among the alignments only
aligned_place : (t : FillerAlign → Bool) (n : ℕ) (cs : List Concatenation)
    → place_from (λ (d : Concatenation). t d.align) n (map merged cs) ≡ place_from (λ (d : Concatenation). t d.align) n cs
unfolding place_from
aligned_place t n [] = refl
aligned_place t n (c ∷ cs) = ap (λ (l : Option ℕ). if t c.align then some n else l) (aligned_place t (suc n) cs)

opposite_merged : (i : ℕ) (cs : List Concatenation) → opposite_from i (map merged cs) ≡ opposite_from i cs
unfolding opposite_from
opposite_merged i [] = refl
opposite_merged i (c ∷ cs) =
    ap₂ (λ (o : Option ℕ) (later : Result Unit). elim o as (λ _. Result Unit) [ none ↦ later | some j ↦ with_places i j (refuse opposite_fillers) ])
    (aligned_place (λ a. is_sided c.align && is_sided a && not (is_align c.align a)) (suc i) cs) (opposite_merged (suc i) cs)

pub stage4_keeps : (mode : ℕ) (given : Bool) {cs ds : List Concatenation} → Pairwise Alike cs ds → Keeps (stage4 mode given cs) (stage4 mode given ds)
unfolding stage4
stage4_keeps mode given {cs} {ds} h =
    bind_keeps (overall_from unstarted 0 cs (overall_start cs)) (overall_from unstarted 0 ds (overall_start ds)) _ _ (λ o q. rw (← same_overall h) (overall_keeps unstarted h 0 (overall_start cs) o q)) λ o.
    bind_keeps (common o) (common o) _ _ (λ u q. q) λ _.
    bind_keeps (several o cs) (several o ds) _ _ (λ u q. rw (← same_length h) q) λ _.
    bind_keeps (middles o cs) (middles o ds) _ _ (if_keeps o.deterministic _ _ _ _ (λ u q. q) (middle_keeps h 0)) λ _.
    bind_keeps (sides o cs) (sides o ds) _ _ (if_keeps (o.deterministic || not (is_align o.align align_multiple)) _ _ _ _ (λ u q. q) (λ u q. same_opposites ∙ q)) λ _ a q. q
  where
    unstarted : Bool
    unstarted = leb 1 mode && not given

    common : Overall → Result Unit
    common o = need (not (eqb mode 2) || elim o.width [ none ↦ false | some w ↦ true ]) no_common_width

    several : Overall → List Concatenation → Result Unit
    several o cs = need (o.deterministic || not (eqb (length cs) 1)) only_source

    middles : Overall → List Concatenation → Result Unit
    middles o cs = if o.deterministic then ok tt else middle_from 0 cs

    sides : Overall → List Concatenation → Result Unit
    sides o cs = if o.deterministic || not (is_align o.align align_multiple) then ok tt else opposite_from 0 cs

    same_opposites : opposite_from 0 ds ≡ opposite_from 0 cs
    same_opposites = sym (opposite_merged 0 ds) ∙ ap (opposite_from 0) (sym (same_merged_list h)) ∙ opposite_merged 0 cs
