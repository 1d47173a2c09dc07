-- Stage 3 of a tree with cut literals: concatenations that stages 4 and 5 cannot tell from those of the tree.
use Rattle.std.specs.Prelude.{◌≡◌, refl, ◌≤◌, ◌∷◌}
use Rattle.std.proofs.Common.{ap}
use Rattle.definition.specs.Prelude.{ℕ, suc, Bool, true, none, some, List, [], length, ltb}
use Rattle.definition.specs.Basics.{ok}
use Rattle.definition.specs.Refusals.{zero_total_width}
use Rattle.definition.specs.Image.{Placed}
use Rattle.definition.specs.Component.{Component}
use Rattle.definition.specs.Concatenation.{Running, unchecked, check_from, Concatenation, check, stage3, merged, is_unbounded_filler}
use Rattle.definition.specs.Overall.{is_filler}
use Rattle.cutting_proof.specs.stages.Cuts.{Cuts, some_is, cuts_some, cuts_merge}
use Rattle.cutting_proof.specs.stages.Running.{cuts_check}
use Rattle.laws.specs.Results.{bind_ok, placed_ok, need_ok}

-- what stage 4 sees of a concatenation, and what stage 5 leaves of it
pub record Alike (c d : Concatenation) : Type 0 where
  pub same_merged : merged c ≡ merged d
  pub same_filler : some_is is_filler c.comps ≡ some_is is_filler d.comps
  pub same_unbounded : some_is is_unbounded_filler c.comps ≡ some_is is_unbounded_filler d.comps

-- lists of equal length, related element by element
pub data Pairwise {A : Type 0} (R : A → A → Type 0) : List A → List A → Type 0 where
  done : Pairwise R [] []
  pair : {a b : A} {l m : List A} → R a b → Pairwise R l m → Pairwise R (a ∷ l) (b ∷ m)

check_alike : {bits : List ℕ} → length bits ≤ 4096 → {cs ds : List (Placed Component)} → Cuts bits cs ds → (i : ℕ) (c : Concatenation) → check i cs ≡ ok c
    → (d : Concatenation) × (check i ds ≡ ok d) × Alike c d
unfolding check
check_alike {bits} small {cs} {ds} t i c h =
    let (r, q₁, g₁) = bind_ok _ _ h in
    let (u, q₂, g₂) = bind_ok _ _ g₁ in
    go r q₁ (need_ok _ zero_total_width (placed_ok i 0 _ q₂)) g₂
  where
    positive : Running → Bool
    positive r = elim r.width [ none ↦ true | some w ↦ ltb 0 w ]

    made : List (Placed Component) → Running → Concatenation
    made l r = record { comps = l; align = r.align; width = r.width; deterministic = r.deterministic; nonzero = r.nonzero }

    alike : (r : Running) → Alike (made cs r) (made ds r)
    alike r =
        record {
          same_merged = ap (λ (l : List (Placed Component)). made l r) (cuts_merge t);
          same_filler = cuts_some is_filler (λ b r. refl) t;
          same_unbounded = cuts_some is_unbounded_filler (λ b r. refl) t;
        }

    go : (r : Running) → check_from i 0 true cs unchecked ≡ ok r → positive r ≡ true → ok (made cs r) ≡ ok c → (d : Concatenation) × (check i ds ≡ ok d) × Alike c d
    go r q p e = (made ds r, rw (cuts_check small t i 0 0 true unchecked r q, p), (let q : made cs r ≡ c = cc in rw (← q) (alike r)))

pub stage3_alike : {bits : List ℕ} → length bits ≤ 4096 → {t t' : List (List (Placed Component))} → Pairwise (Cuts bits) t t' → (i : ℕ) (cs : List Concatenation) → stage3 i t ≡ ok cs
    → (ds : List Concatenation) × (stage3 i t' ≡ ok ds) × Pairwise Alike cs ds
unfolding stage3
stage3_alike small done i cs h = let e : cs ≡ [] = cc in ([], refl, rw e done)
stage3_alike small (pair {b = c'} {m = t'} k ks) i cs h =
    let (c, q₁, g₁) = bind_ok _ _ h in
    let (cs', q₂, g₂) = bind_ok _ _ g₁ in
    go c cs' (check_alike small k i c q₁) (stage3_alike small ks (suc i) cs' q₂) g₂
  where
    go : (c : Concatenation) (cs' : List Concatenation) → (d : Concatenation) × (check i c' ≡ ok d) × Alike c d
        → (ds : List Concatenation) × (stage3 (suc i) t' ≡ ok ds) × Pairwise Alike cs' ds
        → ok (c ∷ cs') ≡ ok cs → (ds : List Concatenation) × (stage3 i (c' ∷ t') ≡ ok ds) × Pairwise Alike cs ds
    go c cs' (d, p, x) (ds, ps, xs) e = let q : c ∷ cs' ≡ cs = cc in (d ∷ ds, rw (p, ps), rw (← q) (pair x xs))
