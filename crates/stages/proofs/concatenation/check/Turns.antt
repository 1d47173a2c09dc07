-- The loops over the kept components of a concatenation: one turn, and the end.
use Rattle.std.specs.Prelude.{◌+◌, ◌-◌, ◌&&◌, ◌∷◌}
use Rattle.std.proofs.Common.{◌≡◌, ◌<◌, ◌≤◌, sym, ap, ◌∙◌, add-zero, zero-add, add-one, arith, length-drop, eq-eqb, ne_eqb}
use Rattle.definition.specs.Prelude.{ℕ, suc, Bool, true, false, not, List, [], length, drop, eqb}
use Rattle.definition.specs.Basics.{Result, ok, Refusal, refused, ◌>>=◌, with_places, is_empty}
use Rattle.definition.specs.Component as Def
use Rattle.definition.specs.Image.{Placed}
use Rattle.definition.specs.Concatenation.{Running, unchecked, add_width, check_type, check_from, check, is_static_literal, merge}
use Rattle.laws.specs.Results.{bind_assoc}
use Rattle.stages.specs.component.Values.{Ordered, TypeFits}
use Rattle.stages.specs.concatenation.Check.{concatenation_with}
use Rattle.stages.specs.concatenation.running_check.Running.{step_of, finish_of, kept_of, verdict_of, advanced_as}
use Rattle.stages.specs.declared.component.types.ComponentType.{ComponentType}
use Rattle.stages.specs.declared.component.types.ComponentType.TheVariants as T
use Rattle.stages.specs.ranges.Values.{Tree}
use Rattle.stages.proofs.Lists.{end_at}
use Rattle.stages.proofs.concatenation.check.Counts.{one_more_if, count_from, merge_length}

pub ordered : (image : List ℕ) (t : Tree) (base : ℕ) (c : ComponentType) → TypeFits image t base c → Ordered c
ordered image t base (T.Literal b) h = h.order
ordered image t base (T.Variable p) h = tt
ordered image t base T.Filler h = tt

-- whether the component behind k is the last
last_is : {A : Type 0} (cs : List A) (k n : ℕ) → length cs ≡ n → k < n → eqb (k + 1) n ≡ is_empty (drop (k + 1) cs)
last_is {A} cs k n e l = go (drop (k + 1) cs) (length-drop (k + 1) cs)
  where
    go : (d : List A) → length d ≡ length cs - (k + 1) → eqb (k + 1) n ≡ is_empty d
    go [] h = eq-eqb (k + 1) n (omega (arith, h, e, l))
    go (x ∷ d) h = ne_eqb (k + 1) n (λ q. absurd (omega (arith, h, e, q)))

-- ---- the running check

kept_ok : (m : Result Running) (r r' : Running) → r' ≡ kept_of r m → ok tt ≡ verdict_of m → m ≡ ok r'
kept_ok (ok x) r r' h e = ap ok (sym h)
kept_ok (refused q) r r' h e = let z : ◌≡◌ {A = ℕ} 0 1 = cc in absurd (omega arith)

stopped : (m : Result Running) (q : Refusal) → refused q ≡ verdict_of m → m ≡ refused q
stopped (ok x) q e = let z : ◌≡◌ {A = ℕ} 0 1 = cc in absurd (omega arith)
stopped (refused w) q e = cc

module _ (i k n : ℕ) (cs : List (Placed Def.Component)) (p : Placed Def.Component) (here : drop k cs ≡ p ∷ drop (k + 1) cs) (long : length cs ≡ n) (l : k < n)
    (r r' : Running) where
  abbrev behind : Running → Result Running
  behind r₂ = check_from i (k + 1) (eqb (k + 1) 0) (drop (k + 1) cs) r₂

  abbrev stepped : Result Running
  stepped = step_of i k (eqb k 0) (eqb (k + 1) n) p.value r

  from_is : check_from i k (eqb k 0) (drop k cs) r ≡ (stepped >>= λ r₂. check_from i (k + 1) (eqb (k + 1) 0) (drop (k + 1) cs) r₂)
  unfolding check_from
  from_is =
      ap (λ l. check_from i k (eqb k 0) l r) here
      ∙ rw (last_is cs k n long l, ne_eqb (k + 1) 0 (λ e. absurd (omega arith)), add-one k)
      (bind_assoc (with_places i 0 (add_width p.value r))
      (λ r₁. with_places i k (check_type (not (eqb i 0)) (eqb k 0) (is_empty (drop (suc k) cs)) p.value r₁))
      (λ r₂. check_from i (suc k) false (drop (suc k) cs) r₂))

  pub check_on : (r', ok tt) ≡ advanced_as i k (eqb k 0) (eqb (k + 1) n) p.value r → behind r' ≡ check_from i k (eqb k 0) (drop k cs) r
  check_on e = sym (from_is ∙ ap (λ m. m >>= behind) (kept_ok stepped r r' (ap (λ x. x.0) e) (ap (λ x. x.1) e)))

  pub check_off : (q : Refusal) → (r', refused q) ≡ advanced_as i k (eqb k 0) (eqb (k + 1) n) p.value r → check_from i k (eqb k 0) (drop k cs) r ≡ refused q
  check_off q e = from_is ∙ ap (λ m. m >>= behind) (stopped stepped q (ap (λ x. x.1) e))

-- ---- the whole check, by the running check over all

module _ (i : ℕ) (cs : List (Placed Def.Component)) where
  pub checked_off : (q : Refusal) → check_from i 0 true cs unchecked ≡ refused q → refused q ≡ check i cs
  unfolding check
  checked_off q h = rw h

  module _ (k n : ℕ) (r : Running) (long : length cs ≡ n) (l : n ≤ k) (all : check_from i k (eqb k 0) (drop k cs) r ≡ check_from i 0 true cs unchecked) where
    over : check_from i 0 true cs unchecked ≡ ok r
    unfolding check_from
    over = sym all ∙ ap (λ d. check_from i k (eqb k 0) d r) (end_at cs k n long l)

    pub checked_end : (m : Result Unit) → m ≡ finish_of i r → (m >>= λ _. ok (concatenation_with cs r)) ≡ check i cs
    unfolding check
    checked_end m e = rw (over, e)

-- ---- the count after merging

module _ (k : ℕ) (cs : List (Placed Def.Component)) (p : Placed Def.Component) (here : drop k cs ≡ p ∷ drop (k + 1) cs) where
  pub count_on : (m m' : ℕ) (was now : Bool) → now ≡ is_static_literal p.value → m' ≡ m + one_more_if was now
      → m + count_from was (drop k cs) ≡ length (merge cs) → m' + count_from now (drop (k + 1) cs) ≡ length (merge cs)
  unfolding count_from
  count_on m m' was now t e h =
      let one = one_more_if was now in
      let rest = count_from now (drop (k + 1) cs) in
      let g : m + count_from was (p ∷ drop (k + 1) cs) ≡ length (merge cs) = rw here at h in
      let b : m + one + rest ≡ m + (one + rest) = omega arith in
      rw e (b ∙ rw (← t) at g)

pub count_start : (cs : List (Placed Def.Component)) → 0 + count_from false cs ≡ length (merge cs)
count_start cs = rw zero-add (sym (merge_length cs))

pub count_end : (cs : List (Placed Def.Component)) (k n m : ℕ) (was : Bool) → length cs ≡ n → n ≤ k → m + count_from was (drop k cs) ≡ length (merge cs)
    → m ≡ length (merge cs)
unfolding count_from
count_end cs k n m was e l h = let g : m + 0 ≡ length (merge cs) = rw (end_at cs k n e l) at h in sym (add-zero m) ∙ g

-- what is added where `was` and `now` are not both
pub added : (was now : Bool) (m : ℕ) → (was && now) ≡ false → m + 1 ≡ m + one_more_if was now
added was now m e = rw e

pub same : (was now : Bool) (m : ℕ) → (was && now) ≡ true → m ≡ m + one_more_if was now
same was now m e = rw e (sym (add-zero m))
