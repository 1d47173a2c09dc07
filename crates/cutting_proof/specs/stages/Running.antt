-- Stage 3 of a list with cut literals: the running check accepts it with the same result.
use Rattle.std.specs.Prelude.{◌≡◌, ◌≤◌, ◌<◌, ◌+◌, ◌-◌, ◌^◌, ◌∷◌}
use Rattle.std.proofs.Common.{sym, ap, ◌∙◌, add-zero, add_assoc, le_trans, arith, ltb-true, lt-ltb}
use Rattle.definition.specs.Prelude.{ℕ, suc, Bool, true, false, not, Option, none, some, List, length, ltb, eqb, pos}
use Rattle.definition.specs.Basics.{Result, ok, ◌>>=◌, with_places, is_empty, same_bytes}
use Rattle.definition.specs.Numbers.{half128}
use Rattle.definition.specs.Refusals.{need, sum_overflow, literal_in_sink}
use Rattle.definition.specs.Image.{Placed}
use Rattle.definition.specs.Ranges.{static_width}
use Rattle.definition.specs.Component.{Component}
use Rattle.definition.specs.Concatenation.{Running, add_width, check_type, check_from}
use Rattle.cutting_proof.specs.component.Statement.{cut_to}
use Rattle.cutting_proof.specs.stages.Statement.{bits_between}
use Rattle.cutting_proof.specs.stages.Cuts.{Cuts, done, keep, cut, cuts_empty}
use Rattle.laws.specs.Numbers.{small_fits}
use Rattle.laws.specs.Results.{bind_ok, placed_ok, need_ok}
use Rattle.cutting_proof.specs.stages.Keeping.{Keeps, bind_keeps, placed_keeps}

pub width_known : (bits : List ℕ) (c d : ℕ) → d - c ≤ 4096 → static_width (cut_to bits c d).range ≡ some (pos (d - c))
unfolding same_bytes
width_known bits c d h = rw (add-zero (d - c), lt-ltb (d - c) half128 (small_fits (d - c) h))

-- a known width is added to the sum
abbrev widened : ℕ → Running → Result Running
widened n r =
    elim r.width [
      | none ↦ ok (record { width = none; align = r.align; deterministic = r.deterministic; nonzero = true })
      | some m ↦ (need (ltb (m + n) (2 ^ 64)) sum_overflow >>= λ _. ok (record { width = some (m + n); align = r.align; deterministic = r.deterministic; nonzero = true }))
    ]

literal_width_lem : (bits : List ℕ) (c d : ℕ) (r : Running) → d - c ≤ 4096 → add_width (cut_to bits c d) r ≡ widened (d - c) r
literal_width_lem bits c d r h = rw (width_known bits c d h, add_width)

-- two widths are added where their sum is: partial sums stay below the total
widened_twice : (n m : ℕ) (r : Running) → Keeps (widened (n + m) r) (widened n r >>= widened m)
widened_twice n m r r' = go r.width
  where
    after : Option ℕ → Running
    after w = record { width = w; align = r.align; deterministic = r.deterministic; nonzero = r.nonzero }

    summed : ℕ → Running
    summed k = record { width = some k; align = r.align; deterministic = r.deterministic; nonzero = true }

    total : (k : ℕ) → k + (n + m) < 2 ^ 64 → ok (summed (k + (n + m))) ≡ ok r' → (widened n (after (some k)) >>= widened m) ≡ ok r'
    total k h e = rw (lt-ltb (k + n) (2 ^ 64) (omega arith), lt-ltb (k + n + m) (2 ^ 64) (omega arith), add_assoc k n m) e

    go : (w : Option ℕ) → widened (n + m) (after w) ≡ ok r' → (widened n (after w) >>= widened m) ≡ ok r'
    go none h = h
    go (some k) h =
        let (u, q, e) = bind_ok (need (ltb (k + (n + m)) (2 ^ 64)) sum_overflow) (λ _. ok (summed (k + (n + m)))) h in
        total k (ltb-true (k + (n + m)) (2 ^ 64) (need_ok (ltb (k + (n + m)) (2 ^ 64)) sum_overflow q)) e

-- A component in front of two lists, where the check of the second keeps that of the first.
same_front : (i k k' : ℕ) (first : Bool) (c : Placed Component) (cs ds : List (Placed Component)) → is_empty cs ≡ is_empty ds
    → ((r : Running) → Keeps (check_from i (suc k) false cs r) (check_from i (suc k') false ds r))
    → (r : Running) → Keeps (check_from i k first (c ∷ cs) r) (check_from i k' first (c ∷ ds) r)
unfolding check_from
same_front i k k' first c cs ds e h r =
    bind_keeps (with_places i 0 (add_width c.value r)) (with_places i 0 (add_width c.value r)) _ _ (λ a q. q)
    λ r₁. bind_keeps _ _ _ _ (placed_keeps i k i k' _ _ (λ a q. sym (ap (λ (s : Bool). check_type (not (eqb i 0)) first s c.value r₁) e) ∙ q)) h

-- what the check of a literal in front says of its lowest piece, and of what is left of the literal
record Left (i k : ℕ) (bits : List ℕ) (a p b : ℕ) (cs : List (Placed Component)) (r r' : Running) : Type 0 where
  r₀ : Running
  no_sink : not (not (eqb i 0)) ≡ true
  piece : add_width (cut_to bits a p) r ≡ ok r₀
  left : check_from i k false (bits_between bits p b ∷ cs) r₀ ≡ ok r'

literal_left : (i k : ℕ) (first : Bool) (bits : List ℕ) (a p b : ℕ) (cs : List (Placed Component)) (r r' : Running) → a < p → p < b → b ≤ 4096
    → check_from i k first (bits_between bits a b ∷ cs) r ≡ ok r' → Left i k bits a p b cs r r'
unfolding check_from
literal_left i k first bits a p b cs r r' h₁ h₂ h₃ h =
    let (r₁, q₁, g₁) = bind_ok _ _ h in
    let (r₂, q₂, g₂) = bind_ok _ _ g₁ in
    let (u, q₃, g₃) = bind_ok _ _ (placed_ok i k _ q₂) in
    go r₁ r₂ (placed_ok i 0 _ q₁) (need_ok _ literal_in_sink q₃) g₃ g₂
  where
    built : (r₀ r₁ r₂ : Running) → widened (p - a) r ≡ ok r₀ → widened (b - p) r₀ ≡ ok r₁
        → not (not (eqb i 0)) ≡ true → r₁ ≡ r₂ → check_from i (suc k) false cs r₂ ≡ ok r' → Left i k bits a p b cs r r'
    built r₀ r₁ r₂ x y n e g =
        let y' : add_width (cut_to bits p b) r₀ ≡ ok r₁ = literal_width_lem bits p b r₀ (omega arith) ∙ y in
        record { r₀ = r₀; no_sink = n; piece = literal_width_lem bits a p r (omega arith) ∙ x; left = rw (y', n, e) g }

    go : (r₁ r₂ : Running) → add_width (cut_to bits a b) r ≡ ok r₁ → not (not (eqb i 0)) ≡ true → ok r₁ ≡ ok r₂ → check_from i (suc k) false cs r₂ ≡ ok r' → Left i k bits a p b cs r r'
    go r₁ r₂ q n e g =
        let sum : b - a ≡ p - a + (b - p) = omega arith in
        let w : widened (p - a + (b - p)) r ≡ ok r₁ = ap (λ (m : ℕ). widened m r) (sym sum) ∙ sym (literal_width_lem bits a b r (omega arith)) ∙ q in
        let (r₀, x, y) = bind_ok (widened (p - a) r) (widened (b - p)) (widened_twice (p - a) (b - p) r r₁ w) in
        built r₀ r₁ r₂ x y n (cc) g

-- the check of a cut list keeps that of the list, whatever places it would refuse with
pub cuts_check : {bits : List ℕ} → length bits ≤ 4096 → {cs ds : List (Placed Component)} → Cuts bits cs ds → (i k k' : ℕ) (first : Bool) (r : Running)
    → Keeps (check_from i k first cs r) (check_from i k' first ds r)
unfolding check_from
cuts_check small done i k k' first r r' h = h
cuts_check {bits} small (keep {c} {cs} {ds} t) i k k' first r r' h =
    same_front i k k' first c cs ds (cuts_empty bits t) (λ r₂ r₃ g. cuts_check small t i (suc k) (suc k') false r₂ r₃ g) r r' h
cuts_check {bits} small (cut a p b {cs} {ds} h₁ h₂ h₃ t) i k k' first r r' h =
    go (literal_left i k first bits a p b cs r r' h₁ h₂ (le_trans h₃ small) h) (λ r₀ g. cuts_check small t i k (suc k') false r₀ r' g)
  where
    go : Left i k bits a p b cs r r' → ((r₀ : Running) → check_from i k false (bits_between bits p b ∷ cs) r₀ ≡ ok r' → check_from i (suc k') false ds r₀ ≡ ok r')
        → check_from i k' first (bits_between bits a p ∷ ds) r ≡ ok r'
    go l ih = rw (l.piece, l.no_sink) (ih l.r₀ l.left)
