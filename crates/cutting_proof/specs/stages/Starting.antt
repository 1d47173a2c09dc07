-- The starting value depends on the most significant component of concatenation 0 only.
use Rattle.std.specs.Prelude.{◌≡◌, refl, ◌∷◌, ◌++◌}
use Rattle.std.proofs.Common.{◌∙◌, append-nil, append_assoc}
use Rattle.definition.specs.Prelude.{ℕ, suc, true, not, Option, none, some, List, []}
use Rattle.definition.specs.Basics.{Result, ok, ◌>>=◌, with_places, is_empty}
use Rattle.definition.specs.Refusals.{need, empty_after_colon}
use Rattle.definition.specs.Image.{Unparsed, Placed}
use Rattle.definition.specs.Text.{Part, part_of}
use Rattle.definition.specs.Component.{Prefix, prefix_of, starting_value, source}
use Rattle.cutting_proof.specs.stages.Keeping.{Keeps, bind_keeps, placed_keeps}

anywhere : (k k' : ℕ) (l : List (Placed Unparsed)) → Keeps (starting_value k l) (starting_value k' l)
unfolding starting_value
anywhere k k' [] = λ a q. q
anywhere k k' (u ∷ []) = go (prefix_of u.value)
  where
    after : Prefix → Result Unit
    after p = need (not (is_empty p.after)) empty_after_colon

    value : Prefix → Result (Option (Placed Part))
    value p = ok (some (record { base = u.base; value = part_of p.before }))

    go : (x : Option Prefix)
        → Keeps {A = Option (Placed Part)} (elim x [ none ↦ ok none | some p ↦ (with_places 0 k (after p) >>= λ _. value p) ])
        (elim x [ none ↦ ok none | some p ↦ (with_places 0 k' (after p) >>= λ _. value p) ])
    go none = λ a q. q
    go (some p) = bind_keeps (with_places 0 k (after p)) (with_places 0 k' (after p)) (λ _. value p) (λ _. value p) (placed_keeps 0 k 0 k' (after p) (after p) (λ a q. q)) (λ u a q. q)
anywhere k k' (u ∷ v ∷ l) = anywhere (suc k) (suc k') (v ∷ l)

-- lower components do not matter
without_lower : (k k' : ℕ) (l : List (Placed Unparsed)) (v : Placed Unparsed) (m : List (Placed Unparsed)) → Keeps (starting_value k (l ++ v ∷ m)) (starting_value k' (v ∷ m))
unfolding starting_value
without_lower k k' [] v m = anywhere k k' (v ∷ m)
without_lower k k' (u ∷ []) v m = anywhere (suc k) k' (v ∷ m)
without_lower k k' (u ∷ u' ∷ l) v m = without_lower (suc k) k' (u' ∷ l) v m

with_lower : (k k' : ℕ) (l : List (Placed Unparsed)) (v : Placed Unparsed) (m : List (Placed Unparsed)) → Keeps (starting_value k (v ∷ m)) (starting_value k' (l ++ v ∷ m))
unfolding starting_value
with_lower k k' [] v m = anywhere k k' (v ∷ m)
with_lower k k' (u ∷ []) v m = anywhere k (suc k') (v ∷ m)
with_lower k k' (u ∷ u' ∷ l) v m = with_lower k (suc k') (u' ∷ l) v m

-- Others stand in a component's place. Where that is the highest, the highest of them has its starting value.
list_starts : (l : List (Placed Unparsed)) (u : Placed Unparsed) (m : List (Placed Unparsed)) (v : Placed Unparsed) (h : List (Placed Unparsed))
    → (is_empty h ≡ true → starting_value 0 (v ∷ []) ≡ starting_value 0 (u ∷ [])) → Keeps (starting_value 0 (l ++ (u ∷ []) ++ h)) (starting_value 0 (l ++ (m ++ v ∷ []) ++ h))
list_starts l u m v [] e a q =
    rw (append-nil, ← append_assoc l m (v ∷ [])) (with_lower 0 0 (l ++ m) v [] a (e refl ∙ without_lower 0 0 l u [] a (rw append-nil at q)))
list_starts l u m v (w ∷ h) e a q = with_lower 0 0 (l ++ (m ++ v ∷ [])) w h a (without_lower 0 0 (l ++ (u ∷ [])) w h a q)

pub tree_starts : (cb : List (List (Placed Unparsed))) (l : List (Placed Unparsed)) (u : Placed Unparsed) (m : List (Placed Unparsed)) (v : Placed Unparsed) (h : List (Placed Unparsed))
    (ca : List (List (Placed Unparsed))) → (is_empty cb ≡ true → is_empty h ≡ true → starting_value 0 (v ∷ []) ≡ starting_value 0 (u ∷ []))
    → Keeps (starting_value 0 (source (cb ++ (l ++ (u ∷ []) ++ h) ∷ ca))) (starting_value 0 (source (cb ++ (l ++ (m ++ v ∷ []) ++ h) ∷ ca)))
tree_starts [] l u m v h ca e = list_starts l u m v h (e refl)
tree_starts (c ∷ cb) l u m v h ca e = λ a q. q
