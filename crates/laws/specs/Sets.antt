-- Laws of a run of values written into a list (lib.Seq, sets): next to what was written, past the end, from the front, at two places, and
-- into the part from a place on.
use Rattle.std.specs.Prelude.{◌≡◌, refl, ◌≤◌, ◌<◌, set, ◌+◌, ◌-◌, ◌∷◌, ◌++◌}
use Rattle.std.proofs.Common.{sym, ap, ◌∙◌, append-nil, add-zero, add-suc, suc-add, zero-add, arith, length-drop, take-append-drop, drop_of_length-le, set-set, take_all}
use Rattle.std.proofs.lemmas.List.Edits.{sets, sets-eq}
use Rattle.std.proofs.Math.Seq.{set_out}
use Rattle.std.proofs.lemmas.List.{set_comm, take-set-le, drop-set-add}
use Rattle.definition.specs.Prelude.{ℕ, suc, List, [], length, take, drop}

module _ {A : Type 0} where
  pub sets_append : (l : List A) (i : ℕ) (a b : List A) → sets (sets l i a) (i + length a) b ≡ sets l i (a ++ b)
  sets_append l i [] b = ap (λ (k : ℕ). sets l k b) (add-zero i)
  sets_append l i (x ∷ a) b = ap (λ (k : ℕ). sets (sets l i (x ∷ a)) k b) (add-suc i (length a) ∙ sym (suc-add i (length a))) ∙ sets_append (set l i x) (suc i) a b

  pub sets_past : (l : List A) (i : ℕ) (vs : List A) → length l ≤ i → sets l i vs ≡ l
  sets_past l i [] h = refl
  sets_past l i (a ∷ vs) h = ap (λ (l : List A). sets l (suc i) vs) (set_out l i a h) ∙ sets_past l (suc i) vs (omega arith)

  pub sets_front : (l bs : List A) → length bs ≤ length l → sets l 0 bs ≡ bs ++ drop (length bs) l
  sets_front l bs h = sets-eq bs l 0 (rw zero-add h) ∙ rw zero-add

  set_apart : (l : List A) (i : ℕ) (x : A) (j : ℕ) (b : List A) → i < j → sets (set l i x) j b ≡ set (sets l j b) i x
  set_apart l i x j [] h = refl
  set_apart l i x j (y ∷ b) h =
      ap (λ (m : List A). sets m (suc j) b) (set_comm l i j x y (λ e. omega arith)) ∙ set_apart (set l j y) i x (suc j) b (omega arith)

  -- the first run ends before the second begins
  pub sets_apart : (l : List A) (i : ℕ) (a : List A) (j : ℕ) (b : List A) → i + length a ≤ j → sets (sets l i a) j b ≡ sets (sets l j b) i a
  sets_apart l i [] j b h = refl
  sets_apart l i (x ∷ a) j b h =
      sets_apart (set l i x) (suc i) a j b (omega arith) ∙ ap (λ (m : List A). sets m (suc i) a) (set_apart l i x j b (omega arith))

  -- what stands before a place, and from there on
  pub take_sets : (l : List A) (i : ℕ) (vs : List A) (n : ℕ) → n ≤ i → take n (sets l i vs) ≡ take n l
  take_sets l i [] n h = refl
  take_sets l i (x ∷ vs) n h = take_sets (set l i x) (suc i) vs n (omega arith) ∙ take-set-le n l i x h

  pub drop_sets : (l : List A) (i j : ℕ) (vs : List A) → drop i (sets l (i + j) vs) ≡ sets (drop i l) j vs
  drop_sets l i j [] = refl
  drop_sets l i j (x ∷ vs) =
      ap (λ (k : ℕ). drop i (sets (set l (i + j) x) k vs)) (sym (add-suc i j))
      ∙ drop_sets (set l (i + j) x) i (suc j) vs
      ∙ ap (λ (m : List A). sets m (suc j) vs) (drop-set-add i l j x)

  -- a run over one that is no longer
  pub sets_over : (l : List A) (i : ℕ) (a b : List A) → length a ≤ length b → sets (sets l i a) i b ≡ sets l i b
  sets_over l i [] b h = refl
  sets_over l i (x ∷ a) [] h = absurd (omega arith)
  sets_over l i (x ∷ a) (y ∷ b) h =
      ap (λ (m : List A). sets m (suc i) b)
      (sym (set_apart (set l i x) i y (suc i) a (omega arith)) ∙ ap (λ (m : List A). sets m (suc i) a) (set-set l i x y))
      ∙ sets_over (set l i y) (suc i) a b (omega arith)

  -- written at the front of the part from a place on, as a function that lends `&mut area[at..]` leaves it
  pub sets_from : (l part : List A) (at : ℕ) (vs : List A) → at ≤ length l → part ≡ sets (take (length l - at) (drop at l)) 0 vs
      → take at l ++ (part ++ drop (length l - at) (drop at l)) ≡ sets l at vs
  sets_from l part at vs h e =
      let d : length (drop at l) ≤ length l - at = let n = length-drop at l in omega arith in
      let none : drop (length l - at) (drop at l) ≡ [] = drop_of_length-le (drop at l) d in
      let new : part ≡ drop at (sets l at vs) =
      e ∙ ap (λ (m : List A). sets m 0 vs) (take_all (length l - at) (drop at l) d) ∙ sym (drop_sets l at 0 vs)
      ∙ ap (λ (k : ℕ). drop at (sets l k vs)) (add-zero at) in
      ap (λ (m : List A). take at l ++ (part ++ m)) none
      ∙ ap (λ (m : List A). take at l ++ m) (append-nil part ∙ new)
      ∙ ap (λ (m : List A). m ++ drop at (sets l at vs)) (sym (take_sets l at vs at (omega arith)))
      ∙ take-append-drop at (sets l at vs)
