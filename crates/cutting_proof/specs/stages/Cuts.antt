-- A list of components with literals cut in places, and what every cut keeps: whether the list is empty, whether it has a component
-- of a sort that no literal is, and the merged list.
use Rattle.std.specs.Prelude.{◌≡◌, refl, ◌≤◌, ◌<◌, ◌&&◌, ◌||◌, ◌∷◌, ◌++◌}
use Rattle.std.proofs.Common.{sym, ap, ◌∙◌, append_assoc, arith, take-append-drop, take-take, length-take-le, ltb-true}
use Rattle.std.proofs.lemmas.List.{drop-append-le}
use Rattle.std.proofs.Math.Seq.{slice, length-slice}
use Rattle.definition.specs.Prelude.{ℕ, Bool, true, false, List, [], length, take, drop, ltb}
use Rattle.definition.specs.Basics.{is_empty}
use Rattle.definition.specs.Image.{Placed}
use Rattle.definition.specs.Ranges.{Usbr}
use Rattle.definition.specs.Component.{Component, literal}
use Rattle.definition.specs.Concatenation.{is_static_literal, merge_onto, merge}
use Rattle.cutting.specs.Statement.{rising, pieces_of}
use Rattle.cutting_proof.specs.stages.Statement.{bits_between, piece_components}

-- The second list is the first with literals of these bits cut: the lowest piece is cut off, and what is left may be cut on.
pub data Cuts (bits : List ℕ) : List (Placed Component) → List (Placed Component) → Type 0 where
  done : Cuts bits [] []
  keep : {c : Placed Component} {cs ds : List (Placed Component)} → Cuts bits cs ds → Cuts bits (c ∷ cs) (c ∷ ds)
  cut : (a p b : ℕ) {cs ds : List (Placed Component)} → a < p → p < b → b ≤ length bits → Cuts bits (bits_between bits p b ∷ cs) ds
      → Cuts bits (bits_between bits a b ∷ cs) (bits_between bits a p ∷ ds)

pub both : (s t : Bool) → (s && t) ≡ true → (s ≡ true) × (t ≡ true)
both true t h = (refl, h)
both false t h = (h, cc)

-- rising places rise: the first bound is below the last
pub rising_below : (a : ℕ) (places : List ℕ) (b : ℕ) → rising a places b ≡ true → a < b
unfolding rising
rising_below a [] b h = ltb-true a b h
rising_below a (p ∷ ps) b h =
    let (a<p, r) = both (ltb a p) (rising p ps b) h in
    let h₁ : a < p = ltb-true a p a<p in
    let h₂ : p < b = rising_below p ps b r in
    omega arith

module _ (bits : List ℕ) where
  pub uncut : (cs : List (Placed Component)) → Cuts bits cs cs
  uncut [] = done
  uncut (c ∷ cs) = keep (uncut cs)

  cut_front : (a : ℕ) (places : List ℕ) (b : ℕ) (h : List (Placed Component)) → rising a places b ≡ true → b ≤ length bits
      → Cuts bits (bits_between bits a b ∷ h) (piece_components bits a places b ++ h)
  unfolding pieces_of rising
  cut_front a [] b h r w = uncut (bits_between bits a b ∷ h)
  cut_front a (p ∷ ps) b h r w =
      let (a<p, r') = both (ltb a p) (rising p ps b) r in
      cut a p b (ltb-true a p a<p) (rising_below p ps b r') w (cut_front p ps b h r' w)

  -- the pieces stand in the literal's place
  pub cut_within : (l : List (Placed Component)) (a : ℕ) (places : List ℕ) (b : ℕ) (h : List (Placed Component))
      → rising a places b ≡ true → b ≤ length bits → Cuts bits (l ++ (bits_between bits a b ∷ []) ++ h) (l ++ piece_components bits a places b ++ h)
  cut_within [] a places b h r w = cut_front a places b h r w
  cut_within (c ∷ l) a places b h r w = keep (cut_within l a places b h r w)

  pub cuts_empty : {cs ds : List (Placed Component)} → Cuts bits cs ds → is_empty cs ≡ is_empty ds
  cuts_empty done = refl
  cuts_empty (keep k) = refl
  cuts_empty (cut a p b h₁ h₂ h₃ k) = refl

-- some component passes a test
unfoldable pub some_is : (Component → Bool) → List (Placed Component) → Bool
some_is t [] = false
some_is t (c ∷ cs) = t c.value || some_is t cs

-- a test that no literal passes
abbrev pub NoLiteral : (Component → Bool) → Type 0
NoLiteral t = (b : List ℕ) (r : Usbr) → t (record { c_type = literal b; range = r }) ≡ false

-- a literal in front changes nothing for such a test
literal_passed : (t : Component → Bool) → NoLiteral t → (bits : List ℕ) (c d : ℕ) (cs : List (Placed Component)) → some_is t (bits_between bits c d ∷ cs) ≡ some_is t cs
unfolding some_is
literal_passed t none bits c d cs = ap (λ (s : Bool). s || some_is t cs) (none _ _)

pub cuts_some : {bits : List ℕ} (t : Component → Bool) → NoLiteral t → {cs ds : List (Placed Component)} → Cuts bits cs ds → some_is t cs ≡ some_is t ds
unfolding some_is
cuts_some t none done = refl
cuts_some t none (keep {c} k) = ap (λ (s : Bool). t c.value || s) (cuts_some t none k)
cuts_some {bits} t none (cut a p b {cs} {ds} h₁ h₂ h₃ k) =
    literal_passed t none bits a b cs ∙ sym (literal_passed t none bits p b cs) ∙ cuts_some t none k ∙ sym (literal_passed t none bits a p ds)

-- slices next to each other
slices : (bits : List ℕ) (a p b : ℕ) → a ≤ p → p ≤ b → b ≤ length bits → slice a p bits ++ slice p b bits ≡ slice a b bits
slices bits a p b h₁ h₂ h₃ =
    let w : length (take p bits) ≡ p = length-take-le p bits (omega arith) in
    sym (drop-append-le a (take p bits) (slice p b bits) (omega arith))
    ∙ ap (drop a) (ap (λ (l : List ℕ). l ++ slice p b bits) (sym (take-take p b bits h₂)) ∙ take-append-drop p (take b bits))

-- two pieces next to each other merge to the whole, whatever stands above
merge_pieces : (bits : List ℕ) (a p b : ℕ) → a ≤ p → p ≤ b → b ≤ length bits → (m : List (Placed Component))
    → merge_onto (bits_between bits a b) m ≡ merge_onto (bits_between bits a p) (merge_onto (bits_between bits p b) m)
merge_pieces bits a p b h₁ h₂ h₃ [] = rw (slices bits a p b h₁ h₂ h₃, length-slice a b bits h₃)
merge_pieces bits a p b h₁ h₂ h₃ (d ∷ rest) = go (is_static_literal d.value) refl
  where
    go : (t : Bool) → is_static_literal d.value ≡ t → merge_onto (bits_between bits a b) (d ∷ rest) ≡ merge_onto (bits_between bits a p) (merge_onto (bits_between bits p b) (d ∷ rest))
    go true e = rw (e, ← slices bits a p b h₁ h₂ h₃, append_assoc)
    go false e = rw (e, slices bits a p b h₁ h₂ h₃, length-slice a b bits h₃)

pub cuts_merge : {bits : List ℕ} {cs ds : List (Placed Component)} → Cuts bits cs ds → merge cs ≡ merge ds
unfolding merge
cuts_merge done = refl
cuts_merge (keep {c} k) = ap (merge_onto c) (cuts_merge k)
cuts_merge {bits} (cut a p b {cs} h₁ h₂ h₃ k) = merge_pieces bits a p b (omega arith) (omega arith) h₃ (merge cs) ∙ ap (merge_onto (bits_between bits a p)) (cuts_merge k)
