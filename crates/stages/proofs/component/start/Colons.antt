-- The scan for a starting value's colon: what the loop keeps.
use Rattle.std.specs.Prelude as Std
use Rattle.std.specs.Prelude.{Some, None, ◌+◌, ◌-◌, ◌∷◌}
use Rattle.std.specs.Option.{is_some}
use Rattle.std.proofs.Common.{◌≡◌, ◌<◌, ◌≤◌, sym, refl, ap, ◌∙◌, arith, eq-eqb, ne_eqb}
use Rattle.definition.specs.Prelude.{ℕ, true, false, Option, none, some, List, []}
use Rattle.definition.specs.Text.{Item, is_token}
use Rattle.definition.specs.Component.{Prefix, beyond, split_colon}
use Rattle.stages.specs.token_tree.Table.{skip_in, single_of, start_or}
use Rattle.stages.specs.token_tree.Laid.{Laid, place_of}
use Rattle.stages.specs.component.Start.{colon_by, colon_place}
use Rattle.stages.specs.declared.token_tree.types.Tree.{Tree}
use Rattle.stages.specs.declared.token_tree.types.PBind.{PBind}
use Rattle.stages.proofs.Cases.{untrue}
use Rattle.stages.proofs.token_tree.Places.{laid_none, Step, laid_next, laid_from}

-- ---- the definition by its first items

colon_none : split_colon [] ≡ none
unfolding split_colon
colon_none = refl

colon_single : (i : Item) → is_token 58 i ≡ true → split_colon (i ∷ []) ≡ some (record { before = []; after = [] })
unfolding split_colon
colon_single i h = rw h refl

colon_then : (i j : Item) (l : List Item) → is_token 58 i ≡ true → is_token 58 j ≡ false → split_colon (i ∷ j ∷ l) ≡ some (record { before = []; after = j ∷ l })
unfolding split_colon
colon_then i j l h k = rw (h, k) refl

colon_double : (i j : Item) (l : List Item) → is_token 58 i ≡ true → is_token 58 j ≡ true → split_colon (i ∷ j ∷ l) ≡ beyond i (beyond j (split_colon l))
unfolding split_colon
colon_double i j l h k = rw (h, k) refl

colon_other : (i : Item) (l : List Item) → is_token 58 i ≡ false → split_colon (i ∷ l) ≡ beyond i (split_colon l)
unfolding split_colon
colon_other i [] h = rw h refl
colon_other i (j ∷ l) h = rw h refl

-- ---- the loop

some_none : {G : Type 0} {A : Type 0} {x : A} (o : Std.Option A) → o ≡ Some x → is_some o ≡ false → G
some_none None a y = let z : ◌≡◌ {A = ℕ} 0 1 = (let b = a in cc) in absurd (omega (arith, z))
some_none (Some x) a y = untrue (sym y)

module _ (image : List ℕ) (t : Tree) (base stop tail r : ℕ) where
  place_beyond : (at : ℕ) (i : Item) (o : Option Prefix) → colon_place image t at (beyond i o) ≡ colon_place image t (at + skip_in image t at) o
  unfolding place_of
  place_beyond at i none = refl
  place_beyond at i (some p) = refl

  place_here : (at : ℕ) (l : List Item) → Some (record { 0 = at }) ≡ colon_place image t at (some (record { before = []; after = l }))
  unfolding place_of
  place_here at l = refl

  -- no colon is open, or the one just before `at`
  pub data Seeing (is : List Item) (seen : Std.Option PBind) (at s : ℕ) : Type 0 where
    closed : (rest : List Item) → seen ≡ None → Laid image t base stop tail at s rest
        → colon_place image t r (split_colon is) ≡ colon_place image t at (split_colon rest) → Seeing is seen at s
    opening : (x : ℕ) (sign : Item) (rest : List Item) → is_token 58 sign ≡ true → seen ≡ Some (record { 0 = x }) → at ≡ x + skip_in image t x
        → Laid image t base stop tail at s rest → colon_place image t r (split_colon is) ≡ colon_place image t x (split_colon (sign ∷ rest))
        → Seeing is seen at s

  pub seeing_start : (is : List Item) (s u : ℕ) → Laid image t base stop tail r s is → u ≡ start_or image t r stop tail → Seeing is None r u
  seeing_start is s u h e =
      closed is refl (laid_from image t base stop tail r s u is e h) refl

  pub seeing_end : (is : List Item) (seen : Std.Option PBind) (at s : ℕ) → Seeing is seen at s → stop ≤ at → seen ≡ colon_place image t r (split_colon is)
  seeing_end is seen at s (closed rest a h e) l =
      let n = (laid_none image t base stop tail at s rest l h).0 in
      a ∙ sym (e ∙ ap (λ x. colon_place image t at (split_colon x)) n ∙ ap (colon_place image t at) colon_none)
  seeing_end is seen at s (opening x sign rest k a b h e) l =
      let n = (laid_none image t base stop tail at s rest l h).0 in
      a ∙ place_here x [] ∙ sym (e ∙ ap (λ y. colon_place image t x (split_colon (sign ∷ y))) n ∙ ap (colon_place image t x) (colon_single sign k))

  -- the item at `at`
  module _ (at s next u b : ℕ) (l : at < stop) (en : next ≡ at + skip_in image t at) (eu : u ≡ start_or image t next stop tail)
      (eb : b ≡ single_of image (t.text + s) (u - s)) where
    step : (rest : List Item) → Laid image t base stop tail at s rest → Step image t base stop tail at s next u rest
    step rest h = laid_next image t base stop tail at s next u rest l en eu h

    module _ (is : List Item) (seen : Std.Option PBind) where
      pub seeing_colon : (seen' : Std.Option PBind) → Seeing is seen at s → b ≡ 58 → seen' ≡ colon_by seen (record { 0 = at }) → Seeing is seen' next u
      seeing_colon seen' (closed rest a h e) z q =
          let p = step rest h in
          opening at p.item p.rest (p.token 58 b (omega arith) eb ∙ eq-eqb b 58 z) (q ∙ rw a refl) en p.laid
          (e ∙ ap (λ x. colon_place image t at (split_colon x)) p.parts)
      seeing_colon seen' (opening x sign rest k a c h e) z q =
          let p = step rest h in
          let d = colon_double sign p.item p.rest k (p.token 58 b (omega arith) eb ∙ eq-eqb b 58 z) in
          closed p.rest (q ∙ rw a refl) p.laid
          (e
          ∙ ap (λ y. colon_place image t x (split_colon (sign ∷ y))) p.parts
          ∙ ap (colon_place image t x) d
          ∙ place_beyond x sign (beyond p.item (split_colon p.rest))
          ∙ ap (λ y. colon_place image t y (beyond p.item (split_colon p.rest))) (sym c)
          ∙ place_beyond at p.item (split_colon p.rest)
          ∙ ap (λ y. colon_place image t y (split_colon p.rest)) (sym en))

      pub seeing_other : Seeing is seen at s → (b ≡ 58 → ⊥) → is_some seen ≡ false → Seeing is seen next u
      seeing_other (closed rest a h e) z y =
          let p = step rest h in
          closed p.rest a p.laid
          (e
          ∙ ap (λ x. colon_place image t at (split_colon x)) p.parts
          ∙ ap (colon_place image t at) (colon_other p.item p.rest (p.token 58 b (omega arith) eb ∙ ne_eqb b 58 z))
          ∙ place_beyond at p.item (split_colon p.rest)
          ∙ ap (λ x. colon_place image t x (split_colon p.rest)) (sym en))
      seeing_other (opening x sign rest k a c h e) z y = some_none seen a y

      pub seeing_found : Seeing is seen at s → (b ≡ 58 → ⊥) → is_some seen ≡ true → seen ≡ colon_place image t r (split_colon is)
      seeing_found (closed rest a h e) z y = untrue (rw a at y)
      seeing_found (opening x sign rest k a c h e) z y =
          let p = step rest h in
          a ∙ place_here x (p.item ∷ p.rest)
          ∙ sym (e
          ∙ ap (λ y. colon_place image t x (split_colon (sign ∷ y))) p.parts
          ∙ ap (colon_place image t x) (colon_then sign p.item p.rest k (p.token 58 b (omega arith) eb ∙ ne_eqb b 58 z)))
