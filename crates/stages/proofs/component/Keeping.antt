-- Components that are kept: none, those of two lists, one that is written, and what is written behind them.
use Rattle.std.specs.Prelude.{◌+◌, ◌∷◌, ◌++◌}
use Rattle.std.proofs.Common.{◌≡◌, ◌<◌, set, sym, refl, ap, ◌∙◌, subst, length-append}
use Rattle.std.proofs.Math.Seq.{take-add}
use Rattle.std.proofs.lemmas.List.{drop-drop, drop-take, drop-set}
use Rattle.definition.specs.Prelude.{ℕ, List, [], length, take, drop}
use Rattle.definition.specs.Image.{Placed}
use Rattle.definition.specs.Component as Def
use Rattle.stages.specs.ranges.Values.{Tree}
use Rattle.stages.specs.component.Kept.{Is, Are, KeptIn}
use Rattle.stages.specs.declared.component.types.Component.{Component}

module _ (image : List ℕ) (t : Tree) where
  are_join : (cs ds : List Component) (ps qs : List (Placed Def.Component)) → Are image t cs ps → Are image t ds qs → Are image t (cs ++ ds) (ps ++ qs)
  are_join [] ds [] qs h g = g
  are_join [] ds (p ∷ ps) qs h g = absurd h
  are_join (c ∷ cs) ds [] qs h g = absurd h
  are_join (c ∷ cs) ds (p ∷ ps) qs h g = (h.0, are_join cs ds ps qs h.1 g)

  pub kept_none : (kept : List Component) (k : ℕ) → KeptIn image t kept k []
  kept_none kept k = tt

  pub kept_both : (kept : List Component) (k : ℕ) (ps qs : List (Placed Def.Component)) → KeptIn image t kept k ps
      → KeptIn image t kept (k + length ps) qs → KeptIn image t kept k (ps ++ qs)
  kept_both kept k ps qs h g =
      let e : take (length (ps ++ qs)) (drop k kept) ≡ take (length ps) (drop k kept) ++ take (length qs) (drop (k + length ps) kept) =
      rw (length-append ps qs, take-add (length ps) (length qs) (drop k kept), drop-drop (length ps) k kept) refl in
      subst (λ l. Are image t l (ps ++ qs)) (sym e) (are_join _ _ ps qs h g)

  -- only what stands behind them changes
  pub kept_alike : (kept kept' : List Component) (k : ℕ) (ps : List (Placed Def.Component)) → KeptIn image t kept k ps
      → take (k + length ps) kept' ≡ take (k + length ps) kept → KeptIn image t kept' k ps
  kept_alike kept kept' k ps h e =
      subst (λ l. Are image t l ps) (sym (drop-take k (length ps) kept) ∙ ap (drop k) (sym e) ∙ drop-take k (length ps) kept') h

  -- one that is written, and then only what stands behind it changes
  pub kept_one : (kept kept' : List Component) (k : ℕ) (c : Component) (p : Placed Def.Component) → Is image t c p → k < length kept
      → take (k + 1) kept' ≡ take (k + 1) (set kept k c) → KeptIn image t kept' k (p ∷ [])
  kept_one kept kept' k c p h l e =
      let d : take 1 (drop k (set kept k c)) ≡ c ∷ [] = ap (take 1) (drop-set kept k c l) in
      kept_alike (set kept k c) kept' k (p ∷ []) (subst (λ x. Are image t x (p ∷ [])) (sym d) (h, tt)) e
