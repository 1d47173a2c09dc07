-- Kept components and the placed ones that they are, and concatenations likewise, one by one: how many, and the one at a place.
use Rattle.std.specs.Prelude.{◌+◌, ◌∷◌, ◌++◌}
use Rattle.std.proofs.Common.{◌≡◌, ◌<◌, refl, ap, ◌∙◌, add-one, arith, drop-drop}
use Rattle.definition.specs.Prelude.{ℕ, zero, suc, List, [], length, get_or, take, drop}
use Rattle.definition.specs.Component as Def
use Rattle.definition.specs.Image.{Placed}
use Rattle.definition.specs.Concatenation.{Concatenation}
use Rattle.stages.specs.ranges.Values.{Tree}
use Rattle.stages.specs.component.Kept.{Is, Are, KeptIn}
use Rattle.stages.specs.concatenation.Heads.{HeadIs, HeadsAre}
use Rattle.stages.specs.declared.component.types.Component.{Component}
use Rattle.stages.specs.declared.concatenation.stage3.Concatenation.{Concatenation as Now}

-- one further in a longer list
further : {A : Type 0} (x a : A) (l : List A) (k : ℕ) → drop k l ≡ x ∷ drop (k + 1) l → drop k l ≡ x ∷ drop (suc k + 1) (a ∷ l)
further x a l k e = let n : drop (k + 1) l ≡ drop (suc k + 1) (a ∷ l) = rw (add-one k, add-one (suc k)) in e ∙ ap (λ r. x ∷ r) n

module _ (image : List ℕ) (t : Tree) where
  pub are_length : (cs : List Component) (ps : List (Placed Def.Component)) → Are image t cs ps → length cs ≡ length ps
  are_length [] [] h = refl
  are_length [] (p ∷ ps) h = absurd h
  are_length (c ∷ cs) [] h = absurd h
  are_length (c ∷ cs) (p ∷ ps) h = ap suc (are_length cs ps h.1)

  -- the k-th
  pub record Kth (k : ℕ) (cs : List Component) (ps : List (Placed Def.Component)) : Type 0 where
    pub one : Placed Def.Component
    pub rest : drop k ps ≡ one ∷ drop (k + 1) ps
    pub is : (d : Component) → Is image t (get_or cs k d) one

  pub kth : (cs : List Component) (ps : List (Placed Def.Component)) (k : ℕ) → Are image t cs ps → k < length cs → Kth k cs ps
  kth [] ps k h l = absurd (omega arith)
  kth (c ∷ cs) [] k h l = absurd h
  kth (c ∷ cs) (p ∷ ps) zero h l = record { one = p; rest = refl; is = λ d. h.0 }
  kth (c ∷ cs) (p ∷ ps) (suc k) h l =
      let r = kth cs ps k h.1 (omega arith) in
      record { one = r.one; rest = further r.one p ps k r.rest; is = r.is }

-- those of one list, then those of another
module _ (image : List ℕ) (t : Tree) where
  are_front : (l : List Component) (ps qs : List (Placed Def.Component)) → Are image t (take (length (ps ++ qs)) l) (ps ++ qs)
      → Are image t (take (length ps) l) ps
  are_front l [] qs h = tt
  are_front [] (p ∷ ps) qs h = absurd h
  are_front (c ∷ l) (p ∷ ps) qs h = (h.0, are_front l ps qs h.1)

  are_back : (l : List Component) (ps qs : List (Placed Def.Component)) → Are image t (take (length (ps ++ qs)) l) (ps ++ qs)
      → Are image t (take (length qs) (drop (length ps) l)) qs
  are_back l [] qs h = h
  are_back [] (p ∷ ps) qs h = absurd h
  are_back (c ∷ l) (p ∷ ps) qs h = are_back l ps qs h.1

  module _ (kept : List Component) (k : ℕ) (ps qs : List (Placed Def.Component)) (h : KeptIn image t kept k (ps ++ qs)) where
    pub kept_first : KeptIn image t kept k ps
    kept_first = are_front (drop k kept) ps qs h

    pub kept_then : KeptIn image t kept (k + length ps) qs
    kept_then = rw (drop-drop (length ps) k kept) at (are_back (drop k kept) ps qs h)

module _ (image : List ℕ) (kept : List Component) where
  pub heads_length : (xs : List Now) (ds : List Concatenation) → HeadsAre image kept xs ds → length xs ≡ length ds
  heads_length [] [] h = refl
  heads_length [] (d ∷ ds) h = absurd h
  heads_length (x ∷ xs) [] h = absurd h
  heads_length (x ∷ xs) (d ∷ ds) h = ap suc (heads_length xs ds h.1)

  -- the i-th
  pub record Ith (i : ℕ) (xs : List Now) (ds : List Concatenation) : Type 0 where
    pub one : Concatenation
    pub rest : drop i ds ≡ one ∷ drop (i + 1) ds
    pub is : (e : Now) → HeadIs image kept (get_or xs i e) one

  pub ith : (xs : List Now) (ds : List Concatenation) (i : ℕ) → HeadsAre image kept xs ds → i < length xs → Ith i xs ds
  ith [] ds i h l = absurd (omega arith)
  ith (x ∷ xs) [] i h l = absurd h
  ith (x ∷ xs) (d ∷ ds) zero h l = record { one = d; rest = refl; is = λ e. h.0 }
  ith (x ∷ xs) (d ∷ ds) (suc i) h l =
      let r = ith xs ds i h.1 (omega arith) in
      record { one = r.one; rest = further r.one d ds i r.rest; is = r.is }

  -- one more behind
  pub heads_more : (xs : List Now) (ds : List Concatenation) (x : Now) (d : Concatenation) → HeadsAre image kept xs ds → HeadIs image kept x d
      → HeadsAre image kept (xs ++ (x ∷ [])) (ds ++ (d ∷ []))
  heads_more [] [] x d h g = (g, tt)
  heads_more [] (e ∷ ds) x d h g = absurd h
  heads_more (y ∷ xs) [] x d h g = absurd h
  heads_more (y ∷ xs) (e ∷ ds) x d h g = (h.0, heads_more xs ds x d h.1 g)
