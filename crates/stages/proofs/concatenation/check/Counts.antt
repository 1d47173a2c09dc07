-- The number of components after merging, counted from the first to the last.
use Rattle.std.specs.Prelude.{if◌then◌else◌, ◌+◌, ◌&&◌, ◌∷◌, ◌++◌}
use Rattle.std.proofs.Common.{◌≡◌, sym, refl, ◌∙◌, arith}
use Rattle.definition.specs.Component.{Component}
use Rattle.definition.specs.Image.{Placed}
use Rattle.definition.specs.Concatenation.{is_static_literal, bits_of, whole_literal, merge, merge_onto}
use Rattle.definition.specs.Prelude.{ℕ, suc, Bool, true, false, List, [], length}

-- a component counts unless it and the one before it are static literals
abbrev pub one_more_if : Bool → Bool → ℕ
one_more_if before literal = if before && literal then 0 else 1

-- `before`: whether the one before is a static literal
unfoldable pub count_from : Bool → List (Placed Component) → ℕ
count_from before [] = 0
count_from before (c ∷ rest) = one_more_if before (is_static_literal c.value) + count_from (is_static_literal c.value) rest

-- whether the first is a static literal
abbrev begins_static : List (Placed Component) → Bool
begins_static [] = false
begins_static (c ∷ rest) = is_static_literal c.value

-- a literal put onto others is one more, unless the first of them takes it in; it is static if it was
onto_length : (c : Placed Component) (m : List (Placed Component)) → length (merge_onto c m) ≡ one_more_if (is_static_literal c.value) (begins_static m) + length m
onto_length c [] = by_static (is_static_literal c.value)
  where
    by_static : (s : Bool) → 1 ≡ one_more_if s false + 0
    by_static true = refl
    by_static false = refl
onto_length c (d ∷ m) = by_both (is_static_literal c.value && is_static_literal d.value)
    (record { base = c.base; value = whole_literal (bits_of c.value ++ bits_of d.value) })
  where
    by_both : (t : Bool) (e : Placed Component) → length (if t then e ∷ m else c ∷ d ∷ m) ≡ (if t then 0 else 1) + suc (length m)
    by_both true e = omega arith
    by_both false e = omega arith

onto_static : (c : Placed Component) (m : List (Placed Component)) → begins_static (merge_onto c m) ≡ is_static_literal c.value
onto_static c [] = refl
onto_static c (d ∷ m) = by_static (is_static_literal c.value) (is_static_literal d.value) refl
  where
    by_static : (s t : Bool) → is_static_literal c.value ≡ s
        → begins_static (if s && t then record { base = c.base; value = whole_literal (bits_of c.value ++ bits_of d.value) } ∷ m else c ∷ d ∷ m) ≡ s
    by_static true true e = refl
    by_static true false e = e
    by_static false t e = e

merge_static : (cs : List (Placed Component)) → begins_static (merge cs) ≡ begins_static cs
unfolding merge
merge_static [] = refl
merge_static (c ∷ cs) = onto_static c (merge cs)

-- one more before those that are counted as if none came before them
count_after : (s : Bool) (cs : List (Placed Component)) → 1 + count_from s cs ≡ one_more_if s (begins_static cs) + count_from false cs
unfolding count_from
count_after false cs = refl
count_after true [] = refl
count_after true (c ∷ cs) = let x : ℕ = count_from (is_static_literal c.value) cs in omega arith

pub merge_length : (cs : List (Placed Component)) → length (merge cs) ≡ count_from false cs
unfolding merge count_from
merge_length [] = refl
merge_length (c ∷ cs) =
    onto_length c (merge cs) ∙ rw (merge_static cs, merge_length cs) (sym (count_after (is_static_literal c.value) cs))
