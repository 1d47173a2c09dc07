-- Merging from left to right, as the code walks, is the definition's merging.
use Rattle.std.specs.Prelude.{◌≡◌, refl, ◌∷◌}
use Rattle.std.proofs.Common.{sym, ap, ◌∙◌, append_assoc}
use Rattle.definition.specs.Prelude.{true, false, none, some, List, []}
use Rattle.definition.specs.Image.{Placed}
use Rattle.definition.specs.Component.{Component}
use Rattle.definition.specs.Concatenation.{is_static_literal, bits_of, merge_onto, merge}
use Rattle.answer_facts.specs.fits.Fixed.{Fixed, AllFixed, none_left, one_more}
use Rattle.answer_facts.specs.merge.Runs.{Run, literal_of, longer, closed, merge_from, from_static, from_other, from_end}
use Rattle.laws.specs.Tests.{by_test}

abbrev onto : Run → List (Placed Component) → List (Placed Component)
onto none ms = ms
onto (some b) ms = merge_onto (literal_of b) ms

other_onto : (c : Placed Component) (ms : List (Placed Component)) → is_static_literal c.value ≡ false → merge_onto c ms ≡ c ∷ ms
other_onto c [] t = refl
other_onto c (d ∷ ms) t = rw t

closed_onto : (o : Run) (c : Placed Component) (ms : List (Placed Component)) → is_static_literal c.value ≡ false
    → closed o (c ∷ ms) ≡ onto o (c ∷ ms)
closed_onto none c ms t = refl
closed_onto (some b) c ms t = rw t

-- one literal, and then another, before what is merged
longer_onto : (o : Run) (c : Placed Component) (ms : List (Placed Component)) → Fixed c → is_static_literal c.value ≡ true
    → merge_onto (literal_of (longer o c)) ms ≡ onto o (merge_onto c ms)
longer_onto none c ms f t =
    let e : literal_of (longer none c) ≡ c = ap (λ (v : Component). record { base = c.base; value = v }) (sym (f.fixed t)) in
    ap (λ (x : Placed Component). merge_onto x ms) e
longer_onto (some b) c [] f t = rw t
longer_onto (some b) c (d ∷ ms) f t =
    by_test (is_static_literal d.value)
    (λ u. rw (t, u, append_assoc b.value (bits_of c.value) (bits_of d.value)))
    (λ u. rw (t, u, t))

pub merge_from_lem : (o : Run) (cs : List (Placed Component)) → AllFixed cs → merge_from o cs ≡ onto o (merge cs)
unfolding merge
merge_from_lem none [] none_left = from_end none
merge_from_lem (some b) [] none_left = from_end (some b)
merge_from_lem o (c ∷ cs) (one_more f fs) =
    by_test (is_static_literal c.value)
    (λ t. from_static o c cs t ∙ merge_from_lem (some (longer o c)) cs fs ∙ longer_onto o c (merge cs) f t)
    (λ t. from_other o c cs t
    ∙ ap (λ (ms : List (Placed Component)). closed o (c ∷ ms)) (merge_from_lem none cs fs)
    ∙ closed_onto o c (merge cs) t
    ∙ ap (onto o) (sym (other_onto c (merge cs) t)))
