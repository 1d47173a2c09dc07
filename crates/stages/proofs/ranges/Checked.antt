-- Stage 2 of a range, on the definition alone: both bounds, then the tests, and what the tests leave.
use Rattle.std.specs.Prelude.{◌&&◌}
use Rattle.std.proofs.Common.{◌≡◌, sym, refl, ◌∙◌, subst}
use Rattle.definition.specs.Prelude.{Bool, true, false, pos, lt_z, non_neg}
use Rattle.definition.specs.Basics.{Result, ok, refused, ◌>>=◌}
use Rattle.definition.specs.Refusals.{need, negative_bound, reversed, zero_width}
use Rattle.definition.specs.Ranges.{Usbr}
use Rattle.definition.specs.Component.{simplify_usb, simplify_end, simplify_range, if_static, if_static_end, if_known}
use Rattle.laws.specs.Results.{bind_ok, bind_assoc}
use Rattle.laws.specs.Tests.{and_iff}
use Rattle.stages.specs.ranges.Checks.{both_simple, checked_range, Positive}
use Rattle.stages.proofs.Cases.{never}

pub bind_same : {A B : Type 0} (m : Result A) {f g : A → Result B} → ((a : A) → f a ≡ g a) → (m >>= f) ≡ (m >>= g)
bind_same (ok a) h = h a
bind_same (refused q) h = refl

pub range_is : (v : Usbr) → (both_simple v >>= checked_range) ≡ simplify_range v
unfolding simplify_range
range_is v =
    sym (bind_assoc (simplify_usb v.start) (λ s. simplify_end v.«end» >>= λ e. ok (record { start = s; «end» = e })) checked_range)
    ∙ bind_same (simplify_usb v.start) (λ s. sym (bind_assoc (simplify_end v.«end») (λ e. ok (record { start = s; «end» = e })) checked_range))

passed : (v u : Usbr) (a b c : Bool) → (need a negative_bound >>= λ _. (need b reversed >>= λ _. (need c zero_width >>= λ _. ok v))) ≡ ok u
    → (a ≡ true) × (b ≡ true) × (v ≡ u)
passed v u true true true h = (refl, refl, cc)
passed v u true true false h = never h
passed v u true false c h = never h
passed v u false b c h = never h

pub checked_positive : (v u : Usbr) → checked_range v ≡ ok u → Positive u
checked_positive v u h =
    let f = passed v u (if_static non_neg v.start && if_static_end non_neg v) (if_known non_neg v) (if_known (lt_z (pos 0)) v) h in
    let g = (and_iff (if_static non_neg v.start) (if_static_end non_neg v)).0 f.0 in
    subst Positive f.2 (record { start = g.0; «end» = g.1; width = f.1 })

pub range_positive : (v u : Usbr) → simplify_range v ≡ ok u → Positive u
range_positive v u h = let f = bind_ok (both_simple v) checked_range (range_is v ∙ h) in checked_positive f.0 u f.2
