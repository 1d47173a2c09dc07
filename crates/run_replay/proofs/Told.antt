-- A listing that was written whole and whose bytes are those told is the one told. Assumes nothing.
use Rattle.std.specs.Prelude as Std
use Rattle.std.specs.Prelude.{Some, None}
use mathlib.Core.Path.{◌≡◌, refl, sym, ap, ◌∙◌}
use native.Mathlib.Omega.{arith}
use lib.Seq.{take-append_seam}
use Rattle.definition.specs.Prelude.{ℕ, Bool, true, false, List, length, take, drop, leb}
use Rattle.laws.specs.Tests.{leb_iff}
use Rattle.listing.specs.Outcomes.{filled, filled_fits, written_as}

pub told_whole : (L out out' told : List ℕ) (w : Std.Option ℕ) (n : ℕ) → out' ≡ filled out L → w ≡ written_as (length L) (length out)
    → w ≡ Some n → take n out' ≡ told → L ≡ told
told_whole L out out' told w n shows says is same = go (leb (length L) (length out)) refl
  where
    go : (t : Bool) → leb (length L) (length out) ≡ t → L ≡ told
    go true room =
        let whole : written_as (length L) (length out) ≡ Some (length L) = rw room refl in
        let both : Some n ≡ Some (length L) = sym is ∙ says ∙ whole in
        let size : n ≡ length L = cc in
        let front : take (length L) out' ≡ L =
        ap (take (length L)) (shows ∙ filled_fits out L ((leb_iff (length L) (length out)).0 room))
        ∙ take-append_seam L (drop (length L) out) in
        sym front ∙ ap (λ (m : ℕ). take m out') (sym size) ∙ same
    go false room =
        let cut : written_as (length L) (length out) ≡ None = rw room refl in
        let both : Some n ≡ None = sym is ∙ says ∙ cut in
        let z : ◌≡◌ {A = ℕ} 0 1 = cc in absurd (omega arith)
