-- Tests of a number that may be unknown: an end that is 0, a number above a literal's width.
use Rattle.std.specs.Prelude as Std
use Rattle.std.specs.Option.{MatchOption}
use Rattle.std.specs.Prelude.{Some, None}
use Rattle.std.proofs.Common.{◌≡◌, Bool, true, false, not, sym, ap, ◌∙◌}
use Rattle.definition.specs.Prelude.{ℕ, Option, List, ℤ, pos, le_z}
use Rattle.definition.specs.Component.{is_zero}
use Rattle.numbers.specs.Value.{option_of}
use Rattle.numbers.specs.declared.I128.{I128}
use Rattle.stages.specs.ranges.Values.{Tree, usb_of, end_of}
use Rattle.stages.specs.ranges.Checks.{passes, ends_in_zero}
use Rattle.stages.specs.declared.ranges.types.Usb.{Usb}

-- ---- an end that is 0

pub zero_by : (image : List ℕ) (t : Tree) (base : ℕ) (e : Std.Option Usb) (b : Bool)
    → MatchOption e (b ≡ false) (λ u. (image : List ℕ) (t : Tree) (base : ℕ) → b ≡ is_zero (usb_of image t base u))
    → b ≡ ends_in_zero (end_of image t base e)
zero_by image t base None b h = h
zero_by image t base (Some u) b h = h image t base

-- ---- above a width

flip : (x y : Bool) → x ≡ not y → y ≡ not x
flip x true h = ap not (sym h)
flip x false h = ap not (sym h)

-- a test that the code makes of a number, as the definition's
pub limit : (o : Std.Option I128) (z : Option ℤ) (w : ℕ) (b k : Bool) → option_of o ≡ z → b ≡ not (passes (λ x. le_z x (pos w)) (option_of o)) → b ≡ k
    → passes (λ x. le_z x (pos w)) z ≡ not k
limit o z w b k h f e =
    flip k (passes (λ x. le_z x (pos w)) z) (sym e ∙ f ∙ ap (λ (z : Option ℤ). not (passes (λ x. le_z x (pos w)) z)) h)
