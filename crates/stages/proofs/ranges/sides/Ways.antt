-- The two sides of a bound's sign: one law for each way through the code.
use Rattle.std.specs.Prelude as Std
use Rattle.std.specs.Prelude.{Some, None, Ok, ◌+◌, ◌^◌, if◌then◌else◌}
use Rattle.errors.specs.declared.reasons.Reason.{Reason}
use Rattle.std.proofs.Common.{◌≡◌, ◌<◌, ◌≤◌, sym, ap, ◌∙◌, subst, arith}
use Rattle.definition.specs.Prelude.{ℕ, Bool, Option, none, some, List, eqb, get_or, ℤ, pos}
use Rattle.definition.specs.Basics.{Result, ok}
use Rattle.definition.specs.Numbers.{narrow}
use Rattle.definition.specs.Refusals.{bound_overflow}
use Rattle.definition.specs.Text as Text
use Rattle.definition.specs.Ranges as Ranges
use Rattle.definition.specs.Ranges.{number_in, side}
use Rattle.numbers.specs.Value.{value_of, option_of}
use Rattle.numbers.specs.declared.I128.{I128}
use Rattle.stages.specs.token_tree.Parts.{no_part, part_by, part_of, PartFits}
use Rattle.stages.specs.ranges.Values.{zero_i, new_by, UsbReads}
use Rattle.stages.specs.ranges.Sides.{bound_of, summed, moved_by, text_kept, join_parts, text_in, sides_in, Between}
use Rattle.stages.specs.declared.token_tree.types.Part.{Part}
use Rattle.stages.specs.declared.token_tree.types.Tree.{Tree}
use Rattle.stages.specs.declared.ranges.types.Usb.{Usb}
use Rattle.stages.proofs.token_tree.Written.{no_text_is, none_fits}
use Rattle.stages.proofs.ranges.Bounds.{zero_value}
use Rattle.stages.proofs.ranges.sides.Texts.{part_fits}

-- the number of a side that was read
number_is : (q : Std.Option I128) (v : I128) {m : Option ℤ} → option_of q ≡ m → q ≡ Some v → m ≡ some (value_of v)
number_is q v e h = sym e ∙ ap option_of h

number_none : (q : Std.Option I128) {m : Option ℤ} → option_of q ≡ m → q ≡ None → m ≡ none
number_none q e h = sym e ∙ ap option_of h

-- the definition's ways
side_number : (p : Text.Part) (v : ℤ) → number_in p ≡ some v → side p ≡ Ranges.val v
side_number p v e = rw (e, side)

side_text : (p : Text.Part) → number_in p ≡ none → side p ≡ Ranges.text p (pos 0)
side_text p e = rw (e, side)

bound_is : (a b : Text.Part) (o : Option ℤ) (z : ℤ) → a ≡ b → o ≡ narrow z → bound_of a o ≡ Ranges.with_x bound_overflow b z
bound_is a b o z p q = rw (p, q)

kept_none : (original before kept : Text.Part) → number_in before ≡ none → ok (Ranges.text original (pos 0)) ≡ text_kept original before kept
kept_none original before kept e = rw (e, text_kept)

module _ (original before after kept : Text.Part) (negative : Bool) where
  join_moved : (r : ℤ) → number_in after ≡ some r → moved_by (side before) negative r ≡ join_parts original before after kept negative
  join_moved r e = rw (e, join_parts)

  join_kept : number_in after ≡ none → text_kept original before kept ≡ join_parts original before after kept negative
  join_kept e = rw (e, join_parts)

module _ (image : List ℕ) (t : Tree) (base : ℕ) where
  -- an answer that holds a text and a number
  pub made : (s : Part) (x : I128) {m : Result Ranges.Usb} → PartFits image t base s → x.low < 2 ^ 64 → x.high < 2 ^ 64
      → ok (Ranges.text (part_of image t base s) (value_of x)) ≡ m → UsbReads image t base (Ok (record { s = s; x = x })) m
  made s x f l h e = record { is = e; held = record { part = f; low = l; high = h } }

  pub made_new : (s : Part) (u : Usb) {m : Result Ranges.Usb} → u ≡ new_by s → PartFits image t base s
      → ok (Ranges.text (part_of image t base s) (pos 0)) ≡ m → UsbReads image t base (Ok u) m
  made_new s u {m} q f e =
      rw q (made s zero_i f (omega arith) (omega arith) (ap (λ z. ok (Ranges.text (part_of image t base s) z)) zero_value ∙ e))

  -- ---- number_right: the left side a number, or a text

  module _ (q : Std.Result Usb Reason) (part : Part) (s p : ℕ) (l j : Std.Option I128) (negative : Bool) (r : I128) (b : Between image t base s p)
      (e : option_of l ≡ number_in (text_in image t base s p))
      (w : PartFits image t base part → UsbReads image t base q (bound_of (part_of image t base part) (option_of j))) where
    abbrev moved : Result Ranges.Usb
    moved = moved_by (side (text_in image t base s p)) negative (value_of r)

    pub right_number : (x : I128) → l ≡ Some x → part ≡ no_part → option_of j ≡ narrow (summed negative (value_of x) (value_of r)) → UsbReads image t base q moved
    right_number x h g k =
        let f : PartFits image t base part = rw g (none_fits image t base (let m = b.room in omega (arith, m))) in
        subst (λ m. UsbReads image t base q m)
        (bound_is (part_of image t base part) Text.no_text (option_of j) (summed negative (value_of x) (value_of r))
        (ap (part_of image t base) g ∙ no_text_is image t base) k
        ∙ ap (λ u. moved_by u negative (value_of r)) (sym (side_number (text_in image t base s p) (value_of x) (number_is l x e h)))) (w f)

    pub right_text : (x : I128) → l ≡ None → part ≡ part_by s p → x ≡ zero_i
        → option_of j ≡ narrow (summed negative (value_of x) (value_of r)) → UsbReads image t base q moved
    right_text x h g z k =
        let f : PartFits image t base part = rw g (part_fits image t base s p b) in
        subst (λ m. UsbReads image t base q m)
        (bound_is (part_of image t base part) (text_in image t base s p) (option_of j) (summed negative (pos 0) (value_of r)) (ap (part_of image t base) g)
        (k ∙ ap (λ v. narrow (summed negative v (value_of r))) (ap value_of z ∙ zero_value))
        ∙ ap (λ u. moved_by u negative (value_of r)) (sym (side_text (text_in image t base s p) (number_none l e h)))) (w f)

  -- ---- text_right

  module _ (s p e : ℕ) (l : Std.Option I128) (negative : Bool) (b : Between image t base s e) (o : s ≤ p) (below : p < e)
      (n : option_of l ≡ number_in (text_in image t base s p)) where
    abbrev kept : Text.Part
    kept = if negative then text_in image t base p e else text_in image t base (p + 1) e

    pub kept_whole : (part : Part) (u : Usb) → l ≡ None → part ≡ part_by s e → u ≡ new_by part
        → UsbReads image t base (Ok u) (text_kept (text_in image t base s e) (text_in image t base s p) kept)
    kept_whole part u h g d = made_new part u d (rw g (part_fits image t base s e b))
        (ap (λ y. ok (Ranges.text (part_of image t base y) (pos 0))) g ∙ kept_none (text_in image t base s e) (text_in image t base s p) kept (number_none l n h))

  -- ---- sides

  module _ (q : Std.Result Usb Reason) (s p e b : ℕ) (r : Std.Option I128) (eb : b ≡ get_or image (t.text + p) 0)
      (n : option_of r ≡ number_in (text_in image t base (p + 1) e)) where
    abbrev kept_by : Bool → Text.Part
    kept_by negative = if negative then text_in image t base p e else text_in image t base (p + 1) e

    abbrev minus : Bool
    minus = eqb (get_or image (t.text + p) 0) 45

    pub sides_number : (x : I128) → r ≡ Some x → UsbReads image t base q (moved_by (side (text_in image t base s p)) (eqb b 45) (value_of x))
        → UsbReads image t base q (sides_in image t base p s e)
    sides_number x h u =
        subst (λ m. UsbReads image t base q m)
        (ap (λ y. moved_by (side (text_in image t base s p)) (eqb y 45) (value_of x)) eb
        ∙ join_moved (text_in image t base s e) (text_in image t base s p) (text_in image t base (p + 1) e) (kept_by minus) minus (value_of x) (number_is r x n h)) u

    pub sides_text : r ≡ None → UsbReads image t base q (text_kept (text_in image t base s e) (text_in image t base s p) (kept_by (eqb b 45)))
        → UsbReads image t base q (sides_in image t base p s e)
    sides_text h u =
        subst (λ m. UsbReads image t base q m)
        (ap (λ y. text_kept (text_in image t base s e) (text_in image t base s p) (kept_by (eqb y 45))) eb
        ∙ join_kept (text_in image t base s e) (text_in image t base s p) (text_in image t base (p + 1) e) (kept_by minus) minus (number_none r n h)) u
