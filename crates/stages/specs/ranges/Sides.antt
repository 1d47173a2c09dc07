-- The two sides of a bound's sign, by their texts.
use Rattle.std.specs.Prelude.{◌≡◌, ◌≤◌, refl, ◌+◌, ◌∷◌, ◌+ℤ◌, ◌-ℤ◌, if◌then◌else◌}
use Rattle.definition.specs.Prelude.{ℕ, Bool, Option, none, some, List, length, eqb, get_or, ℤ, pos}
use Rattle.definition.specs.Basics.{Result, ok}
use Rattle.definition.specs.Characters.{char}
use Rattle.definition.specs.Refusals.{refuse, bound_overflow, overflow}
use Rattle.definition.specs.Text.{Part, no_text, is_token, part_of}
use Rattle.definition.specs.Ranges.{Usb, Cut, text, with_x, number_in, side, join_sides}
use Rattle.stages.specs.token_tree.Parts as Parts
use Rattle.stages.specs.token_tree.Parts.{part_by}
use Rattle.stages.specs.declared.token_tree.types.Tree.{Tree}

-- the bound of a text and a number, where that fits 128 bits
abbrev pub bound_of : Part → Option ℤ → Result Usb
bound_of s o = elim o [ none ↦ refuse bound_overflow | some x ↦ ok (text s x) ]

abbrev pub summed : Bool → ℤ → ℤ → ℤ
summed negative l r = if negative then l -ℤ r else l +ℤ r

abbrev pub moved_by : Usb → Bool → ℤ → Result Usb
moved_by left negative r = with_x bound_overflow left.s (summed negative left.x r)

-- 20: a text that is the number v, added to x and emptied
abbrev pub moved_text : ℤ → ℤ → Result Usb
moved_text x v = with_x overflow no_text (x +ℤ v)

-- "`..=` adds 1 to x of the end if there is one"
abbrev pub raised_one : Usb → Result Usb
raised_one e = with_x bound_overflow e.s (e.x +ℤ pos 1)

-- where the right side is no number
abbrev pub text_kept : Part → Part → Part → Result Usb
text_kept original before kept = elim (number_in before) [ some l ↦ ok (text kept l) | none ↦ ok (text original (pos 0)) ]

-- the definition's, with the texts that it takes of a cut
abbrev pub join_parts : Part → Part → Part → Part → Bool → Result Usb
join_parts original before after kept negative =
    elim (number_in after) [ some r ↦ moved_by (side before) negative r | none ↦ text_kept original before kept ]

pub join_is : (original : Part) (c : Cut) →
    join_sides (text original (pos 0)) c
    ≡ join_parts original (part_of c.before) (part_of c.after)
    (if is_token char.minus c.sign then part_of (c.sign ∷ c.after) else part_of c.after) (is_token char.minus c.sign)
join_is original c = refl

-- the text from place s to place t, as a component's whose text begins at `base`
abbrev pub text_in : List ℕ → Tree → ℕ → ℕ → ℕ → Part
text_in image t base s e = Parts.part_of image t base (part_by s e)

-- cut at the sign at text place p: the left side from s, the right side up to e
abbrev pub sides_in : List ℕ → Tree → ℕ → ℕ → ℕ → ℕ → Result Usb
sides_in image t base p s e =
    let negative = eqb (get_or image (t.text + p) 0) char.minus in
    join_parts (text_in image t base s e) (text_in image t base s p) (text_in image t base (p + 1) e)
    (if negative then text_in image t base p e else text_in image t base (p + 1) e) negative

-- places of the text table in order, the first no earlier than the component's
pub record Between (image : List ℕ) (t : Tree) (base s e : ℕ) : Type 0 where
  pub above : base ≤ s
  pub order : s ≤ e
  pub room : t.text + e ≤ length image
