-- The cuts of a list of items, found from the left: what was found in the items passed, and what the others still give.
use Rattle.std.specs.Prelude.{◌∷◌, ◌++◌, if◌then◌else◌}
use mathlib.Core.Bool.{and-false}
use Rattle.std.proofs.Common.{◌≡◌, sym, refl, ap, ◌∙◌, append_assoc, append-nil}
use Rattle.definition.specs.Prelude.{Bool, true, false, Option, none, some, List, []}
use Rattle.definition.specs.Characters.{char}
use Rattle.definition.specs.Text.{Item, is_token}
use Rattle.definition.specs.Ranges.{Cut, behind, cut_last, cut_pair, or_else}

-- a cut of the items behind others
abbrev pub ahead : List Item → Option Cut → Option Cut
ahead p none = none
ahead p (some c) = some (record { before = p ++ c.before; sign = c.sign; after = c.after })

cut_made : {a b : List Item} {i : Item} {r : List Item} → a ≡ b
    → ◌≡◌ {A = Option Cut} (some (record { before = a; sign = i; after = r })) (some (record { before = b; sign = i; after = r }))
cut_made p = cc

snoc : (p : List Item) (i : Item) (l : List Item) → p ++ (i ∷ l) ≡ (p ++ (i ∷ [])) ++ l
snoc p i l = sym (append_assoc p (i ∷ []) l)

ahead_behind : (p : List Item) (i : Item) (o : Option Cut) → ahead p (behind i o) ≡ ahead (p ++ (i ∷ [])) o
ahead_behind p i none = refl
ahead_behind p i (some c) = cut_made (snoc p i c.before)

pub ahead_none : (o : Option Cut) → ahead [] o ≡ o
ahead_none none = refl
ahead_none (some c) = refl

-- ---- the last item of a kind

module _ (p : Item → Bool) (passed : List Item) (i : Item) (rest : List Item) (best : Option Cut) where
  pub last_step :
      or_else (ahead passed (cut_last p (i ∷ rest))) best
      ≡ or_else (ahead (passed ++ (i ∷ [])) (cut_last p rest)) (if p i then some (record { before = passed; sign = i; after = rest }) else best)
  unfolding cut_last
  last_step = go (cut_last p rest) (p i)
    where
      here : Cut
      here = record { before = []; sign = i; after = rest }

      go : (o : Option Cut) (t : Bool) →
          or_else (ahead passed (elim o [ some c ↦ behind i (some c) | none ↦ if t then some here else none ])) best
          ≡ or_else (ahead (passed ++ (i ∷ [])) o) (if t then some (record { before = passed; sign = i; after = rest }) else best)
      go (some c) t = cut_made (snoc passed i c.before)
      go none true = cut_made (append-nil passed)
      go none false = refl

-- ---- the leftmost pair of minuses

abbrev pub minus : Item → Bool
minus = is_token char.minus

-- where the search goes on: at the item just passed, where that is a minus
abbrev pub resume : List Item → Option Cut → List Item → Option Cut
resume passed none rest = ahead passed (cut_pair rest)
resume passed (some c) rest = ahead c.before (cut_pair (c.sign ∷ rest))

-- the cut at the item just passed
abbrev pub Fresh : List Item → List Item → Option Cut → Type 0
Fresh passed rest none = Unit
Fresh passed rest (some c) = (minus c.sign ≡ true) × (passed ≡ c.before ++ (c.sign ∷ [])) × (c.after ≡ rest)

cut_same : {a b : List Item} {i : Item} {r q : List Item} → a ≡ b → r ≡ q
    → ◌≡◌ {A = Option Cut} (some (record { before = a; sign = i; after = r })) (some (record { before = b; sign = i; after = q }))
cut_same p q = cc

both : (j i : Item) (rest : List Item) → minus j ≡ true → minus i ≡ true → cut_pair (j ∷ i ∷ rest) ≡ some (record { before = []; sign = j; after = i ∷ rest })
unfolding cut_pair
both j i rest f g = rw (f, g)

one_not : (i : Item) (rest : List Item) → minus i ≡ false → cut_pair (i ∷ rest) ≡ behind i (cut_pair rest)
unfolding cut_pair
one_not i rest h = rw h

apart : (j i : Item) (rest : List Item) → minus i ≡ false → cut_pair (j ∷ i ∷ rest) ≡ behind j (cut_pair (i ∷ rest))
unfolding cut_pair
apart j i rest h = rw (h, and-false (minus j))

neither : (j i : Item) (rest : List Item) → minus i ≡ false → cut_pair (j ∷ i ∷ rest) ≡ behind j (behind i (cut_pair rest))
neither j i rest h = apart j i rest h ∙ ap (behind j) (one_not i rest h)

module _ (passed : List Item) (i : Item) (rest : List Item) where
  abbrev pub cut_here : Cut
  cut_here = record { before = passed; sign = i; after = rest }

  pub pair_step : (best prev : Option Cut) → Fresh passed (i ∷ rest) prev → (t : Bool) → minus i ≡ t
      → or_else best (resume passed prev (i ∷ rest)) ≡ or_else (or_else best (if t then prev else none)) (resume (passed ++ (i ∷ [])) (if t then some cut_here else none) rest)
  unfolding cut_pair
  pair_step (some b) prev f t h = refl
  pair_step none none f true h = refl
  pair_step none none f false h = ap (ahead passed) (one_not i rest h) ∙ ahead_behind passed i (cut_pair rest)
  pair_step none (some c) f true h =
      ap (ahead c.before) (pair f.0 h) ∙ cut_same (append-nil c.before) (sym f.2)
    where
      pair : minus c.sign ≡ true → minus i ≡ true → cut_pair (c.sign ∷ i ∷ rest) ≡ some (record { before = []; sign = c.sign; after = i ∷ rest })
      pair = both c.sign i rest
  pair_step none (some c) f false h =
      ap (ahead c.before) (neither c.sign i rest h)
      ∙ ahead_behind c.before c.sign (behind i (cut_pair rest))
      ∙ ahead_behind (c.before ++ (c.sign ∷ [])) i (cut_pair rest)
      ∙ ap (λ l. ahead (l ++ (i ∷ [])) (cut_pair rest)) (sym f.1)

-- ---- at the ends

pub or_none : (o : Option Cut) → or_else o none ≡ o
or_none none = refl
or_none (some c) = refl

pub last_done : (p : Item → Bool) (passed : List Item) (best : Option Cut) → or_else (ahead passed (cut_last p [])) best ≡ best
unfolding cut_last
last_done p passed best = refl

pub pair_done : (passed : List Item) (best prev : Option Cut) → or_else best (resume passed prev []) ≡ best
unfolding cut_pair
pair_done passed best none = or_none best
pair_done passed best (some c) = rw (and-false (minus c.sign)) (or_none best)
