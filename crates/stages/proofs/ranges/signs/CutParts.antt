-- A cut has the items before its sign, the sign, which is a token of one character, and the items behind it.
use Rattle.std.specs.Prelude.{◌&&◌, ◌∷◌, ◌++◌, if◌then◌else◌}
use Rattle.std.proofs.Common.{◌≡◌, ◌⊎◌, refl, ap, inl, inr}
use Rattle.definition.specs.Prelude.{Bool, true, false, Option, none, some, List, []}
use Rattle.definition.specs.Text.{Item, is_token}
use Rattle.definition.specs.Ranges.{Cut, behind, begins_with, cut_last, cut_pair, cut_bound, or_else}
use Rattle.laws.specs.Tests.{and_iff}
use Rattle.stages.proofs.Cases.{none_some, some_is}

pub record Parts (p : Item → Bool) (is : List Item) (c : Cut) : Type 0 where
  pub parts : is ≡ c.before ++ (c.sign ∷ c.after)
  pub sign : p c.sign ≡ true

module _ (p : Item → Bool) (i : Item) (rest : List Item) where
  abbrev here : Cut
  here = record { before = []; sign = i; after = rest }

  found : (c : Cut) → p i ≡ true → here ≡ c → Parts p (i ∷ rest) c
  found c t e = rw (← e) record { parts = refl; sign = t }

  later : (d c : Cut) → Parts p rest d → behind i (some d) ≡ some c → Parts p (i ∷ rest) c
  later d c h e = rw (← some_is e) record { parts = ap (λ (l : List Item). i ∷ l) h.parts; sign = h.sign }

  last_here : (c : Cut) (o : Option Cut) → ((d : Cut) → o ≡ some d → Parts p rest d) → (t : Bool) → p i ≡ t
      → elim o [ some d ↦ behind i (some d) | none ↦ if t then some here else none ] ≡ some c → Parts p (i ∷ rest) c
  last_here c (some d) f t q e = later d c (f d refl) e
  last_here c none f true q e = found c q (some_is e)
  last_here c none f false q e = none_some e

  pair_here : (c : Cut) (o : Option Cut) → ((d : Cut) → o ≡ some d → Parts p rest d) → (t : Bool) → (t ≡ true → p i ≡ true)
      → (if t then some here else behind i o) ≡ some c → Parts p (i ∷ rest) c
  pair_here c o f true q e = found c (q refl) (some_is e)
  pair_here c (some d) f false q e = later d c (f d refl) e
  pair_here c none f false q e = none_some e

last_parts : (p : Item → Bool) (is : List Item) (c : Cut) → cut_last p is ≡ some c → Parts p is c
unfolding cut_last
last_parts p [] c e = none_some e
last_parts p (i ∷ rest) c e = last_here p i rest c (cut_last p rest) (λ d. last_parts p rest d) (p i) refl e

pair_parts : (is : List Item) (c : Cut) → cut_pair is ≡ some c → Parts (is_token 45) is c
unfolding cut_pair
pair_parts [] c e = none_some e
pair_parts (i ∷ rest) c e =
    pair_here (is_token 45) i rest c (cut_pair rest) (λ d. pair_parts rest d) (is_token 45 i && begins_with (is_token 45) rest)
    (λ t. ((and_iff (is_token 45 i) (begins_with (is_token 45) rest)).0 t).0) e

-- the cut of a bound, at a plus or a minus
pub bound_parts : (is : List Item) (c : Cut) → cut_bound is ≡ some c → Parts (is_token 43) is c ⊎ Parts (is_token 45) is c
bound_parts is c e =
    choose (cut_last (is_token 43) is) (cut_pair is) (cut_last (is_token 45) is) (last_parts (is_token 43) is c) (pair_parts is c) (last_parts (is_token 45) is c) e
  where
    choose : (a b d : Option Cut) → (a ≡ some c → Parts (is_token 43) is c) → (b ≡ some c → Parts (is_token 45) is c) → (d ≡ some c → Parts (is_token 45) is c)
        → or_else a (or_else b d) ≡ some c → Parts (is_token 43) is c ⊎ Parts (is_token 45) is c
    choose (some a) b d f g h e = inl (f e)
    choose none (some b) d f g h e = inr (g e)
    choose none none d f g h e = inr (h e)
