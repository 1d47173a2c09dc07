-- A starting value's colon in a forest, and in the items of its records.
use Rattle.std.specs.Prelude.{◌≡◌, refl, ◌+◌, ◌∷◌, if◌then◌else◌}
use Rattle.std.proofs.Common.{sym, ap, ◌∙◌, subst, true≢false, append-nil}
use Rattle.std.proofs.lemmas.Bool.{false≢true}
use Rattle.definition.specs.Prelude.{ℕ, Bool, true, false, Option, none, some, List, [], length}
use Rattle.definition.specs.Characters.{char}
use Rattle.definition.specs.Image.{opens}
use Rattle.definition.specs.Tree.{Forest, end, word, group, text_of}
use Rattle.definition.specs.Text.{Item, item_of, items_of, is_token}
use Rattle.definition.specs.Component.{Prefix, beyond, split_colon}
use Rattle.cutting.specs.Statement.{◌⊕◌, Colon, on_prefix, is_colon, at_colon}
use Rattle.cutting_proof.specs.component.Forests.{word_chunk, group_chunk, chunks_of, Opened}

-- A forest is cut where its items are: its parts give the forest, and the items after the colon are those of the part after it.
pub data Agrees (g : Forest) : Option Colon → Option Prefix → Type 0 where
  neither : Agrees g none none
  both : {c : Colon} {p : Prefix} (at : ℕ) → c.prefix ⊕ c.after ≡ g → p.after ≡ items_of at (chunks_of c.after) → Agrees g (some c) (some p)

-- one record ahead, and two
agrees_behind : (h : Forest → Forest) (i : Item) {g : Forest} {o : Option Colon} {q : Option Prefix} →
    ((f f' : Forest) → h f ⊕ f' ≡ h (f ⊕ f')) → Agrees g o q → Agrees (h g) (on_prefix h o) (beyond i q)
agrees_behind h i k neither = neither
agrees_behind h i k (both {c} at e e') = both at (k c.prefix c.after ∙ ap h e) e'

agrees_beyond : (s s' : List ℕ) (i j : Item) {g : Forest} {o : Option Colon} {q : Option Prefix} →
    Agrees g o q → Agrees (word s (word s' g)) (on_prefix (λ p. word s (word s' p)) o) (beyond i (beyond j q))
unfolding ◌⊕◌
agrees_beyond s s' i j neither = neither
agrees_beyond s s' i j (both at e e') = both at (ap (λ f. word s (word s' f)) e) e'

-- two tests that come out alike, and one that fails
alike : {A B : Type 0} (R : A → B → Type 0) (t u : Bool) {a a' : A} {b b' : B} → t ≡ u → R a b → R a' b' → R (if t then a else a') (if u then b else b')
alike R true true e r r' = r
alike R true false e r r' = absurd (true≢false e)
alike R false true e r r' = absurd (false≢true e)
alike R false false e r r' = r'

otherwise : {B : Type 0} (P : B → Type 0) (u : Bool) (b : B) {b' : B} → u ≡ false → P b' → P (if u then b else b')
otherwise P true b e r = absurd (true≢false e)
otherwise P false b e r = r

colon_word : (at : ℕ) (s : List ℕ) → is_colon s ≡ is_token char.colon (item_of at (word_chunk s))
unfolding text_of
colon_word at s = rw append-nil

colon_group : (at k : ℕ) (inside : Forest) → opens k ≡ true → is_token char.colon (item_of at (group_chunk k inside)) ≡ false
colon_group at k inside o = rw o

colon_later : (i : Item) (is : List Item) → is_token char.colon i ≡ false → split_colon (i ∷ is) ≡ beyond i (split_colon is)
unfolding split_colon
colon_later i [] h = rw h
colon_later i (j ∷ is) h = rw h

-- where an item stands that follows a word's, and a group's
abbrev behind_word : ℕ → List ℕ → ℕ
behind_word at s = at + length (text_of (word_chunk s))

abbrev behind_group : ℕ → ℕ → Forest → ℕ
behind_group at k inside = at + length (text_of (group_chunk k inside))

pub colon_agrees : (at : ℕ) (g : Forest) → Opened g → Agrees g (at_colon g) (split_colon (items_of at (chunks_of g)))
unfolding at_colon split_colon items_of chunks_of ◌⊕◌
colon_agrees at end o = neither
colon_agrees at (group k inside rest) (o, os) =
    subst (Agrees (group k inside rest) (on_prefix (group k inside) (at_colon rest)))
    (sym (colon_later (item_of at (group_chunk k inside)) (items_of (behind_group at k inside) (chunks_of rest)) (colon_group at k inside o)))
    (agrees_behind (group k inside) (item_of at (group_chunk k inside)) (λ f f'. refl) (colon_agrees (behind_group at k inside) rest os))
colon_agrees at (word s end) o =
    alike (Agrees (word s end)) (is_colon s) (is_token char.colon (item_of at (word_chunk s))) (colon_word at s) (both at refl refl) neither
colon_agrees at (word s (group k inside rest)) (o, os) =
    let g = word s (group k inside rest) in
    let next = behind_word at s in
    alike (Agrees g) (is_colon s) (is_token char.colon (item_of at (word_chunk s))) (colon_word at s)
    (otherwise (Agrees g (some (record { prefix = word s end; after = group k inside rest }))) (is_token char.colon (item_of next (group_chunk k inside))) _
    (colon_group next k inside o)
    (both next refl refl))
    (agrees_behind (λ p. word s p) (item_of at (word_chunk s)) (λ f f'. refl) (colon_agrees next (group k inside rest) (o, os)))
colon_agrees at (word s (word s' rest)) o =
    let g = word s (word s' rest) in
    let next = behind_word at s in
    alike (Agrees g) (is_colon s) (is_token char.colon (item_of at (word_chunk s))) (colon_word at s)
    (alike (Agrees g) (is_colon s') (is_token char.colon (item_of next (word_chunk s'))) (colon_word next s')
    (agrees_beyond s s' (item_of at (word_chunk s)) (item_of next (word_chunk s')) (colon_agrees (behind_word next s') rest o))
    (both next refl refl))
    (agrees_behind (λ p. word s p) (item_of at (word_chunk s)) (λ f f'. refl) (colon_agrees next (word s' rest) o))
