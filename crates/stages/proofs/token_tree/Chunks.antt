-- The items of a forest's records: one for each word and each group at its top level.
use Rattle.std.specs.Prelude.{◌+◌, ◌&&◌, ◌∷◌, ◌++◌}
use Rattle.std.proofs.Common.{◌≡◌, refl, ap, ◌∙◌, append_assoc, arith, length-append}
use Rattle.definition.specs.Prelude.{ℕ, Bool, true, false, not, List, [], length, ltb}
use Rattle.definition.specs.Basics.{is_empty, all}
use Rattle.definition.specs.Image.{Rec, kinds, opens, delimiter}
use Rattle.definition.specs.Tree.{Forest, end, word, group, flat, sound_forest}
use Rattle.definition.specs.Text.{more, chunks, items_of, items}

abbrev pub word_rec : List ℕ → Rec
word_rec s = record { kind = kinds.chars; text = s; skip = 1 }

abbrev pub opener : ℕ → Forest → Rec
opener k inside = record { kind = k; text = (delimiter k).opening ∷ []; skip = 2 + length (flat inside) }

abbrev pub closer : ℕ → Rec
closer k = record { kind = kinds.closer; text = (delimiter k).closing ∷ []; skip = 1 }

abbrev pub word_chunk : List ℕ → List Rec
word_chunk s = word_rec s ∷ []

abbrev pub group_chunk : ℕ → Forest → List Rec
group_chunk k inside = opener k inside ∷ flat inside ++ closer k ∷ []

-- the records of each item
unfoldable pub chunks_of : Forest → List (List Rec)
chunks_of end = []
chunks_of (word s rest) = word_chunk s ∷ chunks_of rest
chunks_of (group k inside rest) = group_chunk k inside ∷ chunks_of rest

-- groups at the top level are of one of the four kinds
abbrev pub Opened : Forest → Type 0
Opened end = Unit
Opened (word s rest) = Opened rest
Opened (group k inside rest) = (opens k ≡ true) × Opened rest

-- as many records as are taken belong to the item before
taken : (xs rest : List Rec) → chunks (length xs) (xs ++ rest) ≡ (xs, (chunks 0 rest).1)
unfolding chunks
taken [] [] = refl
taken [] (r ∷ rest) = refl
taken (x ∷ xs) rest = rw (taken xs rest)

item_chunk : (r : Rec) (xs rest : List Rec) → more r ≡ length xs → (chunks 0 (r ∷ (xs ++ rest))).1 ≡ (r ∷ xs) ∷ (chunks 0 rest).1
unfolding chunks
item_chunk r xs rest m = ap {A = List Rec × List (List Rec)} (λ c. (r ∷ c.0) ∷ c.1) (ap (λ n. chunks n (xs ++ rest)) m ∙ taken xs rest)

more_opener : (k : ℕ) (inside : Forest) → opens k ≡ true → more (opener k inside) ≡ length (flat inside ++ closer k ∷ [])
more_opener k inside o = rw (o, length-append) (omega arith)

pub chunks_flat : (f : Forest) → Opened f → (chunks 0 (flat f)).1 ≡ chunks_of f
unfolding flat chunks_of
chunks_flat end o = unfold chunks in refl
chunks_flat (word s rest) o = item_chunk (word_rec s) [] (flat rest) refl ∙ ap (λ cs. word_chunk s ∷ cs) (chunks_flat rest o)
chunks_flat (group k inside rest) (o, os) =
    rw (← append_assoc (flat inside) (closer k ∷ []) (flat rest))
    (item_chunk (opener k inside) (flat inside ++ closer k ∷ []) (flat rest) (more_opener k inside o)
    ∙ ap (λ cs. group_chunk k inside ∷ cs) (chunks_flat rest os))

pub items_flat : (at : ℕ) (f : Forest) → Opened f → items at (flat f) ≡ items_of at (chunks_of f)
items_flat at f o = ap (items_of at) (chunks_flat f o)

and_right : (a b : Bool) → (a && b) ≡ true → b ≡ true
and_right true b h = h
and_right false b h = cc

and_left : (a b : Bool) → (a && b) ≡ true → a ≡ true
and_left true b h = refl
and_left false b h = h

pub sound_opened : (f : Forest) → sound_forest f ≡ true → Opened f
unfolding sound_forest
sound_opened end h = tt
sound_opened (word s rest) h = sound_opened rest (and_right (not (is_empty s) && all (λ b. ltb b 256) s) (sound_forest rest) h)
sound_opened (group k inside rest) h =
    let both = opens k && sound_forest inside in
    (and_left (opens k) (sound_forest inside) (and_left both (sound_forest rest) h), sound_opened rest (and_right both (sound_forest rest) h))
