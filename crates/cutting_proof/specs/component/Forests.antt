-- The items of a forest's records: one for each word and each group at its top level.
use Rattle.std.specs.Prelude.{◌≡◌, ◌+◌, ◌&&◌, ◌∷◌, ◌++◌, if◌then◌else◌}
use Rattle.std.proofs.Math.Path.{refl}
use Rattle.std.proofs.Common.{ap, ◌∙◌, append_assoc, arith, length-append}
use Rattle.definition.specs.Prelude.{ℕ, Bool, true, false, not, Option, none, some, List, [], drop_last, length, ltb, eqb}
use Rattle.definition.specs.Basics.{is_empty, all}
use Rattle.definition.specs.Image.{Rec, kinds, opens, delimiter}
use Rattle.definition.specs.Tree.{Forest, end, word, group, flat, text_of, sound_forest}
use Rattle.definition.specs.Text.{Item, more, chunks, item_of, items_of, items}
use Rattle.definition.specs.Component.{Split, split_range}
use Rattle.cutting.specs.Statement.{◌⊕◌, is_end, unranged}

abbrev pub word_rec : List ℕ → Rec
word_rec s = record { kind = kinds.chars; text = s; skip = 1 }

abbrev pub opener : ℕ → Forest → Rec
opener k inside = record { kind = k; text = (delimiter k).opening ∷ []; skip = 2 + length (flat inside) }

abbrev pub closer : ℕ → Rec
closer k = record { kind = kinds.closer; text = (delimiter k).closing ∷ []; skip = 1 }

abbrev pub word_chunk : List ℕ → List Rec
word_chunk s = word_rec s ∷ []

abbrev pub group_chunk : ℕ → Forest → List Rec
group_chunk k inside = opener k inside ∷ flat inside ++ closer k ∷ []

-- the records of each item
unfoldable pub chunks_of : Forest → List (List Rec)
chunks_of end = []
chunks_of (word s rest) = word_chunk s ∷ chunks_of rest
chunks_of (group k inside rest) = group_chunk k inside ∷ chunks_of rest

-- groups at the top level are of one of the four kinds
abbrev pub Opened : Forest → Type 0
Opened end = Unit
Opened (word s rest) = Opened rest
Opened (group k inside rest) = (opens k ≡ true) × Opened rest

-- as many records as are taken belong to the item before
taken : (xs rest : List Rec) → chunks (length xs) (xs ++ rest) ≡ (xs, (chunks 0 rest).1)
unfolding chunks
taken [] [] = refl
taken [] (r ∷ rest) = refl
taken (x ∷ xs) rest = rw (taken xs rest)

item_chunk : (r : Rec) (xs rest : List Rec) → more r ≡ length xs → (chunks 0 (r ∷ (xs ++ rest))).1 ≡ (r ∷ xs) ∷ (chunks 0 rest).1
unfolding chunks
item_chunk r xs rest m = ap {A = List Rec × List (List Rec)} (λ c. (r ∷ c.0) ∷ c.1) (ap (λ n. chunks n (xs ++ rest)) m ∙ taken xs rest)

more_opener : (k : ℕ) (inside : Forest) → opens k ≡ true → more (opener k inside) ≡ length (flat inside ++ closer k ∷ [])
more_opener k inside o = rw (o, length-append) (omega arith)

pub chunks_flat : (f : Forest) → Opened f → (chunks 0 (flat f)).1 ≡ chunks_of f
unfolding flat chunks_of
chunks_flat end o = unfold chunks in refl
chunks_flat (word s rest) o = item_chunk (word_rec s) [] (flat rest) refl ∙ ap (λ cs. word_chunk s ∷ cs) (chunks_flat rest o)
chunks_flat (group k inside rest) (o, os) =
    rw (← append_assoc (flat inside) (closer k ∷ []) (flat rest))
    (item_chunk (opener k inside) (flat inside ++ closer k ∷ []) (flat rest) (more_opener k inside o)
    ∙ ap (λ cs. group_chunk k inside ∷ cs) (chunks_flat rest os))

pub items_flat : (at : ℕ) (f : Forest) → Opened f → items at (flat f) ≡ items_of at (chunks_of f)
items_flat at f o = ap (items_of at) (chunks_flat f o)

-- ── What is sound ──

and_right : (a b : Bool) → (a && b) ≡ true → b ≡ true
and_right true b h = h
and_right false b h = cc

and_left : (a b : Bool) → (a && b) ≡ true → a ≡ true
and_left true b h = refl
and_left false b h = h

pub sound_opened : (f : Forest) → sound_forest f ≡ true → Opened f
unfolding sound_forest
sound_opened end h = tt
sound_opened (word s rest) h = sound_opened rest (and_right (not (is_empty s) && all (λ b. ltb b 256) s) (sound_forest rest) h)
sound_opened (group k inside rest) h =
    let both = opens k && sound_forest inside in
    (and_left (opens k) (sound_forest inside) (and_left both (sound_forest rest) h), sound_opened rest (and_right both (sound_forest rest) h))

pub unranged_opened : (f : Forest) → Opened f → Opened (unranged f)
unfolding unranged
unranged_opened end o = tt
unranged_opened (word s rest) o = unranged_opened rest o
unranged_opened (group k inside rest) (o, os) =
    go (is_end rest && eqb k kinds.bracket) (unranged_opened rest os)
  where
    go : (t : Bool) → Opened (unranged rest) → Opened (if t then end else group k inside (unranged rest))
    go true u = tt
    go false u = (o, u)

-- ── The range ──

-- what stands before the range
split_mid : (at : ℕ) (f : Forest) → (split_range (items_of at (chunks_of f))).mid ≡ items_of at (chunks_of (unranged f))
unfolding split_range items_of chunks_of unranged
split_mid at end = refl
split_mid at (word s end) = refl
split_mid at (word s (word s' rest)) = ap (λ is. item_of at (word_chunk s) ∷ is) (split_mid (at + length (text_of (word_chunk s))) (word s' rest))
split_mid at (word s (group k inside rest)) = ap (λ is. item_of at (word_chunk s) ∷ is) (split_mid (at + length (text_of (word_chunk s))) (group k inside rest))
split_mid at (group k inside end) = go (eqb k kinds.bracket) (some (items (at + 1) (drop_last (flat inside ++ closer k ∷ []))))
  where
    go : (t : Bool) (r : Option (List Item)) →
        (if◌then◌else◌ {A = Split} t (record { mid = []; range = r }) (record { mid = item_of at (group_chunk k inside) ∷ []; range = none })).mid
        ≡ items_of at (chunks_of (if t then end else group k inside end))
    go true r = refl
    go false r = refl
split_mid at (group k inside (word s rest)) = ap (λ is. item_of at (group_chunk k inside) ∷ is) (split_mid (at + length (text_of (group_chunk k inside))) (word s rest))
split_mid at (group k inside (group k' inside' rest)) = ap (λ is. item_of at (group_chunk k inside) ∷ is) (split_mid (at + length (text_of (group_chunk k inside))) (group k' inside' rest))

drop_last_snoc : {A : Type 0} (xs : List A) (a : A) → drop_last (xs ++ a ∷ []) ≡ xs
drop_last_snoc [] a = refl
drop_last_snoc (x ∷ []) a = refl
drop_last_snoc (x ∷ y ∷ xs) a = ap (λ l. x ∷ l) (drop_last_snoc (y ∷ xs) a)

abbrev pub bracket : Forest → Forest
bracket f = group kinds.bracket f end

split_behind : (i : Item) (is : List Item) {s : Split} → is_empty is ≡ false → split_range is ≡ s → split_range (i ∷ is) ≡ record { mid = i ∷ s.mid; range = s.range }
unfolding split_range
split_behind i [] h q = cc
split_behind i (j ∷ is) h q = rw q

bracket_there : (at : ℕ) (g f : Forest) → is_empty (items_of at (chunks_of (g ⊕ bracket f))) ≡ false
unfolding items_of chunks_of ◌⊕◌
bracket_there at end f = refl
bracket_there at (word s g) f = refl
bracket_there at (group k inside g) f = refl

-- records that end in a bracket around f, after the other records
abbrev Bracketed : ℕ → List (List Rec) → List (List Rec) → Forest → Type 0
Bracketed at cs before f = (inner : ℕ) × (split_range (items_of at cs) ≡ record { mid = items_of at before; range = some (items inner (flat f)) })

bracketed_behind : (at : ℕ) (c : List Rec) (g f : Forest) →
    Bracketed (at + length (text_of c)) (chunks_of (g ⊕ bracket f)) (chunks_of g) f → Bracketed at (c ∷ chunks_of (g ⊕ bracket f)) (c ∷ chunks_of g) f
unfolding items_of
bracketed_behind at c g f (inner, q) =
    let next = at + length (text_of c) in
    (inner, split_behind (item_of at c) (items_of next (chunks_of (g ⊕ bracket f))) (bracket_there next g f) q)

-- a bracket that is put behind a forest is its range
split_bracket : (at : ℕ) (g f : Forest) → Bracketed at (chunks_of (g ⊕ bracket f)) (chunks_of g) f
unfolding split_range items_of chunks_of ◌⊕◌
split_bracket at end f = (at + 1, ap {B = Split} (λ rs. record { mid = []; range = some (items (at + 1) rs) }) (drop_last_snoc (flat f) (closer kinds.bracket)))
split_bracket at (word s g) f = bracketed_behind at (word_chunk s) g f (split_bracket (at + length (text_of (word_chunk s))) g f)
split_bracket at (group k inside g) f = bracketed_behind at (group_chunk k inside) g f (split_bracket (at + length (text_of (group_chunk k inside))) g f)

opened_bracket : (g f : Forest) → Opened g → Opened (g ⊕ bracket f)
unfolding ◌⊕◌
opened_bracket end f o = (refl, tt)
opened_bracket (word s g) f o = opened_bracket g f o
opened_bracket (group k inside g) f (o, os) = (o, opened_bracket g f os)

-- the two for the records of a component
pub mid_items : (f : Forest) → Opened f → (split_range (items 0 (flat f))).mid ≡ items_of 0 (chunks_of (unranged f))
mid_items f o = ap (λ is. (split_range is).mid) (items_flat 0 f o) ∙ split_mid 0 f

pub bracket_items : (g f : Forest) → Opened g →
    (inner : ℕ) × (split_range (items 0 (flat (g ⊕ bracket f))) ≡ record { mid = items_of 0 (chunks_of g); range = some (items inner (flat f)) })
bracket_items g f o =
    let (inner, q) = split_bracket 0 g f in
    (inner, ap split_range (items_flat 0 (g ⊕ bracket f) (opened_bracket g f o)) ∙ q)

-- ── Forests one after the other ──

pub opened_after : (f g : Forest) → Opened (f ⊕ g) → Opened g
unfolding ◌⊕◌
opened_after end g o = o
opened_after (word s f) g o = opened_after f g o
opened_after (group k inside f) g (o, os) = opened_after f g os

pub ⊕_assoc : (f g h : Forest) → f ⊕ g ⊕ h ≡ (f ⊕ g) ⊕ h
unfolding ◌⊕◌
⊕_assoc end g h = refl
⊕_assoc (word s f) g h = ap (λ l. word s l) (⊕_assoc f g h)
⊕_assoc (group k inside f) g h = ap (λ l. group k inside l) (⊕_assoc f g h)
