-- The items of a sound forest stand in the table that its records are written to, and so do those inside its groups.
use Rattle.std.specs.Prelude.{◌+◌, ◌*◌, ◌-◌, ◌^◌, ◌&&◌, ◌∷◌, ◌++◌}
use Rattle.std.proofs.Common.{◌≡◌, ◌<◌, ◌≤◌, sym, refl, ap, ◌∙◌, subst, append_assoc, add_assoc, arith, length-append}
use Rattle.definition.specs.Prelude.{ℕ, Bool, true, false, not, List, [], drop_last, length, get_or, ltb}
use Rattle.definition.specs.Basics.{is_empty, all}
use Rattle.definition.specs.Image.{Rec, u32_at, bytes_at, opens, delimiter}
use Rattle.definition.specs.Tree.{Forest, end, word, group, flat, text_of, u32, record_bytes, sound_forest}
use Rattle.definition.specs.Text.{Item, item_of, items_of, items, is_group}
use Rattle.laws.specs.Tests.{and_iff, tested}
use Rattle.laws.specs.Rows.{record_bytes_append, length_record_bytes}
use Rattle.stages.proofs.token_tree.Chunks.{word_rec, opener, closer, word_chunk, group_chunk, chunks_of, items_flat, sound_opened}
use Rattle.prepared.specs.Bytes.{Holds, holds_left, holds_right, bytes_at_holds, u32_at_next}
use Rattle.prepared.specs.Groups.{text_of_append, nonempty}
use Rattle.stages.specs.token_tree.Laid.{Planted, Stands, Laid}
use Rattle.stages.specs.token_tree.Table.{skip_in}
use Rattle.stages.specs.declared.token_tree.types.Tree.{Tree}

-- what stands behind the first records, and the first alone
pub records_behind : (image : List ℕ) (p e s : ℕ) (a b : List Rec) → Holds image (p + 12 * e) (record_bytes s (a ++ b))
    → Holds image (p + 12 * (e + length a)) (record_bytes (s + length (text_of a)) b)
records_behind image p e s a b h =
    let n = length_record_bytes s a in
    let q : p + 12 * e + length (record_bytes s a) ≡ p + 12 * (e + length a) = omega (arith, n) in
    subst (λ x. Holds image x (record_bytes (s + length (text_of a)) b)) q
    (holds_right image (p + 12 * e) (record_bytes s a) (record_bytes (s + length (text_of a)) b)
    (subst (λ l. Holds image (p + 12 * e) l) (record_bytes_append s a b) h))

pub records_before_lem : (image : List ℕ) (at s : ℕ) (a b : List Rec) → Holds image at (record_bytes s (a ++ b)) → Holds image at (record_bytes s a)
records_before_lem image at s a b h =
    holds_left image at (record_bytes s a) (record_bytes (s + length (text_of a)) b) (subst (λ l. Holds image at l) (record_bytes_append s a b) h)

pub text_behind : (image : List ℕ) (table s : ℕ) (a b : List Rec) → Holds image (table + s) (text_of (a ++ b))
    → Holds image (table + (s + length (text_of a))) (text_of b)
text_behind image table s a b h =
    rw (← add_assoc table s (length (text_of a)))
    (holds_right image (table + s) (text_of a) (text_of b) (subst (λ l. Holds image (table + s) l) (text_of_append a b) h))

pub text_before : (image : List ℕ) (at : ℕ) (a b : List Rec) → Holds image at (text_of (a ++ b)) → Holds image at (text_of a)
text_before image at a b h = holds_left image at (text_of a) (text_of b) (subst (λ l. Holds image at l) (text_of_append a b) h)

-- the head of an item of the records r ∷ xs
pub record Head (image : List ℕ) (table e s : ℕ) (r : Rec) (xs : List Rec) : Type 0 where
  pub kind : u32_at image e ≡ r.kind
  pub start : u32_at image (e + 4) ≡ s
  pub skip : u32_at image (e + 8) ≡ r.skip
  pub bytes : bytes_at image (table + s) (length (text_of (r ∷ xs))) ≡ text_of (r ∷ xs)

head_of : (image : List ℕ) (table e s : ℕ) (r : Rec) (xs fs : List Rec) → r.kind < 2 ^ 32 → s < 2 ^ 32 → r.skip < 2 ^ 32
    → Holds image e (record_bytes s ((r ∷ xs) ++ fs)) → Holds image (table + s) (text_of ((r ∷ xs) ++ fs)) → Head image table e s r xs
unfolding record_bytes
head_of image table e s r xs fs bk bs bp h t =
    let rest : List ℕ = record_bytes (s + length r.text) (xs ++ fs) in
    let (k, h₁) = u32_at_next image e r.kind (u32 s ++ u32 r.skip ++ rest) h bk in
    let (st, h₂) = u32_at_next image (e + 4) s (u32 r.skip ++ rest) h₁ bs in
    let (sk, h₃) = u32_at_next image (e + 4 + 4) r.skip rest h₂ bp in
    let f : e + 8 ≡ e + 4 + 4 = omega arith in
    record { kind = k; start = st; skip = rw f sk; bytes = bytes_at_holds image (table + s) (text_of (r ∷ xs)) (text_before image (table + s) (r ∷ xs) fs t) }

opens_small : (k : ℕ) → opens k ≡ true → k < 2 ^ 32
opens_small k o = let h = simp tested at o in omega arith

-- the records of a group: an item's, and those behind it
group_parts : (k : ℕ) (inside rest : Forest) → flat (group k inside rest) ≡ group_chunk k inside ++ flat rest
unfolding flat
group_parts k inside rest = ap (λ l. opener k inside ∷ l) (sym (append_assoc (flat inside) (closer k ∷ []) (flat rest)))

group_length : (k : ℕ) (inside : Forest) → length (group_chunk k inside) ≡ 2 + length (flat inside)
group_length k inside = let h = length-append (flat inside) (closer k ∷ []) in omega arith

group_text : (k : ℕ) (inside : Forest) → length (text_of (group_chunk k inside)) ≡ 2 + length (text_of (flat inside))
unfolding text_of
group_text k inside =
    let a = ap {A = List ℕ} length (text_of_append (flat inside) (closer k ∷ [])) ∙ length-append (text_of (flat inside)) (text_of (closer k ∷ [])) in
    omega (arith, a)

opener_text : (k : ℕ) (inside : Forest) → length (text_of (opener k inside ∷ [])) ≡ 1
unfolding text_of
opener_text k inside = refl

first_byte : (k : ℕ) (inside : Forest) → get_or (text_of (group_chunk k inside)) 0 0 ≡ (delimiter k).opening
unfolding text_of
first_byte k inside = refl

drop_last_snoc : (l : List Rec) (x : Rec) → drop_last (l ++ (x ∷ [])) ≡ l
drop_last_snoc [] x = refl
drop_last_snoc (y ∷ []) x = refl
drop_last_snoc (y ∷ z ∷ l) x = ap (λ (r : List Rec). y ∷ r) (drop_last_snoc (z ∷ l) x)

-- the parts of a sound forest
sound_word : (w : List ℕ) (rest : Forest) → sound_forest (word w rest) ≡ true → (1 ≤ length w) × (sound_forest rest ≡ true)
unfolding sound_forest
sound_word w rest h =
    let (a, b) = (and_iff (not (is_empty w) && all (λ b. ltb b 256) w) (sound_forest rest)).0 h in
    (nonempty w ((and_iff (not (is_empty w)) (all (λ b. ltb b 256) w)).0 a).0, b)

sound_group : (k : ℕ) (inside rest : Forest) → sound_forest (group k inside rest) ≡ true
    → (opens k ≡ true) × (sound_forest inside ≡ true) × (sound_forest rest ≡ true)
unfolding sound_forest
sound_group k inside rest h =
    let (a, b) = (and_iff (opens k && sound_forest inside) (sound_forest rest)).0 h in
    let (c, d) = (and_iff (opens k) (sound_forest inside)).0 a in
    (c, d, b)

module _ (image : List ℕ) (t : Tree) (base : ℕ) where
  -- a word
  stands_word : (stop e s at : ℕ) (w : List ℕ) → e + 1 ≤ stop → base + at ≡ s → 1 ≤ length w
      → Head image t.text (t.records + 12 * e) s (word_rec w) []
      → Stands image t base stop e s (item_of at (word_chunk w))
  unfolding text_of
  stands_word stop e s at w room b some h =
      record {
        room = room;
        kind = h.kind;
        start = h.start;
        skip = let k = h.skip in omega (arith, k);
        at = b;
        some = let n = length-append w [] in omega (arith, n, some);
        bytes = h.bytes;
        word = λ q. refl;
        single = λ q. h.skip;
        group = λ q. absurd (let z : ◌≡◌ {A = Bool} false true = q in true_false z);
      }
    where
      true_false : false ≡ true → ⊥
      true_false z = let y : ◌≡◌ {A = ℕ} 0 1 = cc z in omega (arith, y)

  -- a group, and what stands inside
  stands_group : (stop e s at k : ℕ) (inside rest : Forest) → opens k ≡ true → sound_forest inside ≡ true → e + 1 ≤ stop → base + at ≡ s
      → length (flat inside) < 2 ^ 31 → s + length (text_of (group_chunk k inside)) < 2 ^ 32
      → Head image t.text (t.records + 12 * e) s (opener k inside) (flat inside ++ closer k ∷ [])
      → Holds image (t.records + 12 * e) (record_bytes s (group_chunk k inside)) → Holds image (t.text + s) (text_of (group_chunk k inside))
      → Stands image t base stop e s (item_of at (group_chunk k inside))
  stands_group stop e s at k inside rest o si room b few small h hr ht =
      let len = group_text k inside in
      let skip : skip_in image t e ≡ 2 + length (flat inside) = h.skip in
      record {
        room = room;
        kind = h.kind;
        start = h.start;
        skip = omega (arith, skip);
        at = b;
        some = omega (arith, len);
        bytes = h.bytes;
        word = λ q. absurd (no (sym q ∙ o));
        single = λ q. absurd (no (sym q ∙ o));
        group = λ q. record {
          forest = inside;
          first = first_byte k inside;
          inside = drop_last_snoc (flat inside) (closer k);
          inside_at = refl;
          two = omega (arith, skip);
          long = omega (arith, len);
          planted = record {
            sound = si;
            ends = omega (arith, skip);
            text_ends = omega (arith, len);
            few = few;
            small = omega (arith, len, small);
            records = inner_records hr;
            text = inner_text ht;
          };
        };
      }
    where
      no : false ≡ true → ⊥
      no z = let y : ◌≡◌ {A = ℕ} 0 1 = cc z in omega (arith, y)

      inner_records : Holds image (t.records + 12 * e) (record_bytes s (group_chunk k inside))
          → Holds image (t.records + 12 * (e + 1)) (record_bytes (s + 1) (flat inside))
      inner_records x =
          records_before_lem image (t.records + 12 * (e + 1)) (s + 1) (flat inside) (closer k ∷ [])
          (rw (opener_text k inside) at (records_behind image t.records e s (opener k inside ∷ []) (flat inside ++ closer k ∷ []) x))

      inner_text : Holds image (t.text + s) (text_of (group_chunk k inside)) → Holds image (t.text + (s + 1)) (text_of (flat inside))
      inner_text x =
          text_before image (t.text + (s + 1)) (flat inside) (closer k ∷ [])
          (rw (opener_text k inside) at (text_behind image t.text s (opener k inside ∷ []) (flat inside ++ closer k ∷ []) x))

  -- a forest of the records c, and a rest
  module _ (f rest : Forest) (c : List Rec) (parts : flat f ≡ c ++ flat rest) (stop tail e s : ℕ) (h : Planted image t stop tail e s f) where
    count : length (flat f) ≡ length c + length (flat rest)
    count = ap {A = List Rec} length parts ∙ length-append c (flat rest)

    texts : length (text_of (flat f)) ≡ length (text_of c) + length (text_of (flat rest))
    texts =
        ap {A = List Rec} (λ l. length (text_of l)) parts ∙ ap {A = List ℕ} length (text_of_append c (flat rest)) ∙ length-append (text_of c) (text_of (flat rest))

    records : Holds image (t.records + 12 * e) (record_bytes s (c ++ flat rest))
    records = subst (λ l. Holds image (t.records + 12 * e) (record_bytes s l)) parts h.records

    text : Holds image (t.text + s) (text_of (c ++ flat rest))
    text = subst (λ l. Holds image (t.text + s) (text_of l)) parts h.text

    planted_rest : sound_forest rest ≡ true → Planted image t stop tail (e + length c) (s + length (text_of c)) rest
    planted_rest sound =
        let n = count in
        let m = texts in
        record {
          sound = sound;
          ends = (let k = h.ends in omega (arith, k, n));
          text_ends = (let k = h.text_ends in omega (arith, k, m));
          few = (let k = h.few in omega (arith, k, n));
          small = h.small;
          records = records_behind image t.records e s c (flat rest) records;
          text = text_behind image t.text s c (flat rest) text;
        }

  no_text : (s tail : ℕ) → tail ≡ s + length (text_of []) → s ≡ tail
  unfolding text_of
  no_text s tail k = omega (arith, k)

  -- every item of a planted forest
  laid_forest : (f : Forest) (stop tail e s at : ℕ) → base + at ≡ s → Planted image t stop tail e s f
      → Laid image t base stop tail e s (items_of at (chunks_of f))
  unfolding Laid flat chunks_of items_of
  laid_forest end stop tail e s at b h = (let k = h.ends in omega (arith, k), no_text s tail h.text_ends)
  laid_forest (word w rest) stop tail e s at b h =
      let (some, sound) = sound_word w rest h.sound in
      let n = count (word w rest) rest (word_chunk w) refl stop tail e s h in
      let m = texts (word w rest) rest (word_chunk w) refl stop tail e s h in
      let hd = head_of image t.text (t.records + 12 * e) s (word_rec w) [] (flat rest) (omega arith)
      (let k = h.small in let l = h.text_ends in omega (arith, k, l)) (omega arith)
      (records (word w rest) rest (word_chunk w) refl stop tail e s h) (text (word w rest) rest (word_chunk w) refl stop tail e s h) in (
        stands_word stop e s at w (let k = h.ends in omega (arith, k, n)) b some hd,
        subst (λ x. Laid image t base stop tail (e + x) (s + length (text_of (word_chunk w)))
            (items_of (at + length (text_of (word_chunk w))) (chunks_of rest))) (sym hd.skip)
            (laid_forest rest stop tail (e + 1) (s + length (text_of (word_chunk w))) (at + length (text_of (word_chunk w))) (omega (arith, b))
            (planted_rest (word w rest) rest (word_chunk w) refl stop tail e s h sound)),
      )
  laid_forest (group k inside rest) stop tail e s at b h =
      let (o, si, sound) = sound_group k inside rest h.sound in
      let p = group_parts k inside rest in
      let n = count (group k inside rest) rest (group_chunk k inside) p stop tail e s h in
      let m = texts (group k inside rest) rest (group_chunk k inside) p stop tail e s h in
      let g = group_length k inside in
      let hr = records (group k inside rest) rest (group_chunk k inside) p stop tail e s h in
      let ht = text (group k inside rest) rest (group_chunk k inside) p stop tail e s h in
      let few = h.few in
      let small = h.small in
      let te = h.text_ends in
      let en = h.ends in
      let hd = head_of image t.text (t.records + 12 * e) s (opener k inside) (flat inside ++ closer k ∷ []) (flat rest)
      (opens_small k o) (omega (arith, small, te)) (omega (arith, few, n, g)) hr ht in
      let sk : skip_in image t e ≡ length (group_chunk k inside) = hd.skip ∙ sym g in (
        stands_group stop e s at k inside rest o si (omega (arith, en, n, g)) b (omega (arith, few, n, g)) (omega (arith, small, te, m)) hd
            (records_before_lem image (t.records + 12 * e) s (group_chunk k inside) (flat rest) hr)
            (text_before image (t.text + s) (group_chunk k inside) (flat rest) ht),
        subst (λ x. Laid image t base stop tail (e + x) (s + length (text_of (group_chunk k inside)))
            (items_of (at + length (text_of (group_chunk k inside))) (chunks_of rest))) (sym sk)
            (laid_forest rest stop tail (e + length (group_chunk k inside)) (s + length (text_of (group_chunk k inside)))
            (at + length (text_of (group_chunk k inside))) (omega (arith, b))
            (planted_rest (group k inside rest) rest (group_chunk k inside) p stop tail e s h sound)),
      )

  pub planted_laid : (f : Forest) (stop tail e s at : ℕ) → base + at ≡ s → Planted image t stop tail e s f
      → Laid image t base stop tail e s (items at (flat f))
  planted_laid f stop tail e s at b h =
      subst (Laid image t base stop tail e s) (sym (items_flat at f (sound_opened f h.sound))) (laid_forest f stop tail e s at b h)

  -- the inside of a group that stands in a run
  pub inside_laid : (stop e s : ℕ) (i : Item) → Stands image t base stop e s i → is_group i ≡ true
      → Laid image t base (e + (skip_in image t e - 1)) (s + (length i.part.bytes - 1)) (e + 1) (s + 1) (items i.inside_at i.inside)
  inside_laid stop e s i h g =
      let n = h.group g in
      let a = h.at in
      let ia = n.inside_at in
      subst (λ r. Laid image t base (e + (skip_in image t e - 1)) (s + (length i.part.bytes - 1)) (e + 1) (s + 1) (items i.inside_at r)) (sym n.inside)
      (planted_laid n.forest (e + (skip_in image t e - 1)) (s + (length i.part.bytes - 1)) (e + 1) (s + 1)
      i.inside_at (omega (arith, a, ia)) n.planted)
