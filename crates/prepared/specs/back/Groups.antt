-- Records that pass the check nest: they are the records of a forest that is sound and not too deep.
use Rattle.std.specs.Prelude.{◌≡◌, ◌≤◌, ◌<◌, ◌+◌, ◌-◌, ◌∷◌, ◌++◌, if◌then◌else◌}
use Rattle.std.proofs.Math.Path.{refl}
use Rattle.std.proofs.Common.{sym, ap, ◌∙◌, arith, drop-cons, length-take-le, lt-ltb}
use Rattle.std.proofs.Math.ListN.{length-take, length-drop, length-map}
use Rattle.std.proofs.Math.Seq.{split_at}
use Rattle.definition.specs.Prelude.{ℕ, zero, suc, Bool, true, false, not, List, [], map, length, get_or, take, drop, ltb, eqb}
use Rattle.definition.specs.Basics.{ok, is_empty, all}
use Rattle.definition.specs.Limits.{limits}
use Rattle.definition.specs.Refusals.{bad_record, too_deep}
use Rattle.definition.specs.Image.{Entry, Rec, kinds, opens, delimiter}
use Rattle.definition.specs.Check.{check_in, no_entry, text_right, word_right, inside_of, closer_of, after_of, open_right, close_right}
use Rattle.definition.specs.Tree.{Forest, end, word, group, flat, sound_forest, depth}
use Rattle.prepared.specs.Statement.{Bytes}
use Rattle.laws.specs.Tests.{by_test, and_iff, leb_iff, eqb_iff, tested}
use mathlib.Core.List.{map-append}
use Rattle.laws.specs.Lists.{all_get_d, all_append}
use Rattle.laws.specs.Results.{bind_ok, need_then}
use Rattle.laws.specs.Lists.{all_take, all_drop}

-- the record that an entry of the record table stands for, its text being cut out of the text table
abbrev pub rec_of : List ℕ → Entry → Rec
rec_of text e = record { kind = e.kind; text = take (e.stop - e.start) (drop e.start text); skip = e.skip }

-- an entry that starts in the text has the text's byte there
abbrev pub byte_right : List ℕ → Entry → Bool
byte_right text e = if ltb e.start (length text) then eqb e.byte (get_or text e.start 0) else true

-- a forest whose records are those of the entries, in `above` groups
pub record Built (text : List ℕ) (above : ℕ) (es : List Entry) : Type 0 where
  pub forest : Forest
  pub flat_is : flat forest ≡ map (rec_of text) es
  pub sound : sound_forest forest ≡ true
  pub shallow : above + depth forest ≤ limits.depth
  pub texts : all (text_right (length text)) es ≡ true

-- what the check says of an opener and of what follows it
pub record Opened (t fuel : ℕ) (e : Entry) (rest : List Entry) (above : ℕ) : Type 0 where
  pub opener : open_right t e rest ≡ true
  pub room : above < limits.depth
  pub inside : check_in t fuel (inside_of e rest) (suc above) ≡ ok tt
  pub closer : close_right t e (closer_of e rest) ≡ true
  pub after : check_in t fuel (after_of e rest) above ≡ ok tt

pub opened : (t fuel : ℕ) (e : Entry) (rest : List Entry) (above : ℕ) → opens e.kind ≡ true
    → check_in t (suc fuel) (e ∷ rest) above ≡ ok tt → Opened t fuel e rest above
unfolding check_in
opened t fuel e rest above o h =
    let (p, h₁) = need_then (open_right t e rest) bad_record _ (rw (o, check_in) at h) in
    let (q, h₂) = need_then (ltb above limits.depth) too_deep _ h₁ in
    let (_, i, h₃) = bind_ok (check_in t fuel (inside_of e rest) (suc above)) _ h₂ in
    let (c, a) = need_then (close_right t e (closer_of e rest)) bad_record _ h₃ in
    record { opener = p; room = (leb_iff (suc above) limits.depth).0 q; inside = i; closer = c; after = a }

-- and of a word
pub word_kept : (t fuel : ℕ) (e : Entry) (rest : List Entry) (above : ℕ) → opens e.kind ≡ false
    → check_in t (suc fuel) (e ∷ rest) above ≡ ok tt → (word_right t e ≡ true) × (check_in t fuel rest above ≡ ok tt)
unfolding check_in
word_kept t fuel e rest above o h = need_then (word_right t e) bad_record _ (rw (o, check_in) at h)

-- where an entry's text lies: what `text_right` says
abbrev InText : List ℕ → Entry → Type 0
InText text e = (e.start < length text) × (e.start < e.stop)

in_text : (text : List ℕ) (e : Entry) → InText text e → text_right (length text) e ≡ true
in_text text e h = simp tested h

-- an entry of the one byte b
abbrev OneByte : List ℕ → ℕ → Entry → Type 0
OneByte text b e = InText text e × ((e.stop ≡ e.start + 1) × (e.byte ≡ b))

-- has that byte for its text
one_byte : (text : List ℕ) (b : ℕ) (e : Entry) → byte_right text e ≡ true → OneByte text b e → (rec_of text e).text ≡ b ∷ []
one_byte text b e h ((q, r), (s, t)) =
    let p = (eqb_iff e.byte (get_or text e.start 0)).0 (rw (lt-ltb e.start (length text) q) at h) in
    let one : e.stop - e.start ≡ 1 = omega arith in
    rw (one, drop-cons text e.start 0 q, ← p, t)

-- the text of an entry is not empty
some_text : (text : List ℕ) (e : Entry) → InText text e → not (is_empty (rec_of text e).text) ≡ true
some_text text e (q, r) =
    let more : e.stop - e.start ≡ suc (e.stop - e.start - 1) = omega arith in
    rw (more, drop-cons text e.start 0 q)

-- the list behind an opener: what stands inside, the closer, and what stands after it
module _ (e : Entry) (rest : List Entry) (low : 2 ≤ e.skip) (high : e.skip ≤ 1 + length rest) where
  pub in_parts : rest ≡ inside_of e rest ++ closer_of e rest ∷ after_of e rest
  in_parts =
      let next : e.skip - 1 ≡ suc (e.skip - 2) = omega arith in
      rw next (split_at rest (e.skip - 2) no_entry (omega arith))

  inside_length : length (inside_of e rest) ≡ e.skip - 2
  inside_length = length-take-le (e.skip - 2) rest (omega arith)

module _ (text : List ℕ) (bytes : Bytes text) where
  -- a word before records that nest
  after_word : (e : Entry) (rest : List Entry) (above : ℕ) → word_right (length text) e ≡ true → Built text above rest → Built text above (e ∷ rest)
  unfolding flat sound_forest depth all
  after_word e rest above h b = go (simp tested at h)
    where
      text_bytes_lem : Bytes (rec_of text e).text
      text_bytes_lem =
          all_take (λ b. ltb b 256) (e.stop - e.start) (drop e.start text) (all_drop (λ b. ltb b 256) e.start text bytes)

      go : (InText text e × (e.kind ≡ kinds.chars)) × (e.skip ≡ 1) → Built text above (e ∷ rest)
      go (p, s) =
          record {
            forest = word (rec_of text e).text b.forest;
            flat_is = rw (b.flat_is, p.1, s);
            sound = simp and_iff ((some_text text e p.0, text_bytes_lem), b.sound);
            shallow = b.shallow;
            texts = simp tested (p.0, b.texts);
          }

  -- a group before records that nest
  group_flat : (e c : Entry) (inside after : List Entry) (f g : Forest) → flat f ≡ map (rec_of text) inside → flat g ≡ map (rec_of text) after
      → (rec_of text e).text ≡ (delimiter e.kind).opening ∷ [] → (rec_of text c).text ≡ (delimiter e.kind).closing ∷ []
      → 2 + length inside ≡ e.skip → c.kind ≡ kinds.closer → c.skip ≡ 1
      → flat (group e.kind f g) ≡ map (rec_of text) (e ∷ (inside ++ c ∷ after))
  unfolding flat
  group_flat e c inside after f g p q r s u v w = rw (p, q, map-append (rec_of text), length-map, u, r, s, v, w)

  group_closed : (e : Entry) (rest : List Entry) (above : ℕ) → all (byte_right text) (e ∷ rest) ≡ true → opens e.kind ≡ true
      → (open_right (length text) e rest ≡ true) → close_right (length text) e (closer_of e rest) ≡ true
      → Built text (suc above) (inside_of e rest) → Built text above (after_of e rest) → Built text above (e ∷ rest)
  unfolding all sound_forest depth
  group_closed e rest above right o h k b a = go (simp tested at h) (simp tested at k) (simp and_iff at right)
    where
      c : Entry
      c = closer_of e rest

      within_text : Entry → Bool
      within_text = text_right (length text)

      go : ((OneByte text (delimiter e.kind).opening e × (2 ≤ e.skip)) × (e.skip ≤ 1 + length rest)) × (c.kind ≡ kinds.closer)
          → OneByte text (delimiter e.kind).closing c × (c.skip ≡ 1)
          → (byte_right text e ≡ true) × (all (byte_right text) rest ≡ true)
          → Built text above (e ∷ rest)
      go (((p, low), high), z) (u, w) (x, y) =
          let whole = in_parts e rest low high in
          let l : 2 + length (inside_of e rest) ≡ e.skip = rw (inside_length e rest low high) (omega arith) in
          record {
            forest = group e.kind b.forest a.forest;
            flat_is =
                group_flat e c (inside_of e rest) (after_of e rest) b.forest a.forest b.flat_is a.flat_is (one_byte text _ e x p)
                (one_byte text _ c (all_get_d (byte_right text) rest (e.skip - 2) no_entry y (omega arith)) u) l z w
                ∙ ap (λ l. map (rec_of text) (e ∷ l)) (sym whole);
            sound = simp and_iff ((simp and_iff at o, b.sound), a.sound);
            shallow = omega arith;
            texts =
                simp tested (
                  p.0,
                  ap (all within_text) whole
                      ∙ all_append within_text (inside_of e rest) (c ∷ after_of e rest)
                      ∙ simp tested (b.texts, (in_text text c u.0, a.texts)),
                );
          }

  pub built : (fuel : ℕ) (es : List Entry) (above : ℕ) → length es ≤ fuel → all (byte_right text) es ≡ true → above ≤ limits.depth
      → check_in (length text) fuel es above ≡ ok tt → Built text above es
  unfolding flat sound_forest depth all
  built zero [] above l b d h = record { forest = end; flat_is = refl; sound = refl; shallow = omega arith; texts = refl }
  built zero (e ∷ rest) above l b d h = absurd (omega arith)
  built (suc fuel) [] above l b d h = record { forest = end; flat_is = refl; sound = refl; shallow = omega arith; texts = refl }
  built (suc fuel) (e ∷ rest) above l b d h =
      let right : all (byte_right text) rest ≡ true = ((and_iff (byte_right text e) (all (byte_right text) rest)).0 b).1 in
      by_test (opens e.kind)
      (λ o.
      let k = opened (length text) fuel e rest above o h in
      group_closed e rest above b o k.opener k.closer
      (built fuel (inside_of e rest) (suc above) (simp length-take (omega arith)) (all_take (byte_right text) (e.skip - 2) rest right) k.room
      k.inside)
      (built fuel (after_of e rest) above (simp length-drop (omega arith)) (all_drop (byte_right text) (e.skip - 1) rest right) d k.after))
      (λ o. let (w, r) = word_kept (length text) fuel e rest above o h in after_word e rest above w (built fuel rest above (omega arith) right d r))
