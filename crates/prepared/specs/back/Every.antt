-- Every byte string that passes the image check is the image of a tree that fits.
use Rattle.std.specs.Prelude.{◌≡◌, refl, ◌≤◌, ◌<◌, ◌+◌, ◌/◌, ◌%◌, ◌^◌, ◌&&◌, ◌∷◌, ◌++◌, if◌then◌else◌}
use Rattle.std.proofs.Common.{arith, ne_eqb}
use Rattle.definition.specs.Prelude.{ℕ, zero, suc, Bool, true, List, [], map, length, get_or, take, leb, ltb, eqb}
use Rattle.definition.specs.Basics.{ok, within, sum, all, joined, tab}
use Rattle.definition.specs.Limits.{limits}
use Rattle.definition.specs.Refusals.{short_image, bad_count, bad_offset, bad_entry, bad_record}
use Rattle.definition.specs.Image.{u32_at, bytes_for, counts, tables, record_count, literal_width, start_at, entry_at}
use Rattle.definition.specs.Check.{counts_right, offsets_right, spares_zero, entries_right, check_in, check_components, check_image}
use Rattle.definition.specs.Tree.{u32}
use Rattle.prepared.specs.Statement.{Bytes, EveryImage}
use Rattle.laws.specs.Tests.{and_iff, leb_iff, eqb_iff, tested}
use Rattle.laws.specs.Results.{bind_ok, need_then}
use Rattle.prepared.specs.back.Nodes.{AllPassed}
use Rattle.prepared.specs.back.Tables.{singles}
use Rattle.prepared.specs.back.Whole.{text_size_lem, Checked, built_tree}

module _ (image : List ℕ) where
  -- one step of the walk over the spare bits, and of the walk over the components
  spare_step : (l w : ℕ) (ws : List ℕ) → spares_zero image l (w ∷ ws) ≡ true
      → (0 < w % 8 → get_or image ((tables image).literals + l + w / 8) 0 < 2 ^ (w % 8)) × (spares_zero image (l + bytes_for w) ws ≡ true)
  unfolding spares_zero
  spare_step l w ws h =
      let last = get_or image ((tables image).literals + l + w / 8) 0 in
      let (p, rest) = (and_iff (if eqb (w % 8) 0 then true else ltb last (2 ^ (w % 8))) (spares_zero image (l + bytes_for w) ws)).0 h in
      (λ some. (leb_iff (suc last) (2 ^ (w % 8))).0 (rw (ne_eqb (w % 8) 0 (λ e. omega arith)) at p), rest)

  pub component_step : (r n : ℕ) (ns : List ℕ) → check_components image r (n ∷ ns) ≡ ok tt
      → (check_in (counts image).t n (tab (entry_at image) r n) 0 ≡ ok tt) × (check_components image (r + n) ns ≡ ok tt)
  unfolding check_components
  component_step r n ns h = let (_, p, q) = bind_ok (check_in (counts image).t n (tab (entry_at image) r n) 0) _ h in (p, q)

  -- so the check of all components is one of each
  all_passed : (text : List ℕ) → length text ≡ (counts image).t → (n k r l : ℕ)
      → check_components image r (tab (record_count image) k n) ≡ ok tt → all (leb 1) (tab (record_count image) k n) ≡ true
      → all (λ w. leb w limits.width) (tab (literal_width image) k n) ≡ true → spares_zero image l (tab (literal_width image) k n) ≡ true
      → AllPassed image text (tables image).literals (record_count image) (literal_width image) (entry_at image) k r l n
  unfolding tab all
  all_passed text size zero k r l walk some narrow spares = tt
  all_passed text size (suc n) k r l walk some narrow spares =
      let count = record_count image k in
      let width = literal_width image k in
      let counts' = tab (record_count image) (suc k) n in
      let widths' = tab (literal_width image) (suc k) n in
      let (p, walk') = component_step r count counts' walk in
      let (q, spares') = spare_step l width widths' spares in
      let (s, some') = (and_iff (leb 1 count) (all (leb 1) counts')).0 some in
      let (w, narrow') = (and_iff (leb width limits.width) (all (λ w. leb w limits.width) widths')).0 narrow in (
        record { some_records = (leb_iff 1 count).0 s; records = rw size p; narrow = (leb_iff width limits.width).0 w; spare = q },
        all_passed text size n (suc k) (r + count) (l + bytes_for width) walk' some' narrow' spares',
      )

  -- the header is what its numbers write
  head_of : Bytes image → 40 ≤ length image
      → (a b c d e : ℕ) → u32_at image 20 ≡ a → u32_at image 24 ≡ b → u32_at image 28 ≡ c → u32_at image 32 ≡ d → u32_at image 36 ≡ e
      → joined (map u32 (u32_at image 0 ∷ u32_at image 4 ∷ u32_at image 8 ∷ u32_at image 12 ∷ u32_at image 16 ∷ a ∷ b ∷ c ∷ d ∷ e ∷ [])) ≡ take 40 image
  unfolding joined tab
  head_of bytes long a b c d e p q r s t = rw (← p, ← q, ← r, ← s, ← t) (singles image bytes 0 10 long)

-- the three conjunctions of tests, over plain numbers
pub counts_say : (c n r t b c' n' r' t' b' : ℕ) → (within 1 c' c && within 1 n' n && within 1 r' r && within 1 t' t && leb b b') ≡ true
    → (((((1 ≤ c) × (c ≤ c')) × ((1 ≤ n) × (n ≤ n'))) × ((1 ≤ r) × (r ≤ r'))) × ((1 ≤ t) × (t ≤ t'))) × (b ≤ b')
counts_say c n r t b c' n' r' t' b' h = simp tested at h

pub offsets_say : (a b c d e f a' b' c' d' e' f' : ℕ) → (eqb a a' && eqb b b' && eqb c c' && eqb d d' && eqb e e' && eqb f f') ≡ true
    → (((((a ≡ a') × (b ≡ b')) × (c ≡ c')) × (d ≡ d')) × (e ≡ e')) × (f ≡ f')
offsets_say a b c d e f a' b' c' d' e' f' h = simp tested at h

pub entries_say : (p q s u : Bool) (a b c a' b' c' : ℕ) → (p && eqb a a' && q && eqb b b' && s && eqb c c' && u) ≡ true
    → ((((((p ≡ true) × (a ≡ a')) × (q ≡ true)) × (b ≡ b')) × (s ≡ true)) × (c ≡ c')) × (u ≡ true)
entries_say p q s u a b c a' b' c' h = simp tested at h

-- the tests of the image check, one after the other
pub record Tested (image : List ℕ) : Type 0 where
  pub long : leb 40 (length image) ≡ true
  pub counted : counts_right image ≡ true
  pub placed : offsets_right image ≡ true
  pub entered : entries_right image ≡ true
  pub first : eqb (start_at image 0) 0 ≡ true
  pub walked : check_components image 0 (tab (record_count image) 0 (counts image).n) ≡ ok tt

pub all_tested : (image : List ℕ) → check_image image ≡ ok tt → Tested image
unfolding check_image
all_tested image h =
    let (p, h₁) = need_then (leb 40 (length image)) short_image _ h in
    let (q, h₂) = need_then (counts_right image) bad_count _ h₁ in
    let (o, h₃) = need_then (offsets_right image) bad_offset _ h₂ in
    let (e, h₄) = need_then (entries_right image) bad_entry _ h₃ in
    let (f, w) = need_then (eqb (start_at image 0) 0) bad_record _ h₄ in
    record { long = p; counted = q; placed = o; entered = e; first = f; walked = w }

checked : (image : List ℕ) → Bytes image → Tested image → let h = counts image in Checked image h.c h.n h.r h.t h.b
checked image bytes k =
    let h = counts image in
    let q = counts_say _ _ _ _ _ _ _ _ _ _ k.counted in
    let o = offsets_say _ _ _ _ _ _ _ _ _ _ _ _ k.placed in
    let e = entries_say _ _ _ _ _ _ _ _ _ _ k.entered in
    record {
      stop = o.1;
      head =
          head_of image bytes ((leb_iff 40 (length image)).0 k.long) _ _ _ _ _
          o.0.0.0.0.0 o.0.0.0.0.1 o.0.0.0.1 o.0.0.1 o.0.1;
      concatenations = q.0.0.0.0;
      components = q.0.0.0.1.1;
      records = q.0.0.1;
      text_bytes = q.0.1.1;
      literal_bytes = q.1;
      sizes = e.0.0.0.0.0.0;
      all_components = e.0.0.0.0.0.1;
      all_records = e.0.0.0.1;
      all_literals = e.0.1;
      first = (eqb_iff (start_at image 0) 0).0 k.first;
      passed =
          all_passed image _ (text_size_lem image h.c h.n h.r h.t h.b o.1) h.n 0 0 0 k.walked e.0.0.0.0.1 e.0.0.1 e.1;
    }

pub every_image : EveryImage
every_image image bytes passes =
    let h = counts image in
    built_tree image h.c h.n h.r h.t h.b bytes (checked image bytes (all_tested image passes))

-- a byte string that meets the premises: one component `(a)` with a literal of three bits
witness : let image =
    joined (map u32 (1 ∷ 1 ∷ 3 ∷ 3 ∷ 1 ∷ 40 ∷ 44 ∷ 52 ∷ 88 ∷ 91 ∷ 1 ∷ 3 ∷ 3 ∷ 2 ∷ 0 ∷ 3 ∷ 0 ∷ 1 ∷ 1 ∷ 5 ∷ 2 ∷ 1 ∷ [])) ++ 40 ∷ 97 ∷ 41 ∷ 5 ∷ [] in
    Bytes image × (check_image image ≡ ok tt)
unfolding joined all tab sum spares_zero check_in check_components check_image
witness = (refl, refl)
