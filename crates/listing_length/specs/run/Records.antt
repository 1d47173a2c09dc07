-- The records of an image that passes the check have T bytes of text in all: their text starts rise from 0 to T.
use Rattle.std.specs.Prelude.{◌≡◌, ◌≤◌, ◌<◌, ◌+◌, ◌*◌, ◌-◌, ◌∷◌, if◌then◌else◌}
use Rattle.std.proofs.Math.Path.{refl, ap}
use Rattle.std.proofs.Common.{◌∙◌, zero-add, take-append-drop, length-take, length-drop, eq-eqb, ne_eqb}
use Rattle.std.proofs.Math.Numerals.{add-one}
use native.Mathlib.Omega.{arith}
use Rattle.std.proofs.Math.ListN.{length-append}
use Rattle.definition.specs.Prelude.{ℕ, zero, suc, Bool, true, List, [], length, take, drop, eqb}
use Rattle.definition.specs.Basics.{ok, sum, all, joined, tab}
use Rattle.definition.specs.Image.{Entry, bytes_at, bytes_for, counts, tables, component_count, record_count, literal_width, start_at, entry_at, recs_from, components_from, parts, opens, tree_of}
use Rattle.definition.specs.Check.{text_right, word_right, inside_of, closer_of, after_of, open_right, close_right, check_in, check_components, check_image}
use Rattle.definition.specs.Tree.{text_of}
use Rattle.laws.specs.Tests.{by_test, and_iff, tested}
use Rattle.laws.specs.Lists.{length_tab, tab_add, all_append, sum_tab_add}
use Rattle.laws.specs.Padded.{length_padded}
use Rattle.prepared.specs.back.Groups.{opened, word_kept, in_parts}
use Rattle.prepared.specs.back.Every.{component_step, all_tested}
use Rattle.answer_facts.specs.read.Trees.{total, total_append}
use Rattle.listing_length.specs.run.Stages.{twice}

-- ---- each record's text ends after it starts

-- what the check of an opener, of a closer and of a word says of its text
open_text : (t : ℕ) (e : Entry) (rest : List Entry) → open_right t e rest ≡ true → (text_right t e ≡ true) × ((2 ≤ e.skip) × (e.skip ≤ 1 + length rest))
open_text t e rest h = let h' = simp tested at h in (simp tested h'.0.0.0.0, (h'.0.0.1, h'.0.1))

close_text : (t : ℕ) (e c : Entry) → close_right t e c ≡ true → text_right t c ≡ true
close_text t e c h = let h' = simp tested at h in simp tested h'.0.0

word_text : (t : ℕ) (e : Entry) → word_right t e ≡ true → text_right t e ≡ true
word_text t e h = let h' = simp tested at h in simp tested h'.0.0

all_cons : (p : Entry → Bool) (e : Entry) (es : List Entry) → p e ≡ true → all p es ≡ true → all p (e ∷ es) ≡ true
unfolding all
all_cons p e es h k = (and_iff (p e) (all p es)).1 (h, k)

walk_texts : (t fuel : ℕ) (es : List Entry) (above : ℕ) → length es ≤ fuel → check_in t fuel es above ≡ ok tt → all (text_right t) es ≡ true
unfolding all
walk_texts t zero [] above l h = refl
walk_texts t zero (e ∷ rest) above l h = absurd (omega arith)
walk_texts t (suc fuel) [] above l h = refl
walk_texts t (suc fuel) (e ∷ rest) above l h =
    by_test (opens e.kind)
    (λ o.
    let k = opened t fuel e rest above o h in
    let (x, (low, high)) = open_text t e rest k.opener in
    let inside = walk_texts t fuel (inside_of e rest) (suc above) (simp length-take (omega arith)) k.inside in
    let after = walk_texts t fuel (after_of e rest) above (simp length-drop (omega arith)) k.after in
    let closer = all_cons (text_right t) (closer_of e rest) (after_of e rest) (close_text t e (closer_of e rest) k.closer) after in
    all_cons (text_right t) e rest x
    (ap (all (text_right t)) (in_parts e rest low high) ∙ all_append (text_right t) (inside_of e rest) (closer_of e rest ∷ after_of e rest)
    ∙ (and_iff (all (text_right t) (inside_of e rest)) (all (text_right t) (closer_of e rest ∷ after_of e rest))).1 (inside, closer)))
    (λ o.
    let (w, r) = word_kept t fuel e rest above o h in
    all_cons (text_right t) e rest (word_text t e w) (walk_texts t fuel rest above (omega arith) r))

module _ (image : List ℕ) where
  abbrev T : ℕ
  T = (counts image).t

  abbrev R : ℕ
  R = (counts image).r

  records_text : (n k r : ℕ) → check_components image r (tab (record_count image) k n) ≡ ok tt
      → all (text_right T) (tab (entry_at image) r (sum (tab (record_count image) k n))) ≡ true
  unfolding tab sum all
  records_text zero k r h = refl
  records_text (suc n) k r h =
      let c = record_count image k in
      let rest = tab (record_count image) (suc k) n in
      let (p, q) = component_step image r c rest h in
      let here = walk_texts T c (tab (entry_at image) r c) 0 (rw length_tab (omega arith)) p in
      let later = records_text n (suc k) (r + c) q in
      ap (all (text_right T)) (tab_add (entry_at image) r c (sum rest))
      ∙ all_append (text_right T) (tab (entry_at image) r c) (tab (entry_at image) (r + c) (sum rest))
      ∙ (and_iff (all (text_right T) (tab (entry_at image) r c)) (all (text_right T) (tab (entry_at image) (r + c) (sum rest)))).1 (here, later)

  -- ---- the bytes of one record after the other

  abbrev length_at : ℕ → ℕ
  length_at i = (entry_at image i).stop - (entry_at image i).start

  -- where the text of record i begins, and that of the one before it ends
  abbrev seam : ℕ → ℕ
  seam i = if eqb i R then T else start_at image i

  rising : (n i : ℕ) → i + n ≡ R → all (text_right T) (tab (entry_at image) i n) ≡ true → sum (tab length_at i n) + seam i ≤ T
  unfolding tab sum all
  rising zero i e h = rw (eq-eqb i R (omega arith)) (omega arith)
  rising (suc n) i e h =
      go (rw (add-one i) at (simp tested at h).0) (rising n (suc i) (omega arith) (simp and_iff at h).1)
    where
      go : (start_at image i < T) × (start_at image i < seam (suc i)) → sum (tab length_at (suc i) n) + seam (suc i) ≤ T
          → length_at i + sum (tab length_at (suc i) n) + seam i ≤ T
      go (p, q) l =
          let first : seam i ≡ start_at image i = rw (ne_eqb i R (λ z. omega arith)) in
          rw (first, add-one i) (omega (arith, p, q, l))

  recs_length : (c from r : ℕ) → length (text_of (recs_from image from r c)) ≡ sum (tab length_at r c)
  unfolding recs_from text_of sum tab
  recs_length zero from r = refl
  recs_length (suc c) from r =
      let n = length_at r in
      omega (arith, length-append (bytes_at image from n) (text_of (recs_from image (from + n) (suc r) c)), length_padded n (drop from image), recs_length c (from + n) (suc r))

  components_length : (n k r l : ℕ) → total twice (components_from image k r l n) ≡ 2 * sum (tab length_at r (sum (tab (record_count image) k n)))
  unfolding components_from sum tab
  components_length zero k r l = refl
  components_length (suc n) k r l =
      let c = record_count image k in
      let rest = tab (record_count image) (suc k) n in
      omega (
        arith,
        recs_length c ((tables image).text + start_at image r) r,
        components_length n (suc k) (r + c) (l + bytes_for (literal_width image k)),
        sum_tab_add length_at r c (sum rest),
      )

-- ---- the tree

parts_total : {A : Type 0} (w : A → ℕ) (ns : List ℕ) (l : List A) → total w (joined (parts ns l)) ≤ total w l
unfolding parts joined sum
parts_total w [] l = omega arith
parts_total w (n ∷ ns) l =
    omega (
      arith,
      total_append w (take n l) (joined (parts ns (drop n l))),
      parts_total w ns (drop n l),
      total_append w (take n l) (drop n l),
      ap (total w) (take-append-drop n l),
    )

pub tree_text : (image : List ℕ) → check_image image ≡ ok tt → total twice (joined (tree_of image)) ≤ 2 * (counts image).t
unfolding tree_of
tree_text image h =
    let k = all_tested image h in
    let n = (counts image).n in
    let records : sum (tab (record_count image) 0 n) ≡ (counts image).r = (simp tested at k.entered).0.0.0.1 in
    let texts = rw records at (records_text image n 0 0 k.walked) in
    omega (
      arith,
      parts_total twice (tab (component_count image) 0 (counts image).c) (components_from image 0 0 0 n),
      components_length image n 0 0 0,
      ap (λ m. sum (tab (length_at image) 0 m)) records,
      rising image (counts image).r 0 (zero-add (counts image).r) texts,
    )
