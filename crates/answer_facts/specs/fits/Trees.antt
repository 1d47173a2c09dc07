-- The tree of an image that passes the check: as many concatenations, components and literal bytes as the header says, and short literals.
use Rattle.std.specs.Prelude.{◌≡◌, ◌≤◌, ◌+◌, ◌/◌, ◌%◌, ◌^◌}
use Rattle.std.proofs.Math.Path.{refl, ap, ap₂}
use Rattle.std.proofs.Common.{◌∙◌, arith}
use Rattle.definition.specs.Prelude.{ℕ, zero, suc, true, List, map, length, get_or, drop, leb, ltb}
use Rattle.definition.specs.Basics.{ok, sum, all, joined, tab}
use Rattle.definition.specs.Limits.{limits}
use Rattle.definition.specs.Image.{Unparsed, Placed, bytes_for, bits_at, counts, tables, component_count, record_count, literal_width, components_from, parts, tree_of}
use Rattle.definition.specs.Check.{spares_zero, check_image}
use Rattle.laws.specs.Tests.{and_iff, leb_iff}
use Rattle.laws.specs.Lists.{length_tab, all_tab}
use Rattle.prepared.specs.Bits.{Bits}
use Rattle.prepared.specs.back.Every.{entries_say, all_tested}
use Rattle.answer_facts.specs.read.Facts.{Every, every_nil, every_cons}
use Rattle.answer_facts.specs.read.Placement.{joined_parts, length_parts}
use Rattle.answer_facts.specs.read.Trees.{total}
use Rattle.answer_facts.specs.fits.Staged.{ShortBefore, weight_before}

module _ (image : List ℕ) where
  length_from : (k r l n : ℕ) → length (components_from image k r l n) ≡ n
  unfolding components_from
  length_from k r l zero = refl
  length_from k r l (suc n) = ap suc (length_from (suc k) (r + record_count image k) (l + bytes_for (literal_width image k)) n)

  -- a component has as many bits as its literal's width
  weight_from : (g : ℕ → ℕ) (k r l n : ℕ) → total (weight_before g) (components_from image k r l n) ≡ sum (map g (tab (literal_width image) k n))
  unfolding components_from tab sum
  weight_from g k r l zero = refl
  weight_from g k r l (suc n) =
      let w = literal_width image k in
      ap₂ ◌+◌ (ap g (length_tab (λ i. get_or (drop ((tables image).literals + l) image) (i / 8) 0 / 2 ^ (i % 8) % 2) 0 w))
      (weight_from g (suc k) (r + record_count image k) (l + bytes_for w) n)

  bits_read : (at w : ℕ) → Bits (bits_at image at w)
  bits_read at w =
      all_tab (λ b. ltb b 2) (λ i. get_or (drop at image) (i / 8) 0 / 2 ^ (i % 8) % 2)
      (λ i. (leb_iff (suc (get_or (drop at image) (i / 8) 0 / 2 ^ (i % 8) % 2)) 2).1 (omega arith)) 0 w

  short_from : (k r l n : ℕ) → all (λ w. leb w limits.width) (tab (literal_width image) k n) ≡ true → Every ShortBefore (components_from image k r l n)
  unfolding components_from tab all
  short_from k r l zero h = every_nil
  short_from k r l (suc n) h =
      let w = literal_width image k in
      let at = (tables image).literals + l in
      let (p, q) = (and_iff (leb w limits.width) (all (λ w. leb w limits.width) (tab (literal_width image) (suc k) n))).0 h in
      let e : length (bits_at image at w) ≡ w = length_tab (λ i. get_or (drop at image) (i / 8) 0 / 2 ^ (i % 8) % 2) 0 w in
      let narrow : length (bits_at image at w) ≤ limits.width = rw e ((leb_iff w limits.width).0 p) in
      every_cons (narrow, bits_read at w)
      (short_from (suc k) (r + record_count image k) (l + bytes_for w) n q)

pub record Counted (image : List ℕ) (t : List (List (Placed Unparsed))) : Type 0 where
  pub concatenations : length t ≡ (counts image).c
  pub components : length (joined t) ≡ (counts image).n
  pub literals : total (weight_before bytes_for) (joined t) ≡ (counts image).b
  pub short : Every ShortBefore (joined t)

pub tree_counted : (image : List ℕ) → check_image image ≡ ok tt → Counted image (tree_of image)
unfolding tree_of
tree_counted image h =
    let e =
    entries_say (all (leb 1) sizes) (all (leb 1) lengths) (all (λ w. leb w limits.width) widths) (spares_zero image 0 widths) (sum sizes) (sum lengths)
    (sum (map bytes_for widths)) n (counts image).r (counts image).b (all_tested image h).entered in
    go e.0.0.0.0.0.1 e.0.0.1 e.0.1
  where
    n : ℕ
    n = (counts image).n

    sizes : List ℕ
    sizes = tab (component_count image) 0 (counts image).c

    lengths : List ℕ
    lengths = tab (record_count image) 0 n

    widths : List ℕ
    widths = tab (literal_width image) 0 n

    us : List (Placed Unparsed)
    us = components_from image 0 0 0 n

    go : sum sizes ≡ n → all (λ w. leb w limits.width) widths ≡ true → sum (map bytes_for widths) ≡ (counts image).b → Counted image (parts sizes us)
    go e narrow bytes =
        let l = length_from image 0 0 0 n in
        let whole : joined (parts sizes us) ≡ us = joined_parts sizes us (omega arith) in
        record {
          concatenations = length_parts sizes us ∙ length_tab (component_count image) 0 (counts image).c;
          components = ap length whole ∙ l;
          literals = ap (total (weight_before bytes_for)) whole ∙ weight_from image bytes_for 0 0 0 n ∙ bytes;
          short = rw whole (short_from image 0 0 0 n narrow);
        }
