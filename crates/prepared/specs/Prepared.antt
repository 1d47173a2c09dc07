-- The image of a tree that fits passes the check and reads back as the tree.
use Rattle.std.specs.Prelude.{◌≡◌, refl, ℕ, ◌+◌, ◌*◌, ◌^◌, ◌≤◌, ◌∷◌}
use Rattle.std.proofs.Common.{sym, ◌∙◌, add-zero, arith}
use Rattle.std.proofs.Math.Path.{ap}
use Rattle.std.proofs.lemmas.List.{length-map}
use Rattle.std.proofs.lemmas.Simd.{map-map}
use Rattle.definition.specs.Prelude.{true, List, [], map, length, get_or, leb}
use Rattle.definition.specs.Basics.{ok, sum, all, joined, tab}
use Rattle.definition.specs.Limits.{limits}
use Rattle.definition.specs.Image.{Rec, kinds, u32_at, tables_for, counts, tables, bytes_for, component_count, record_count, literal_width, start_at, entry_at, components_from, tree_of}
use Rattle.definition.specs.Check.{counts_right, offsets_right, entries_right, spares_zero, check_components, check_image}
use Rattle.definition.specs.Tree.{end, word, group, flat, sound_forest, depth, fits, Tree, Node, recs_of, all_recs, text_of, literals_of, packed, u32, image_of, sound_node}
use Rattle.prepared.specs.Statement.{entries_from, placed_from, placed_tree, PassesCheck, ReadBack}
use Rattle.laws.specs.Tests.{leb_iff, tested}
use Rattle.laws.specs.Lists.{length_joined, all_map, all_of, all_parts, joined_some}
use Rattle.prepared.specs.Bytes.{Holds, holds_left, holds_right, bytes_at_holds, u32_at_holds}
use Rattle.prepared.specs.Bits.{length_packed}
use Rattle.prepared.specs.Tables.{rows_read}
use Rattle.prepared.specs.Records.{text_some, entries_read}
use Rattle.prepared.specs.Components.{lengths, widths, sound_parts, recs_good, start_read, components_read, spares_zero_lem, components_pass}
use Rattle.prepared.specs.Layout.{Fits, fits_parts, concatenation_row, component_row, tables_of, Layout, layout}
use Rattle.prepared.specs.Written.{image_bytes}

-- of a tree within the limits, and a byte string laid out as its image
module _ (t : Tree) (f : Fits t) (s : List ℕ) (at : Layout t s) where
  -- ---- the header

  c_is : (counts s).c ≡ length t
  unfolding tab
  c_is = ap (λ (l : List ℕ). get_or l 0 0) at.header_read

  n_is : (counts s).n ≡ length (joined t)
  unfolding tab
  n_is = ap (λ (l : List ℕ). get_or l 1 0) at.header_read

  r_is : (counts s).r ≡ length (all_recs (joined t))
  unfolding tab
  r_is = ap (λ (l : List ℕ). get_or l 2 0) at.header_read

  t_is : (counts s).t ≡ length (text_of (all_recs (joined t)))
  unfolding tab
  t_is = ap (λ (l : List ℕ). get_or l 3 0) at.header_read

  b_is : (counts s).b ≡ length (literals_of (joined t))
  unfolding tab
  b_is = ap (λ (l : List ℕ). get_or l 4 0) at.header_read

  tables_is : tables s ≡ tables_of t
  tables_is i = tables_for (c_is i) (n_is i) (r_is i) (t_is i) (b_is i)

  records_is : (tables s).records ≡ (tables_of t).records
  records_is = ap (λ tables. tables.records) tables_is

  text_is : (tables s).text ≡ (tables_of t).text
  text_is = ap (λ tables. tables.text) tables_is

  literals_is : (tables s).literals ≡ (tables_of t).literals
  literals_is = ap (λ tables. tables.literals) tables_is

  -- ---- the tables

  -- numbers of components
  sizes_read : tab (component_count s) 0 (length t) ≡ map length t
  sizes_read =
      rows_read 4 concatenation_row (λ a. refl) (λ c. leb (length c) limits.components) s 40 (u32_at s) length
      (λ i a g h. let b = (leb_iff (length a) limits.components).0 g in u32_at_holds s i (length a) h (omega arith)) 0 t
      (all_parts (λ m. leb m limits.components) limits.components t (λ m b. (leb_iff m limits.components).1 b) f.components) at.concatenations

  components_at : Holds s ((tables s).components + 8 * 0) (joined (map component_row (joined t)))
  components_at = rw (c_is, add-zero) at.components

  -- numbers of records
  lengths_read : tab (record_count s) 0 (length (joined t)) ≡ lengths (joined t)
  lengths_read =
      rows_read 8 component_row (λ a. refl) (λ n. leb (length (recs_of n)) limits.records) s (tables s).components (u32_at s) (λ n. length (recs_of n))
      (λ i a g h.
      let b = (leb_iff (length (recs_of a)) limits.records).0 g in
      u32_at_holds s i (length (recs_of a)) (holds_left s i (u32 (length (recs_of a))) (u32 (length a.bits)) h) (omega arith)) 0 (joined t)
      (rw (← all_map (λ (x : List Rec). leb (length x) limits.records) recs_of (joined t))
      (all_parts (λ m. leb m limits.records) limits.records (map recs_of (joined t)) (λ m b. (leb_iff m limits.records).1 b) f.records)) components_at

  -- literal widths
  widths_read : tab (literal_width s) 0 (length (joined t)) ≡ widths (joined t)
  widths_read =
      rows_read 8 component_row (λ a. refl) sound_node s (tables s).components (λ i. u32_at s (i + 4)) (λ n. length n.bits)
      (λ i a g h.
      let b = (sound_parts a g).width in
      u32_at_holds s (i + 4) (length a.bits) (holds_right s i (u32 (length (recs_of a))) (u32 (length a.bits)) h) (omega arith)) 0 (joined t)
      f.sound components_at

  -- the record table
  entries_are : tab (entry_at s) 0 (length (all_recs (joined t))) ≡ entries_from 0 (all_recs (joined t))
  entries_are =
      let b = f.records in
      let b' = f.text in
      entries_read s (tables_of t).records (tables_of t).text (length (all_recs (joined t))) (length (text_of (all_recs (joined t))))
      records_is text_is r_is t_is (omega arith) (omega arith) 0 0 (all_recs (joined t))
      (recs_good (2 ^ 30) (joined t) f.sound (omega arith)) (omega arith) (omega arith) (rw add-zero at.records) (rw add-zero at.text)

  text_at : Holds s (tables s).text (text_of (all_recs (joined t)))
  text_at = rw text_is at.text

  components_are : components_from s 0 0 0 (length (joined t)) ≡ placed_from 0 (joined t)
  components_are =
      components_read s (tables_of t).text (tables_of t).literals text_is literals_is
      0 0 0 0 (joined t) f.sound entries_are lengths_read widths_read (rw add-zero at.text) (rw add-zero at.literals)

  tree_is : tree_of s ≡ placed_tree t
  unfolding tree_of placed_tree
  tree_is = rw (c_is, n_is, sizes_read, components_are)

  -- ---- the check

  some_node : 1 ≤ length (joined t)
  some_node = joined_some t f.some_concatenation f.some_component

  all_some : all (λ n. leb 1 (length (recs_of n))) (joined t) ≡ true
  all_some = all_of sound_node (λ n. leb 1 (length (recs_of n))) (joined t) (λ n g. (leb_iff 1 (length (recs_of n))).1 (sound_parts n g).some_record) f.sound

  some_record : 1 ≤ length (all_recs (joined t))
  some_record =
      let n = some_node in
      joined_some (map recs_of (joined t)) (rw length-map n) (rw all_map all_some)

  some_text : 1 ≤ length (text_of (all_recs (joined t)))
  some_text = text_some (2 ^ 30) (all_recs (joined t)) some_record (let b = f.records in recs_good (2 ^ 30) (joined t) f.sound (omega arith))

  counts_right_lem : counts_right s ≡ true
  counts_right_lem =
      rw (c_is, n_is, r_is, t_is, b_is)
      (simp tested
      (((((f.some_concatenation, f.concatenations), (some_node, f.components)), (some_record, f.records)), (some_text, f.text)), f.literals))

  offsets_right_lem : offsets_right s ≡ true
  unfolding tab
  offsets_right_lem =
      let o₁ : u32_at s 20 ≡ (tables_of t).concatenations = ap (λ (l : List ℕ). get_or l 5 0) at.header_read in
      let o₂ : u32_at s 24 ≡ (tables_of t).components = ap (λ (l : List ℕ). get_or l 6 0) at.header_read in
      let o₃ : u32_at s 28 ≡ (tables_of t).records = ap (λ (l : List ℕ). get_or l 7 0) at.header_read in
      let o₄ : u32_at s 32 ≡ (tables_of t).text = ap (λ (l : List ℕ). get_or l 8 0) at.header_read in
      let o₅ : u32_at s 36 ≡ (tables_of t).literals = ap (λ (l : List ℕ). get_or l 9 0) at.header_read in
      let size = at.size in
      rw (o₁, o₂, o₃, o₄, o₅, size, c_is, n_is, r_is, t_is, b_is) (simp tested ((((refl, refl), refl), refl), refl))

  spares_right : spares_zero s 0 (widths (joined t)) ≡ true
  spares_right =
      spares_zero_lem s (tables_of t).text (tables_of t).literals text_is literals_is
      0 (joined t) f.sound (rw add-zero at.literals)

  entries_right_lem : entries_right s ≡ true
  entries_right_lem =
      let records : sum (lengths (joined t)) ≡ length (all_recs (joined t)) = sym (length_joined (map recs_of (joined t)) ∙ rw map-map) in
      let literals : sum (map bytes_for (widths (joined t))) ≡ length (literals_of (joined t)) =
      sym (length_joined (map (λ (n : Node). packed n.bits) (joined t)) ∙ simp (map-map, length_packed)) in
      rw (c_is, n_is, r_is, b_is, sizes_read, lengths_read, widths_read)
      (simp tested (
        (
          (
            (((rw all_map f.some_component, sym (length_joined t)), rw all_map all_some), records),
            rw all_map (all_of sound_node (λ n. leb (length n.bits) limits.width) (joined t) (λ n g. (leb_iff (length n.bits) limits.width).1 (sound_parts n g).width) f.sound),
          ),
          literals,
        ),
        spares_right,
      ))

  start_right : start_at s 0 ≡ 0
  start_right = start_read s 0 0 (all_recs (joined t)) some_record entries_are

  records_right : check_components s 0 (tab (record_count s) 0 (counts s).n) ≡ ok tt
  records_right =
      rw (n_is, lengths_read)
      (components_pass s (length (text_of (all_recs (joined t)))) t_is 0 0 (joined t) f.sound entries_are (omega arith))

  passes : check_image s ≡ ok tt
  unfolding check_image
  passes =
      let size = at.size in
      let long : leb 40 (length s) ≡ true = (leb_iff 40 (length s)).1 (omega arith) in
      rw (long, counts_right_lem, offsets_right_lem, entries_right_lem, start_right) records_right

-- a tree that meets the premise: `a(b)` with the three bits 101
example : Tree
example = (record { forest = word (97 ∷ []) (group kinds.parenthesis (word (98 ∷ []) end) end); bits = 1 ∷ 0 ∷ 1 ∷ [] } ∷ []) ∷ []

example_fits : fits example ≡ true
unfolding example fits joined all flat text_of packed sum tab sound_forest depth
example_fits = refl

pub passes_check : PassesCheck
passes_check t h = let f = fits_parts t h in passes t f (image_of t) (layout t f)

pub read_back : ReadBack
read_back t h =
    let f = fits_parts t h in
    let at = layout t f in
    record {
      concatenations = c_is t f (image_of t) at;
      components = n_is t f (image_of t) at;
      records = r_is t f (image_of t) at;
      text_bytes = t_is t f (image_of t) at;
      literal_bytes = b_is t f (image_of t) at;
      entries = entries_are t f (image_of t) at;
      text = bytes_at_holds (image_of t) (tables (image_of t)).text (text_of (all_recs (joined t))) (text_at t f (image_of t) at);
      tree = tree_is t f (image_of t) at;
      bytes = image_bytes t f;
    }
