-- The answer's bytes, read back at document 01's offsets, say what the stages' answer says.
use Rattle.std.specs.Prelude.{◌≡◌, refl, ℕ, suc, ◌+◌, ◌*◌, ◌^◌, ◌≤◌, ◌<◌, ◌∷◌, ◌++◌}
use Rattle.std.proofs.Math.Path.{sym, ap}
use Rattle.std.proofs.Common.{◌∙◌, le_trans, add-zero, arith, length-append}
use Rattle.std.proofs.lemmas.Simd.{map-map}
use Rattle.std.proofs.lemmas.List.{length-map, map-append}
use Rattle.definition.specs.Prelude.{Option, none, some, List, [], map, length, leb}
use Rattle.definition.specs.Basics.{sum, tab, joined}
use Rattle.definition.specs.Limits.{limits, sizes}
use Rattle.definition.specs.Image.{Placed, u32_at, bytes_at, tables}
use Rattle.definition.specs.Tree.{image_of, all_recs, text_of, u32}
use Rattle.definition.specs.Text.{Part, no_text}
use Rattle.definition.specs.Component.{Component}
use Rattle.definition.specs.Concatenation.{Concatenation, align_number}
use Rattle.definition.specs.Answer.{Answer, components, flag, width_bytes, text_bytes, head_bytes, concatenation_bytes, components_bytes, literal_bytes, answer_bytes, Concat, width_at, text_at, concat_at, field_at, read_answer}
use Rattle.laws.specs.Tests.{leb_iff}
use Rattle.laws.specs.Lists.{all_map, all_parts}
use Rattle.prepared.specs.Bytes.{Holds, holds_whole, u32_at_holds}
use Rattle.prepared.specs.Tables.{length_rows, rows_read}
use Rattle.prepared.specs.Layout.{fits_parts}
use Rattle.prepared.specs.Prepared.{read_back}
use Rattle.answer_facts.specs.read.Statement.{erase, erase_concatenation, erase_answer, shown_number, shown_group, shown_fields, shown, ReadsAnswer}
use Rattle.answer_facts.specs.read.Erase.{erase_init}
use Rattle.answer_facts.specs.read.Facts.{Found, found}
use Rattle.answer_facts.specs.read.Trees.{total, size_of, PartWithin, Fitting}
use Rattle.answer_facts.specs.read.Placement.{answer_fits}
use Rattle.answer_facts.specs.read.Blocks.{u32_at_in, holds_next, four_parts, length_text, text_read}
use Rattle.answer_facts.specs.read.Fields.{length_components, fields_read}

pub shown_small : (n : ℕ) → n < 2 ^ 32 → shown_number n ≡ n
shown_small n h = u32_at_holds (u32 n) 0 n (holds_whole (u32 n)) h

-- ---- concatenations

abbrev read_group : List ℕ → ℕ → Concat
read_group s at = record { size = u32_at s at; align = u32_at s (at + 4); flags = u32_at s (at + 8); width = width_at s (at + 12) }

group_read : (s : List ℕ) (i : ℕ) (c : Concatenation) → length c.comps < 2 ^ 32 → Holds s i (concatenation_bytes c)
    → read_group s i ≡ shown_group (erase_concatenation c)
group_read s i c b h =
    let word : (j k : ℕ) → i + j ≡ k → j + 4 ≤ sizes.concatenation → u32_at s k ≡ u32_at (concatenation_bytes c) j =
    λ j k e l. u32_at_in s i (concatenation_bytes c) j k h e l in
    let size : u32_at s i ≡ length (map erase c.comps) = word 0 i (add-zero i) (omega arith) ∙ shown_small (length c.comps) b ∙ sym (length-map c.comps erase) in
    let align = word 4 (i + 4) refl (omega arith) in
    let flags = word 8 (i + 8) refl (omega arith) in
    let low = word 12 (i + 12) refl (omega arith) in
    let high = word 16 (i + 12 + 4) (omega arith) (omega arith) in
    λ k. record { size = size k; align = align k; flags = flags k; width = low k + 2 ^ 32 * high k }

groups_read : (s : List ℕ) (size : ℕ) (cc : List Concatenation) → length (joined (map (λ c. c.comps) cc)) ≤ size → size < 2 ^ 32
    → Holds s sizes.head (joined (map concatenation_bytes cc)) → tab (concat_at s) 0 (length cc) ≡ map shown_group (map erase_concatenation cc)
groups_read s size cc l b h =
    rows_read sizes.concatenation concatenation_bytes (λ c. refl) (λ c. leb (length c.comps) size) s sizes.head (read_group s) (λ c. shown_group (erase_concatenation c))
    (λ i c g h. let m = (leb_iff (length c.comps) size).0 g in group_read s i c (omega arith) h) 0 cc
    (rw (← all_map (λ (x : List (Placed Component)). leb (length x) size) (λ (c : Concatenation). c.comps) cc)
    (all_parts (λ m. leb m size) size (map (λ c. c.comps) cc) (λ m b. (leb_iff m size).1 b) l)) h
    ∙ sym (map-map shown_group erase_concatenation cc)

-- ---- components without their text starts

erased_components : (cc : List Concatenation) → joined (map (λ c. c.comps) (map erase_concatenation cc)) ≡ map erase (joined (map (λ c. c.comps) cc))
unfolding joined
erased_components [] = refl
erased_components (c ∷ cc) = rw (erased_components cc, map-append)

-- each component counts in the size
length_total : (cs : List (Placed Component)) → length cs ≤ total size_of cs
unfolding sum
length_total [] = omega arith
length_total (c ∷ cs) = let l = length_total cs in omega arith

-- ---- the head

-- whether there is a starting value, as its flag, and its text
abbrev pub start_flag : Option (Placed Part) → ℕ
start_flag x = elim x [ none ↦ 0 | some p ↦ 4 ]

abbrev init_text : Option (Placed Part) → List ℕ
init_text x = elim x [ none ↦ [] | some p ↦ p.value.bytes ]

erased_flag : (x : Option (Placed Part)) → start_flag (erase_init x) ≡ start_flag x
erased_flag none = refl
erased_flag (some p) = refl

erased_text : (x : Option (Placed Part)) → init_text (erase_init x) ≡ init_text x
erased_text none = refl
erased_text (some p) = refl

abbrev pub init_bytes : Option (Placed Part) → List ℕ
init_bytes x = elim x [ none ↦ u32 0 ++ u32 0 | some p ↦ text_bytes p.base p.value ]

length_init : (x : Option (Placed Part)) → length (init_bytes x) ≡ 8
length_init none = refl
length_init (some p) = length_text p.base p.value

abbrev pub front_bytes : Answer → List ℕ
front_bytes a =
    let o = a.overall in
    u32 (length a.cc) ++ u32 (length (components a)) ++ width_bytes o.width
    ++ u32 (flag o.deterministic 1 + flag o.nonzero 2 + start_flag a.init)
    ++ u32 (align_number o.align)

pub length_head : (a : Answer) → length (head_bytes a) ≡ sizes.head
length_head a =
    let e = length-append (front_bytes a) (init_bytes a.init) in
    let l = length_init a.init in
    omega arith

-- ---- an answer at the front of bytes: where its parts stand, and the numbers of its head

module _ (a : Answer) (s : List ℕ) (whole : Holds s 0 (answer_bytes a)) where
  -- the answer's four parts
  pub placed_parts : Holds s 0 (head_bytes a) × Holds s sizes.head (joined (map concatenation_bytes a.cc))
      × Holds s (sizes.head + sizes.concatenation * length a.cc) (components_bytes 0 (components a))
      × Holds s (sizes.head + sizes.concatenation * length a.cc + sizes.component * length (components a)) (joined (map literal_bytes (components a)))
  unfolding answer_bytes
  placed_parts =
      let h = length_head a in
      let c = length_rows sizes.concatenation concatenation_bytes (λ c. refl) a.cc in
      let k = length_components 0 (components a) in
      four_parts s 0 sizes.head (sizes.head + sizes.concatenation * length a.cc)
      (sizes.head + sizes.concatenation * length a.cc + sizes.component * length (components a)) (head_bytes a) (joined (map concatenation_bytes a.cc))
      (components_bytes 0 (components a)) (joined (map literal_bytes (components a))) (omega arith) (omega arith) (omega arith) whole

  -- a number of the head
  pub word : (j : ℕ) → j + 4 ≤ sizes.head → u32_at s j ≡ u32_at (head_bytes a) j
  word j l = let h = length_head a in u32_at_in s 0 (head_bytes a) j j placed_parts.0 (omega arith) (omega arith)

-- ---- an answer of a text, followed by anything

module _ (image txt : List ℕ) (read : bytes_at image (tables image).text (length txt) ≡ txt) (small : length txt < 2 ^ 32)
    (a : Answer) (n size : ℕ) (f : Fitting txt n size a.init (map (λ c. c.comps) a.cc)) (few : n < 2 ^ 32) (light : size < 2 ^ 32) (s : List ℕ)
    (whole : Holds s 0 (answer_bytes a)) where
  init_read : (x : Option (Placed Part)) → Found (PartWithin txt) x → Holds s 24 (init_bytes x) → text_at image s 24 ≡ init_text x
  init_read none st h = text_read image txt read small s 24 0 no_text (txt, refl) h
  init_read (some p) (found st) h = text_read image txt read small s 24 p.base p.value st h

  count : length a.cc < 2 ^ 32
  count =
      let e = length-map a.cc (λ c. c.comps) in
      let g = f.concats in
      omega arith

  sized : length (components a) ≤ size
  sized = le_trans (length_total (components a)) f.small

  c_is : u32_at s 0 ≡ length a.cc
  c_is = word a s whole 0 (omega arith) ∙ shown_small (length a.cc) count

  m_is : u32_at s 4 ≡ length (components a)
  m_is = let l = sized in word a s whole 4 (omega arith) ∙ shown_small (length (components a)) (omega arith)

  fields_are : tab (field_at image s) 0 (u32_at s 4) ≡ shown_fields 0 (map erase (components a))
  fields_are =
      let l = f.small in
      ap (tab (field_at image s) 0) m_is
      ∙ fields_read image txt read small s (sizes.head + sizes.concatenation * u32_at s 0)
      (sizes.head + sizes.concatenation * u32_at s 0 + sizes.component * u32_at s 4) 0 0 f.texts (omega arith)
      (rw (c_is, add-zero) (placed_parts a s whole).2) (rw (c_is, m_is, add-zero) (placed_parts a s whole).3)

  pub answer_read : read_answer image s ≡ shown (erase_answer a)
  unfolding read_answer shown
  answer_read =
      let e : components (erase_answer a) ≡ map erase (components a) = erased_components a.cc in
      let sizeof : u32_at s 4 ≡ length (components (erase_answer a)) = m_is ∙ sym (length-map (components a) erase) ∙ ap length (sym e) in
      let low : u32_at s 8 ≡ u32_at (head_bytes a) 8 = word a s whole 8 (omega arith) in
      let high : u32_at s 12 ≡ u32_at (head_bytes a) 12 = word a s whole 12 (omega arith) in
      let told = flag a.overall.deterministic 1 + flag a.overall.nonzero 2 in
      let flags : u32_at s 16 ≡ shown_number (told + start_flag (erase_init a.init)) =
      word a s whole 16 (omega arith) ∙ ap (λ (n : ℕ). shown_number (told + n)) (sym (erased_flag a.init)) in
      let align : u32_at s 20 ≡ shown_number (align_number a.overall.align) = word a s whole 20 (omega arith) in
      let init : text_at image s 24 ≡ init_text (erase_init a.init) =
      init_read a.init f.init_stands (holds_next s 0 (front_bytes a) (init_bytes a.init) 24 (placed_parts a s whole).0 refl) ∙ sym (erased_text a.init) in
      let concats : tab (concat_at s) 0 (u32_at s 0) ≡ map shown_group (map erase_concatenation a.cc) =
      ap (tab (concat_at s) 0) c_is ∙ groups_read s size a.cc sized light (placed_parts a s whole).1 in
      let fields : tab (field_at image s) 0 (u32_at s 4) ≡ shown_fields 0 (components (erase_answer a)) = fields_are ∙ ap (shown_fields 0) (sym e) in
      λ k. record { size = sizeof k; width = low k + 2 ^ 32 * high k; flags = flags k; align = align k; init = init k; concats = concats k; fields = fields k }

-- ---- of a tree

pub reads_answer : ReadsAnswer
reads_answer t h how a e rest =
    let p = fits_parts t h in
    let b = p.text in
    let c = p.concatenations in
    answer_read (image_of t) (text_of (all_recs (joined t))) (read_back t h).text (omega arith) a (length t) (suc limits.width * limits.components)
    (answer_fits t h how a e) (omega arith) (omega arith) (answer_bytes a ++ rest) (rest, refl)
