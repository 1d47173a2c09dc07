-- What is read of an answer's bytes is no longer than the answer: its texts and literals, whatever the image.
use Rattle.std.specs.Prelude.{◌≡◌, refl, ◌≤◌, ◌<◌, ◌+◌, ◌*◌, ◌^◌, ◌∷◌, if◌then◌else◌}
use Rattle.std.proofs.Math.Path.{ap}
use Rattle.std.proofs.Common.{◌∙◌, add-zero}
use native.Mathlib.Omega.{arith}
use Rattle.definition.specs.Prelude.{ℕ, suc, Bool, Option, none, some, List, [], map, length, drop, eqb}
use Rattle.definition.specs.Basics.{sum, tab, joined}
use Rattle.definition.specs.Limits.{sizes}
use Rattle.definition.specs.Image.{Placed, u32_at, bytes_for, tables}
use Rattle.definition.specs.Tree.{u32}
use Rattle.definition.specs.Text.{Part, no_text}
use Rattle.definition.specs.Ranges.{Usb}
use Rattle.definition.specs.Component.{Component, ComponentType, literal, variable, filler}
use Rattle.definition.specs.Concatenation.{bits_of}
use Rattle.definition.specs.Answer.{Answer, components, text_bytes, x_bytes, usb_bytes, component_bytes, components_bytes, literal_bytes, answer_bytes, Field, Bound, text_at, bound_at, concat_at, field_at, read_answer}
use Rattle.laws.specs.Lists.{length_tab, length_joined}
use Rattle.laws.specs.Padded.{length_padded}
use Rattle.prepared.specs.Bits.{length_packed}
use Rattle.prepared.specs.Bytes.{Holds, holds_whole, holds_left, u32_at_holds}
use Rattle.answer_facts.specs.read.Blocks.{u32_at_in, holds_next}
use Rattle.answer_facts.specs.read.Fields.{text_part, present_bytes, end_bytes, Parts, parts_at, length_component, read_field}
use Rattle.answer_facts.specs.read.ReadAnswer.{shown_small, init_bytes, front_bytes, placed_parts, word}
use Rattle.answer_facts.specs.read.Trees.{total}
use Rattle.listing_length.specs.Lines.{text_of, texts, literals}
use Rattle.listing_length.specs.Words
use Rattle.listing_length.specs.run.Ranges.{usb_text, end_text}
use Rattle.listing_length.specs.run.Components.{type_text}
use Rattle.listing_length.specs.run.Stages.{texts_of, init_text}

-- a number that is written in four bytes is read as itself or less
read_less : (n : ℕ) → u32_at (u32 n) 0 ≤ n
read_less n = omega arith

word_less : (s : List ℕ) (i n : ℕ) → Holds s i (u32 n) → u32_at s i ≤ n
word_less s i n h = rw (u32_at_in s i (u32 n) 0 i h (add-zero i) (omega arith)) (read_less n)

-- ---- texts and bounds

module _ (image s : List ℕ) where
  text_less : (i base : ℕ) (p : Part) → Holds s i (text_bytes base p) → length (text_at image s i) ≤ length p.bytes
  text_less i base p h =
      rw (length_padded (u32_at s (i + 4)) (drop ((tables image).text + u32_at s i) image)) (go p.bytes h)
    where
      go : (bytes : List ℕ) → Holds s i (text_bytes base (record { at = p.at; bytes = bytes })) → u32_at s (i + 4) ≤ length bytes
      go [] h = word_less s (i + 4) 0 (holds_next s i (u32 0) (u32 0) (i + 4) h refl)
      go (b ∷ bytes) h = word_less s (i + 4) (length (b ∷ bytes)) (holds_next s i (u32 (base + p.at)) (u32 (length (b ∷ bytes))) (i + 4) h refl)

  bound_less : (i base : ℕ) (u : Usb) → Holds s i (usb_bytes base u) → length (bound_at image s i).text ≤ usb_text u
  bound_less i base u h = text_less i base u.s (holds_left s i (text_bytes base u.s) (x_bytes u.x) h)

  -- ---- components

  type_text_lem : (ct : ComponentType) → length (text_part ct).bytes ≡ type_text ct
  type_text_lem (literal bits) = refl
  type_text_lem (variable p) = refl
  type_text_lem filler = refl

  abbrev end_at : ℕ → Bool → Option Bound
  end_at i b = if b then none else some (bound_at image s (i + 48))

  end_less : (i base : ℕ) (x : Option Usb) → Holds s (i + 20) (present_bytes x) → Holds s (i + 48) (end_bytes base x)
      → Words.end_text (end_at i (eqb (u32_at s (i + 20)) 0)) ≤ end_text x
  end_less i base none p h = rw (u32_at_holds s (i + 20) 0 p (omega arith)) (omega arith)
  end_less i base (some e) p h = rw (u32_at_holds s (i + 20) 1 p (omega arith)) (bound_less (i + 48) base e h)

  field_text : (i off literals : ℕ) (c : Placed Component) → Parts s i off c → text_of (read_field image s i literals) ≤ texts_of c
  field_text i off literals c p =
      let ct = c.value.c_type in
      omega (
        arith,
        text_less (i + 4) c.base (text_part ct) p.text,
        type_text_lem ct,
        bound_less (i + 24) c.base c.value.range.start p.start,
        end_less i c.base c.value.range.«end» p.present p.ending,
      )

  field_literal : (i off literals : ℕ) (c : Placed Component) → Parts s i off c → length (read_field image s i literals).literal ≤ length (literal_bytes c)
  field_literal i off literals c p =
      let n = bytes_for (u32_at s (i + 12)) in
      omega (
        arith,
        length_padded n (drop (literals + u32_at s (i + 16)) s),
        length_packed (bits_of c.value),
        word_less s (i + 12) (length (bits_of c.value)) p.width,
      )

  module _ (first literals : ℕ) where
    abbrev field_of : ℕ → Field
    field_of k = read_field image s (first + sizes.component * k) literals

    fields_less : (off k : ℕ) (cs : List (Placed Component)) → Holds s (first + sizes.component * k) (components_bytes off cs)
        → (total text_of (tab field_of k (length cs)) ≤ total texts_of cs)
        × (total (λ f. length f.literal) (tab field_of k (length cs)) ≤ sum (map length (map literal_bytes cs)))
    unfolding components_bytes tab sum
    fields_less off k [] h = (omega arith, omega arith)
    fields_less off k (c ∷ cs) h =
        let at = first + sizes.component * k in
        let later = off + length (literal_bytes c) in
        let e = length_component off c in
        let here : Parts s at off c = parts_at s at off c (holds_left s at (component_bytes off c) (components_bytes later cs) h) in
        let next : Holds s (first + sizes.component * suc k) (components_bytes later cs) =
        holds_next s at (component_bytes off c) (components_bytes later cs) (first + sizes.component * suc k) h (omega arith) in
        let rest = fields_less later (suc k) cs next in
        (omega (arith, field_text at off literals c here, rest.0), omega (arith, field_literal at off literals c here, rest.1))

-- ---- the whole

module _ (image : List ℕ) (a : Answer) (few : length a.cc < 2 ^ 32) (small : length (components a) < 2 ^ 32) where
  abbrev s : List ℕ
  s = answer_bytes a

  whole : Holds s 0 s
  whole = holds_whole s

  c_is : u32_at s 0 ≡ length a.cc
  c_is = word a s whole 0 (omega arith) ∙ shown_small (length a.cc) few

  m_is : u32_at s 4 ≡ length (components a)
  m_is = word a s whole 4 (omega arith) ∙ shown_small (length (components a)) small

  init_less : (x : Option (Placed Part)) → Holds s 24 (init_bytes x) → length (text_at image s 24) ≤ init_text x
  init_less none h = text_less image s 24 0 no_text h
  init_less (some p) h = text_less image s 24 p.base p.value h

  -- the concatenations, components, bytes of text and bytes of literals that are read
  pub record ReadLess : Type 0 where
    pub concats : length (read_answer image s).concats ≡ length a.cc
    pub fields : length (read_answer image s).fields ≡ length (components a)
    pub text : texts (read_answer image s) ≤ init_text a.init + total texts_of (components a)
    pub literal_bytes_lem : literals (read_answer image s) ≤ length (joined (map literal_bytes (components a)))

  pub read_lengths : ReadLess
  unfolding read_answer
  read_lengths =
      let first = sizes.head + sizes.concatenation * u32_at s 0 in
      let behind = first + sizes.component * u32_at s 4 in
      let n = length (components a) in
      let held : Holds s (first + sizes.component * 0) (components_bytes 0 (components a)) = rw (c_is, add-zero) (placed_parts a s whole).2 in
      let less = fields_less image s first behind 0 0 (components a) held in
      let same : tab (field_at image s) 0 (u32_at s 4) ≡ tab (field_of image s first behind) 0 n = ap (tab (field_at image s) 0) m_is in
      record {
        concats = length_tab (concat_at s) 0 (u32_at s 0) ∙ c_is;
        fields = length_tab (field_at image s) 0 (u32_at s 4) ∙ m_is;
        text =
            omega (
              arith,
              init_less a.init (holds_next s 0 (front_bytes a) (init_bytes a.init) 24 (placed_parts a s whole).0 refl),
              less.0,
              ap (total text_of) same,
            );
        literal_bytes_lem = omega (arith, less.1, ap (total (λ f. length f.literal)) same, length_joined (map literal_bytes (components a)));
      }
