-- The components of an answer's bytes, read back one after the other, with their literals.
use Rattle.std.specs.Prelude.{◌≡◌, ◌∷◌, ◌++◌, if◌then◌else◌}
use Rattle.std.proofs.Math.Path.{refl, ap, ap₂}
use Rattle.std.proofs.Common.{sym, ◌∙◌, arith, length-append}
use Prim.Native.Nat.{ℕ, suc, ◌+◌, ◌*◌, ◌^◌, ◌<◌}
use Rattle.definition.specs.Prelude.{Option, none, some, List, [], map, length, drop, eqb}
use Rattle.definition.specs.Basics.{sum, tab, joined}
use Rattle.definition.specs.Limits.{sizes}
use Rattle.definition.specs.Image.{Placed, u32_at, padded, bytes_at, bytes_for, tables}
use Rattle.definition.specs.Tree.{u32, packed}
use Rattle.definition.specs.Text.{Part, no_text}
use Rattle.definition.specs.Ranges.{Usb}
use Rattle.definition.specs.Component.{Component, ComponentType, literal, variable, filler}
use Rattle.definition.specs.Concatenation.{bits_of}
use Rattle.definition.specs.Answer.{Field, text_bytes, usb_bytes, x_bytes, type_bytes, component_bytes, literal_bytes, components_bytes, text_at, bound_at}
use Rattle.laws.specs.Lists.{length_tab}
use Rattle.prepared.specs.Bytes.{Holds, holds_left, bytes_at_holds, u32_at_holds}
use Rattle.prepared.specs.Bits.{length_packed}
use Rattle.answer_facts.specs.read.Statement.{erase, kind_of, text_of_type, offset_of, shown_bound, shown_field, shown_fields}
use Rattle.answer_facts.specs.read.Facts.{Found, found, Every, every_nil, every_cons}
use Rattle.answer_facts.specs.read.Items.{Stands}
use Rattle.answer_facts.specs.read.Texts.{InUsb, InType}
use Rattle.answer_facts.specs.read.Trees.{Within, total, size_of}
use Rattle.answer_facts.specs.read.Blocks.{holds_next, four_parts, length_text, text_read, bound_read}

-- ---- the parts of a component's bytes

-- the text of a type, as a part: none of a literal or filler
abbrev pub text_part : ComponentType → Part
text_part (literal bits) = no_text
text_part (variable p) = p
text_part filler = no_text

abbrev pub bits_in : ComponentType → List ℕ
bits_in ct = elim ct [ literal b ↦ b | variable p ↦ [] | filler ↦ [] ]

type_parts : (base off : ℕ) (ct : ComponentType)
    → type_bytes base off ct ≡ u32 (kind_of ct) ++ text_bytes base (text_part ct) ++ u32 (length (bits_in ct)) ++ u32 (offset_of off ct)
type_parts base off (literal bits) = refl
type_parts base off (variable p) = refl
type_parts base off filler = refl

abbrev pub present_bytes : Option Usb → List ℕ
present_bytes x = elim x [ none ↦ u32 0 | some e ↦ u32 1 ]

abbrev pub end_bytes : ℕ → Option Usb → List ℕ
end_bytes base x = elim x [ none ↦ tab (λ i. 0) 0 24 | some e ↦ usb_bytes base e ]

-- a component's bytes at a place, part by part
pub record Parts (s : List ℕ) (i off : ℕ) (c : Placed Component) : Type 0 where
  pub kind : Holds s i (u32 (kind_of c.value.c_type))
  pub text : Holds s (i + 4) (text_bytes c.base (text_part c.value.c_type))
  pub width : Holds s (i + 12) (u32 (length (bits_in c.value.c_type)))
  pub offset : Holds s (i + 16) (u32 (offset_of off c.value.c_type))
  pub present : Holds s (i + 20) (present_bytes c.value.range.«end»)
  pub start : Holds s (i + 24) (usb_bytes c.base c.value.range.start)
  pub ending : Holds s (i + 48) (end_bytes c.base c.value.range.«end»)

length_usb : (base : ℕ) (u : Usb) → length (usb_bytes base u) ≡ 24
length_usb base u =
    let e = length-append (text_bytes base u.s) (x_bytes u.x) in
    let t = length_text base u.s in
    let x : length (x_bytes u.x) ≡ 16 = length_tab _ 0 16 in
    omega arith

length_present : (x : Option Usb) → length (present_bytes x) ≡ 4
length_present none = refl
length_present (some e) = refl

length_end : (base : ℕ) (x : Option Usb) → length (end_bytes base x) ≡ 24
length_end base none = length_tab (λ i. 0) 0 24
length_end base (some e) = length_usb base e

length_four : (a b c d : List ℕ) → length (a ++ b ++ c ++ d) ≡ length a + length b + length c + length d
length_four a b c d = simp length-append

length_type : (base off : ℕ) (ct : ComponentType) → length (type_bytes base off ct) ≡ 20
length_type base off ct =
    rw (type_parts base off ct, length_four (u32 (kind_of ct)) (text_bytes base (text_part ct)) (u32 (length (bits_in ct))) (u32 (offset_of off ct)), length_text base (text_part ct))

pub length_component : (off : ℕ) (c : Placed Component) → length (component_bytes off c) ≡ sizes.component
length_component off c =
    let ct = c.value.c_type in
    let r = c.value.range in
    rw (
      length_four (type_bytes c.base off ct) (present_bytes r.«end») (usb_bytes c.base r.start) (end_bytes c.base r.«end»),
      length_type c.base off ct,
      length_present r.«end»,
      length_usb c.base r.start,
      length_end c.base r.«end»,
    )

pub length_components : (off : ℕ) (cs : List (Placed Component)) → length (components_bytes off cs) ≡ sizes.component * length cs
unfolding components_bytes
length_components off [] = refl
length_components off (c ∷ cs) =
    let l = length_component off c in
    let r = length_components (off + length (literal_bytes c)) cs in
    let e = length-append (component_bytes off c) (components_bytes (off + length (literal_bytes c)) cs) in
    omega arith

pub parts_at : (s : List ℕ) (i off : ℕ) (c : Placed Component) → Holds s i (component_bytes off c) → Parts s i off c
parts_at s i off c h =
    let ct = c.value.c_type in
    let r = c.value.range in
    let a = length_type c.base off ct in
    let b = length_present r.«end» in
    let d = length_usb c.base r.start in
    let e = length_text c.base (text_part ct) in
    let (type, present, start, ending) =
    four_parts s i (i + 20) (i + 24) (i + 48) (type_bytes c.base off ct) (present_bytes r.«end») (usb_bytes c.base r.start) (end_bytes c.base r.«end»)
    (omega arith) (omega arith) (omega arith) h in
    let (kind, text, width, offset) =
    four_parts s i (i + 4) (i + 12) (i + 16) (u32 (kind_of ct)) (text_bytes c.base (text_part ct)) (u32 (length (bits_in ct))) (u32 (offset_of off ct))
    (omega arith) (omega arith) (omega arith) (rw (type_parts c.base off ct) at type) in
    record { kind = kind; text = text; width = width; offset = offset; present = present; start = start; ending = ending }

-- ---- what is read of them

kind_small : (ct : ComponentType) → kind_of ct < 2 ^ 32
kind_small (literal bits) = omega arith
kind_small (variable p) = omega arith
kind_small filler = omega arith

offset_small : (off : ℕ) (ct : ComponentType) → off < 2 ^ 32 → offset_of off ct < 2 ^ 32
offset_small off (literal bits) h = h
offset_small off (variable p) h = omega arith
offset_small off filler h = omega arith

abbrev pub read_field : List ℕ → List ℕ → ℕ → ℕ → Field
read_field image s at literals =
    record {
      kind = u32_at s at;
      text = text_at image s (at + 4);
      width = u32_at s (at + 12);
      offset = u32_at s (at + 16);
      literal = bytes_at s (literals + u32_at s (at + 16)) (bytes_for (u32_at s (at + 12)));
      start = bound_at image s (at + 24);
      «end» = if eqb (u32_at s (at + 20)) 0 then none else some (bound_at image s (at + 48));
    }

module _ (image txt : List ℕ) (read : bytes_at image (tables image).text (length txt) ≡ txt) (small : length txt < 2 ^ 32) (s : List ℕ) where
  end_read : (i base : ℕ) (x : Option Usb) → Found (InUsb (drop base txt)) x → Holds s (i + 20) (present_bytes x) → Holds s (i + 48) (end_bytes base x)
      → (if eqb (u32_at s (i + 20)) 0 then none else some (bound_at image s (i + 48))) ≡ elim x [ none ↦ none | some e ↦ some (shown_bound e) ]
  end_read i base none st p h = rw (u32_at_holds s (i + 20) 0 p (omega arith))
  end_read i base (some e) (found st) p h = rw (u32_at_holds s (i + 20) 1 p (omega arith)) (ap some (bound_read image txt read small s (i + 48) base e st h))

  type_stands : (base : ℕ) (ct : ComponentType) → InType (drop base txt) ct → Stands (drop base txt) (text_part ct)
  type_stands base (literal bits) h = (drop base txt, refl)
  type_stands base (variable p) h = h
  type_stands base filler h = (drop base txt, refl)

  type_text_lem : (ct : ComponentType) → (text_part ct).bytes ≡ text_of_type ct
  type_text_lem (literal bits) = refl
  type_text_lem (variable p) = refl
  type_text_lem filler = refl

  -- a literal's bytes, at its width and offset
  literal_read : (off literals : ℕ) (ct : ComponentType) → Holds s (literals + off) (packed (bits_in ct))
      → bytes_at s (literals + offset_of off ct) (bytes_for (length (bits_in ct))) ≡ packed (bits_in ct)
  unfolding padded packed tab
  literal_read off literals (literal bits) h = ap (bytes_at s (literals + off)) (sym (length_packed bits)) ∙ bytes_at_holds s (literals + off) (packed bits) h
  literal_read off literals (variable p) h = refl
  literal_read off literals filler h = refl

  field_read : (i off literals : ℕ) (c : Placed Component) → Within txt c → length (bits_of c.value) < 2 ^ 32 → off < 2 ^ 32
      → Parts s i off c → Holds s (literals + off) (literal_bytes c) → read_field image s i literals ≡ shown_field off (erase c)
  field_read i off literals c h w o p l =
      let ct = c.value.c_type in
      let kind : u32_at s i ≡ kind_of ct = u32_at_holds s i (kind_of ct) p.kind (kind_small ct) in
      let text : text_at image s (i + 4) ≡ text_of_type ct =
      text_read image txt read small s (i + 4) c.base (text_part ct) (type_stands c.base ct h.0) p.text ∙ type_text_lem ct in
      let width : u32_at s (i + 12) ≡ length (bits_of c.value) = u32_at_holds s (i + 12) (length (bits_in ct)) p.width w in
      let offset : u32_at s (i + 16) ≡ offset_of off ct = u32_at_holds s (i + 16) (offset_of off ct) p.offset (offset_small off ct o) in
      let lit : bytes_at s (literals + u32_at s (i + 16)) (bytes_for (u32_at s (i + 12))) ≡ packed (bits_of c.value) =
      ap₂ (λ a n. bytes_at s (literals + a) (bytes_for n)) offset width ∙ literal_read off literals ct l in
      let start : bound_at image s (i + 24) ≡ shown_bound c.value.range.start =
      bound_read image txt read small s (i + 24) c.base c.value.range.start h.1.0 p.start in
      let ending = end_read i c.base c.value.range.«end» h.1.1 p.present p.ending in
      λ k. record { kind = kind k; text = text k; width = width k; offset = offset k; literal = lit k; start = start k; «end» = ending k }

  pub fields_read : (first literals off k : ℕ) {cs : List (Placed Component)} → Every (Within txt) cs → off + total size_of cs < 2 ^ 32
      → Holds s (first + sizes.component * k) (components_bytes off cs) → Holds s (literals + off) (joined (map literal_bytes cs))
      → tab (λ k. read_field image s (first + sizes.component * k) literals) k (length cs) ≡ shown_fields off (map erase cs)
  unfolding components_bytes shown_fields joined tab sum
  fields_read first literals off k every_nil b h l = refl
  fields_read first literals off k (every_cons {a = c} {l = cs} w ws) b h l =
      let n = length_packed (bits_of c.value) in
      let later = off + length (literal_bytes c) in
      let e = length_component off c in
      let here : Holds s (first + sizes.component * k) (component_bytes off c) = holds_left s (first + sizes.component * k) (component_bytes off c) (components_bytes later cs) h in
      let next : Holds s (first + sizes.component * suc k) (components_bytes later cs) =
      holds_next s (first + sizes.component * k) (component_bytes off c) (components_bytes later cs) (first + sizes.component * suc k) h (omega arith) in
      let l' : Holds s (literals + later) (joined (map literal_bytes cs)) =
      holds_next s (literals + off) (literal_bytes c) (joined (map literal_bytes cs)) (literals + later) l (omega arith) in
      let one : read_field image s (first + sizes.component * k) literals ≡ shown_field off (erase c) =
      field_read (first + sizes.component * k) off literals c w (omega arith) (omega arith) (parts_at s (first + sizes.component * k) off c here)
      (holds_left s (literals + off) (literal_bytes c) (joined (map literal_bytes cs)) l) in
      ap₂ (λ f fs. f ∷ fs) one (fields_read first literals later (suc k) ws (omega arith) next l')
