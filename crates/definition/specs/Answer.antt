-- Document 01, "The answer area": the answer's bytes, and what an answer's bytes say, read at the document's offsets.
use Rattle.std.specs.Prelude.{◌+◌, ◌*◌, ◌-◌, ◌/◌, ◌%◌, ◌^◌, ◌∷◌, ◌++◌, if◌then◌else◌}
use Rattle.definition.specs.Prelude.{ℕ, suc, Bool, Option, none, some, List, [], map, length, ltb, eqb, ℤ, pos, negsuc}
use Rattle.definition.specs.Basics.{is_empty, sum, tab, joined}
use Rattle.definition.specs.Numbers.{half128}
use Rattle.definition.specs.Limits.{sizes}
use Rattle.definition.specs.Image.{Placed, u32_at, bytes_at, bytes_for, tables}
use Rattle.definition.specs.Tree.{u32, packed}
use Rattle.definition.specs.Text.{Part}
use Rattle.definition.specs.Ranges.{Usb}
use Rattle.definition.specs.Component.{Component, ComponentType, literal, variable, filler}
use Rattle.definition.specs.Concatenation.{Concatenation, align_number, bits_of}
use Rattle.definition.specs.Overall.{Overall}

-- what stages 1 to 5 leave
pub record Answer : Type 0 where
  pub init : Option (Placed Part)
  pub overall : Overall
  pub cc : List Concatenation

abbrev pub components : Answer → List (Placed Component)
components a = joined (map (λ c. c.comps) a.cc)

abbrev pub flag : Bool → ℕ → ℕ
flag b n = if b then n else 0

-- "width, low and high (0 none)"
abbrev pub width_bytes : Option ℕ → List ℕ
width_bytes w = let n : ℕ = elim w [ none ↦ 0 | some v ↦ v ] in u32 (n % 2 ^ 32) ++ u32 (n / 2 ^ 32)

-- a text's start and length; "Absent parts and empty texts are zeros."
abbrev pub text_bytes : ℕ → Part → List ℕ
text_bytes base p = if is_empty p.bytes then u32 0 ++ u32 0 else u32 (base + p.at) ++ u32 (length p.bytes)

-- "16 bytes of x in two's complement"
abbrev pub twos : ℤ → ℕ
twos (pos n) = n
twos (negsuc n) = 2 ^ 128 - suc n

abbrev pub x_bytes : ℤ → List ℕ
x_bytes x = tab (λ i. twos x / 256 ^ i % 256) 0 16

abbrev pub usb_bytes : ℕ → Usb → List ℕ
usb_bytes base u = text_bytes base u.s ++ x_bytes u.x

-- "Head, 32 bytes: C; M components after merging; common width, low and high (0 none); flags (1 deterministic, 2 nonzero, 4 starting
-- value given); alignment, 0 to 5 in `FillerAlign` order; start and length of the starting value's text."
abbrev pub head_bytes : Answer → List ℕ
head_bytes a =
    let o = a.overall in
    u32 (length a.cc) ++ u32 (length (components a)) ++ width_bytes o.width
    ++ u32 (flag o.deterministic 1 + flag o.nonzero 2 + elim a.init [ none ↦ 0 | some p ↦ 4 ])
    ++ u32 (align_number o.align) ++ elim a.init [ none ↦ u32 0 ++ u32 0 | some p ↦ text_bytes p.base p.value ]

-- "Each concatenation, 20 bytes: components, alignment, flags 1 and 2, static width low and high."
abbrev pub concatenation_bytes : Concatenation → List ℕ
concatenation_bytes c =
    u32 (length c.comps) ++ u32 (align_number c.align) ++ u32 (flag c.deterministic 1 + flag c.nonzero 2) ++ width_bytes c.width

-- "kind (1 literal, 2 variable, 3 filler), text start and length (0, 0 for a literal or filler), literal width, offset in the
-- literal block": `at` is that offset
abbrev pub type_bytes : ℕ → ℕ → ComponentType → List ℕ
type_bytes base at (literal bits) = u32 1 ++ u32 0 ++ u32 0 ++ u32 (length bits) ++ u32 at
type_bytes base at (variable p) = u32 2 ++ text_bytes base p ++ u32 0 ++ u32 0
type_bytes base at filler = u32 3 ++ u32 0 ++ u32 0 ++ u32 0 ++ u32 0

-- "Each component, 72 bytes: .. end present, then start and end, each as text start, length and 16 bytes of x"
abbrev pub component_bytes : ℕ → Placed Component → List ℕ
component_bytes at c =
    let r = c.value.range in
    type_bytes c.base at c.value.c_type
    ++ elim r.«end» [ none ↦ u32 0 | some e ↦ u32 1 ] ++ usb_bytes c.base r.start
    ++ elim r.«end» [ none ↦ tab (λ i. 0) 0 24 | some e ↦ usb_bytes c.base e ]

-- "Literal bytes follow, packed as in the image.": each component's, one after the other
abbrev pub literal_bytes : Placed Component → List ℕ
literal_bytes c = packed (bits_of c.value)

unfoldable pub components_bytes : ℕ → List (Placed Component) → List ℕ
components_bytes at [] = []
components_bytes at (c ∷ cs) = component_bytes at c ++ components_bytes (at + length (literal_bytes c)) cs

unfoldable pub answer_bytes : Answer → List ℕ
answer_bytes a =
    head_bytes a ++ joined (map concatenation_bytes a.cc) ++ components_bytes 0 (components a) ++ joined (map literal_bytes (components a))

-- What an answer's bytes say, field by field. A text's start and length stand for the bytes of the image's text that they name, a
-- literal's width and offset for its bytes too.
pub record Bound : Type 0 where
  pub text : List ℕ
  pub x : ℤ

pub record Field : Type 0 where
  pub kind : ℕ
  pub text : List ℕ
  pub width : ℕ
  pub offset : ℕ
  pub literal : List ℕ
  pub start : Bound
  pub «end» : Option Bound

pub record Concat : Type 0 where
  pub size : ℕ
  pub align : ℕ
  pub flags : ℕ
  pub width : ℕ

pub record Read : Type 0 where
  pub size : ℕ
  pub width : ℕ
  pub flags : ℕ
  pub align : ℕ
  pub init : List ℕ
  pub concats : List Concat
  pub fields : List Field

-- whether a flag, 1, 2 or 4, is among flags
abbrev pub is_set : ℕ → ℕ → Bool
is_set flags n = eqb (flags / n % 2) 1

-- a width of two halves, and the text that a start and a length name
abbrev pub width_at : List ℕ → ℕ → ℕ
width_at s at = u32_at s at + 2 ^ 32 * u32_at s (at + 4)

abbrev pub text_at : List ℕ → List ℕ → ℕ → List ℕ
text_at image s at = bytes_at image ((tables image).text + u32_at s at) (u32_at s (at + 4))

abbrev pub untwos : ℕ → ℤ
untwos n = if ltb n half128 then pos n else negsuc (2 ^ 128 - suc n)

abbrev pub bound_at : List ℕ → List ℕ → ℕ → Bound
bound_at image s at = record { text = text_at image s at; x = untwos (sum (tab (λ i. u32_at s (at + 8 + 4 * i) * 2 ^ (32 * i)) 0 4)) }

abbrev pub concat_at : List ℕ → ℕ → Concat
concat_at s i =
    let at = sizes.head + sizes.concatenation * i in
    record { size = u32_at s at; align = u32_at s (at + 4); flags = u32_at s (at + 8); width = width_at s (at + 12) }

abbrev pub field_at : List ℕ → List ℕ → ℕ → Field
field_at image s k =
    let first = sizes.head + sizes.concatenation * u32_at s 0 in
    let at = first + sizes.component * k in
    record {
      kind = u32_at s at;
      text = text_at image s (at + 4);
      width = u32_at s (at + 12);
      offset = u32_at s (at + 16);
      literal = bytes_at s (first + sizes.component * u32_at s 4 + u32_at s (at + 16)) (bytes_for (u32_at s (at + 12)));
      start = bound_at image s (at + 24);
      «end» = if eqb (u32_at s (at + 20)) 0 then none else some (bound_at image s (at + 48));
    }

unfoldable pub read_answer : List ℕ → List ℕ → Read
read_answer image s =
    record {
      size = u32_at s 4;
      width = width_at s 8;
      flags = u32_at s 16;
      align = u32_at s 20;
      init = text_at image s 24;
      concats = tab (concat_at s) 0 (u32_at s 0);
      fields = tab (field_at image s) 0 (u32_at s 4);
    }
