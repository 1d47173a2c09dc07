-- The bytes of the answer's blocks, from components and concatenations in code.
use Rattle.std.specs.Prelude as Std
use Rattle.std.specs.Prelude.{Some, None, ◌+◌, ◌/◌, ◌%◌, ◌^◌, ◌++◌}
use Rattle.definition.specs.Prelude.{ℕ, Bool, List}
use Rattle.definition.specs.Tree.{u32}
use Rattle.definition.specs.Answer.{flag}
use Rattle.stages.specs.token_tree.Parts.{no_part}
use Rattle.stages.specs.component.Values.{end_or}
use Rattle.stages.specs.declared.token_tree.types.Part.{Part}
use Rattle.stages.specs.declared.ranges.types.Usb.{Usb}
use Rattle.stages.specs.declared.ranges.types.Usbr.{Usbr}
use Rattle.stages.specs.declared.component.types.ComponentType.{ComponentType}
use Rattle.stages.specs.declared.component.types.ComponentType.TheVariants as T
use Rattle.stages.specs.declared.component.types.Component.{Component}
use Rattle.stages.specs.declared.component.start.Start.{Start}

abbrev pub word_bytes : ℕ → List ℕ
word_bytes n = u32 (n % 2 ^ 32) ++ u32 (n / 2 ^ 32)

-- a text's start and length
abbrev pub text_block : Part → List ℕ
text_block s = u32 s.at.0 ++ u32 s.len

-- a bound: its text, and x low and high
abbrev pub usb_block : Usb → List ℕ
usb_block u = text_block u.s ++ word_bytes u.x.low ++ word_bytes u.x.high

-- start and end, zeros where there is none
abbrev pub range_block : Usbr → List ℕ
range_block r = usb_block r.start ++ usb_block (end_or r.«end»)

abbrev pub present : Std.Option Usb → ℕ
present (Some u) = 1
present None = 0

-- the first 24 bytes: of a variable or a filler, and of a literal
abbrev pub head_block : ℕ → Part → ℕ → List ℕ
head_block kind s ends = u32 kind ++ text_block s ++ word_bytes 0 ++ u32 ends

abbrev pub literal_block : ℕ → ℕ → ℕ → List ℕ
literal_block bits offset ends = u32 1 ++ word_bytes 0 ++ u32 bits ++ u32 offset ++ u32 ends

abbrev pub type_block : ComponentType → ℕ → List ℕ
type_block (T.Variable s) ends = head_block 2 s ends
type_block (T.Literal b) ends = head_block 3 no_part ends
type_block T.Filler ends = head_block 3 no_part ends

-- 72 bytes: a variable or a filler, a literal with its range, and a literal from 0 to its width
abbrev pub plain_block : Component → List ℕ
plain_block c = type_block c.c_type (present c.range.«end») ++ range_block c.range

abbrev pub open_block : Usbr → ℕ → ℕ → List ℕ
open_block r bits offset = literal_block bits offset (present r.«end») ++ range_block r

abbrev pub fixed_block : ℕ → ℕ → List ℕ
fixed_block bits offset =
    literal_block bits offset 1 ++ (word_bytes 0 ++ word_bytes 0 ++ word_bytes 0) ++ (word_bytes 0 ++ word_bytes bits ++ word_bytes 0)

-- 20 bytes of a concatenation, and the head's 32
abbrev pub width_number : Std.Option ℕ → ℕ
width_number (Some n) = n
width_number None = 0

abbrev pub start_part : Std.Option Start → Part
start_part (Some s) = s.s
start_part None = no_part

abbrev pub concatenation_block : ℕ → ℕ → Bool → Bool → ℕ → List ℕ
concatenation_block size align deterministic nonzero width = u32 size ++ u32 align ++ u32 (flag deterministic 1 + flag nonzero 2) ++ word_bytes width

abbrev pub head_of : ℕ → ℕ → ℕ → ℕ → ℕ → Part → List ℕ
head_of c m width flags align s = u32 c ++ u32 m ++ word_bytes width ++ u32 flags ++ u32 align ++ text_block s
