-- The answer of an accepted run, read back from its bytes, is the stages' answer with each text as its bytes; and the stages do not
-- look at the text starts.
use Rattle.std.specs.Prelude.{◌≡◌, ◌+◌, ◌*◌, ◌^◌, ◌∷◌, ◌++◌}
use Rattle.definition.specs.Prelude.{ℕ, none, some, true, List, [], map, length}
use Rattle.definition.specs.Basics.{Result, ok, refused, sum, tab}
use Rattle.definition.specs.Image.{Unparsed, Placed, u32_at}
use Rattle.definition.specs.Tree.{Tree, image_of, fits, u32, packed}
use Rattle.definition.specs.Ranges.{Usb}
use Rattle.definition.specs.Component.{Component, ComponentType, literal, variable, filler}
use Rattle.definition.specs.Concatenation.{Concatenation, align_number, bits_of}
use Rattle.definition.specs.Answer.{Answer, components, answer_bytes, read_answer, Read, Concat, Field, Bound, flag, width_bytes, width_at, x_bytes, untwos, literal_bytes}
use Rattle.definition.specs.Run.{Choices, stages}
use Rattle.prepared.specs.Statement.{placed_tree}

-- every text start 0
abbrev pub erase : {A : Type 0} → Placed A → Placed A
erase p = record { base = 0; value = p.value }

abbrev pub erase_tree : {A : Type 0} → List (List (Placed A)) → List (List (Placed A))
erase_tree = map (map erase)

abbrev pub erase_concatenation : Concatenation → Concatenation
erase_concatenation c = record { comps = map erase c.comps; align = c.align; width = c.width; deterministic = c.deterministic; nonzero = c.nonzero }

abbrev pub erase_answer : Answer → Answer
erase_answer a =
    record {
      init = elim a.init [ none ↦ none | some p ↦ some (erase p) ];
      overall = a.overall;
      cc = map erase_concatenation a.cc;
    }

abbrev pub on_ok : {A B : Type 0} → (A → B) → Result A → Result B
on_ok f (ok a) = ok (f a)
on_ok f (refused q) = refused q

abbrev pub EraseStages : Type 0
EraseStages = (how : Choices) (t : List (List (Placed Unparsed))) → stages how (erase_tree t) ≡ on_ok erase_answer (stages how t)

-- what an answer says, without its bytes: texts and literals as they are, numbers as their bytes are read back
abbrev pub shown_number : ℕ → ℕ
shown_number n = u32_at (u32 n) 0

abbrev pub shown_bound : Usb → Bound
shown_bound u = record { text = u.s.bytes; x = untwos (sum (tab (λ i. u32_at (x_bytes u.x) (4 * i) * 2 ^ (32 * i)) 0 4)) }

abbrev pub shown_group : Concatenation → Concat
shown_group c =
    record {
      size = length c.comps;
      align = shown_number (align_number c.align);
      flags = shown_number (flag c.deterministic 1 + flag c.nonzero 2);
      width = width_at (width_bytes c.width) 0;
    }

abbrev pub kind_of : ComponentType → ℕ
kind_of (literal b) = 1
kind_of (variable p) = 2
kind_of filler = 3

abbrev pub text_of_type : ComponentType → List ℕ
text_of_type (literal b) = []
text_of_type (variable p) = p.bytes
text_of_type filler = []

-- a literal's offset; 0 where there is none
abbrev pub offset_of : ℕ → ComponentType → ℕ
offset_of at (literal b) = at
offset_of at (variable p) = 0
offset_of at filler = 0

abbrev pub shown_field : ℕ → Placed Component → Field
shown_field at c =
    record {
      kind = kind_of c.value.c_type;
      text = text_of_type c.value.c_type;
      width = length (bits_of c.value);
      offset = offset_of at c.value.c_type;
      literal = packed (bits_of c.value);
      start = shown_bound c.value.range.start;
      «end» = elim c.value.range.«end» [ none ↦ none | some e ↦ some (shown_bound e) ];
    }

unfoldable pub shown_fields : ℕ → List (Placed Component) → List Field
shown_fields at [] = []
shown_fields at (c ∷ cs) = shown_field at c ∷ shown_fields (at + length (literal_bytes c)) cs

unfoldable pub shown : Answer → Read
shown a =
    record {
      size = length (components a);
      width = width_at (width_bytes a.overall.width) 0;
      flags = shown_number (flag a.overall.deterministic 1 + flag a.overall.nonzero 2 + elim a.init [ none ↦ 0 | some p ↦ 4 ]);
      align = shown_number (align_number a.overall.align);
      init = elim a.init [ none ↦ [] | some p ↦ p.value.bytes ];
      concats = map shown_group a.cc;
      fields = shown_fields 0 (components a);
    }

abbrev pub ReadsAnswer : Type 0
ReadsAnswer =
    (t : Tree) → fits t ≡ true → (how : Choices) (a : Answer) → stages how (placed_tree t) ≡ ok a → (rest : List ℕ)
    → read_answer (image_of t) (answer_bytes a ++ rest) ≡ shown (erase_answer a)
