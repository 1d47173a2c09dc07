-- Closed examples of what is easily stated wrongly: components in code, what is told of them, heads and blocks, against the definition's
-- values and bytes.
use Rattle.std.specs.Prelude as Std
use Rattle.std.specs.Prelude.{Some, None, ◌≡◌, ◌≤◌, refl, ◌∷◌, ◌++◌}
use Rattle.std.proofs.Common.{arith}
use Rattle.definition.specs.Prelude.{ℕ, Bool, true, false, none, some, List, [], map, length, pos, negsuc}
use Rattle.definition.specs.Basics.{tab, same_bytes, joined}
use Rattle.definition.specs.Image.{padded}
use Rattle.definition.specs.Tree.{u32}
use Rattle.definition.specs.Numbers.{half128}
use Rattle.definition.specs.Ranges.{val, text, static_width}
use Rattle.definition.specs.Component.{Component, variable, filler}
use Rattle.definition.specs.Concatenation.{Concatenation, whole_literal, align_lsb, merge, is_static_literal, has_full_range}
use Rattle.definition.specs.Answer.{component_bytes, concatenation_bytes, flag}
use Rattle.stages.specs.token_tree.Table.{tree_in}
use Rattle.stages.specs.token_tree.Parts.{no_part, PartFits}
use Rattle.stages.specs.ranges.Values.{Tree}
use Rattle.stages.specs.component.Values.{component_of}
use Rattle.stages.specs.component.Kept.{Is}
use Rattle.stages.specs.concatenation.Overall.{HasSummary}
use Rattle.stages.specs.concatenation.Heads.{HeadIs}
use Rattle.stages.specs.answer.Blocks.{fixed_block, plain_block, concatenation_block}
use Rattle.numbers.specs.Value.{value_of, option_of}
use Rattle.stages.specs.declared.component.types.ComponentType.{ComponentType}
use Rattle.stages.specs.declared.component.types.ComponentType.TheVariants as T
use Rattle.stages.specs.declared.component.types.Component.{Component as Now}
use Rattle.stages.specs.declared.concatenation.alignment.align.FillerAlign.TheVariants as A
use Rattle.stages.specs.declared.concatenation.stage3.Concatenation.{Concatenation as Head}

-- a literal of two bits, `ab[-1..n]` at text place 7, and `..`
abbrev bits : Component
bits = whole_literal (1 ∷ 0 ∷ [])

abbrev name : Component
name =
    record {
      c_type = variable (record { at = 2; bytes = 97 ∷ 98 ∷ [] });
      range = record { start = val (negsuc 0); «end» = some (text (record { at = 5; bytes = 110 ∷ [] }) (pos 3)) };
    }

abbrev dots : Component
dots = record { c_type = filler; range = record { start = val (pos 0); «end» = none } }

-- the three in code: the literal's bits stand in byte 53 of the image, the text of `name` at text place 9, `n` at 12
abbrev bits_row : Now
bits_row =
    record {
      c_type = T.Literal (record { at = 53; from = 0; to = 2 });
      range = record {
        start = record { s = record { at = record { 0 = 0 }; len = 0 }; x = record { high = 0; low = 0 } };
        «end» = Some (record { s = record { at = record { 0 = 0 }; len = 0 }; x = record { high = 0; low = 2 } });
      };
      width = Some (record { high = 0; low = 2 });
    }

abbrev row : Now
row =
    record {
      c_type = T.Variable (record { at = record { 0 = 9 }; len = 2 });
      range = record {
        start = record { s = record { at = record { 0 = 0 }; len = 0 }; x = record { high = 18446744073709551615; low = 18446744073709551615 } };
        «end» = Some (record { s = record { at = record { 0 = 12 }; len = 1 }; x = record { high = 0; low = 3 } });
      };
      width = None;
    }

abbrev dots_row : Now
dots_row =
    record {
      c_type = T.Filler;
      range = record { start = record { s = record { at = record { 0 = 0 }; len = 0 }; x = record { high = 0; low = 0 } }; «end» = None };
      width = None;
    }

-- a text table alone; and an image, whose header tells these 13 bytes of text and one of literals
abbrev bare : List ℕ
bare = 0 ∷ 0 ∷ 0 ∷ 0 ∷ 0 ∷ 0 ∷ 0 ∷ 0 ∷ 0 ∷ 97 ∷ 98 ∷ 0 ∷ 110 ∷ []

abbrev image : List ℕ
image = joined (map u32 (0 ∷ 0 ∷ 0 ∷ 13 ∷ 1 ∷ 0 ∷ 0 ∷ 0 ∷ 0 ∷ 0 ∷ [])) ++ bare ++ (1 ∷ [])

abbrev tree : Tree
tree = record { records = 40; text = 40 }

tree_is : tree ≡ tree_in image
unfolding joined
tree_is = refl

-- ---- what is told of a component in code: its kind (1 literal, 2 variable, 3 filler), and, 1 if so, whether it has an end, whether its
-- width is known, whether it is a static literal, whether its range is full

abbrev kind : ComponentType → ℕ
kind (T.Literal b) = 1
kind (T.Variable p) = 2
kind T.Filler = 3

abbrev given : {A : Type 0} → Std.Option A → Bool
given (Some a) = true
given None = false

abbrev told : Now → List ℕ
told c =
    kind c.c_type ∷ flag (given c.range.«end») 1 ∷ flag (given c.width) 1 ∷ flag (is_static_literal (component_of image tree 0 c)) 1
    ∷ flag (has_full_range (component_of image tree 0 c)) 1 ∷ []

flags_are : (map is_static_literal (bits ∷ name ∷ dots ∷ []) ≡ true ∷ false ∷ false ∷ [])
    × (map told (bits_row ∷ row ∷ dots_row ∷ []) ≡ (1 ∷ 1 ∷ 1 ∷ 1 ∷ 1 ∷ []) ∷ (2 ∷ 1 ∷ 0 ∷ 0 ∷ 0 ∷ []) ∷ (3 ∷ 0 ∷ 0 ∷ 0 ∷ 0 ∷ []) ∷ [])
unfolding same_bytes half128 joined padded tab value_of
flags_are = (refl, refl)

shape_is : (component_of image tree 7 row ≡ name) × (told row ≡ 2 ∷ 1 ∷ 0 ∷ 0 ∷ 0 ∷ []) × (option_of row.width ≡ static_width name.range)
unfolding same_bytes half128 joined padded tab value_of
shape_is = (refl, refl, refl)

bare_is : component_of bare (record { records = 0; text = 0 }) 7 row ≡ name
unfolding value_of padded
bare_is = refl

shapes_are : (component_of image tree 0 bits_row ≡ bits) × (component_of image tree 0 dots_row ≡ dots)
    × (option_of bits_row.width ≡ static_width bits.range) × (option_of dots_row.width ≡ static_width dots.range)
unfolding same_bytes half128 joined padded tab value_of
shapes_are = (refl, refl, refl, refl)

-- ---- blocks, and heads

plain_is : plain_block row ≡ component_bytes 0 (record { base = 7; value = name })
unfolding tab
plain_is = refl

fixed_is : fixed_block 2 5 ≡ component_bytes 5 (record { base = 3; value = bits })
unfolding tab
fixed_is = refl

-- a concatenation of `..` and bits, and what stage 3 leaves of it
abbrev sink : Concatenation
sink = record { comps = record { base = 0; value = dots } ∷ record { base = 0; value = bits } ∷ []; align = align_lsb; width = none; deterministic = false; nonzero = true }

summary_is : HasSummary sink (record { width = None; align = A.Lsb; deterministic = false; nonzero = true })
summary_is = record { align_is = refl; width_is = refl; deterministic_is = refl; nonzero_is = refl }

-- the same in code, where its two components are all that is kept
abbrev head : Head
head = record { first = record { 0 = 0 }; len = 2; merged = 2; running = record { width = None; align = A.Lsb; deterministic = false; nonzero = true } }

no_text_fits : PartFits image (tree_in image) 0 no_part
unfolding joined
no_text_fits = let room : 40 ≤ 54 = omega arith in record { room = room; none = λ e. refl; some = λ l. absurd (omega (arith, l)) }

dots_are : Is image (tree_in image) dots_row (record { base = 0; value = dots })
unfolding joined padded value_of
dots_are =
    record {
      value = refl;
      staged = record {
        c_type = tt;
        measured = record { fits = record { start = record { part = no_text_fits; low = omega arith; high = omega arith }; «end» = tt }; width = refl };
      };
      ended = refl;
    }

bits_are : Is image (tree_in image) bits_row (record { base = 0; value = bits })
unfolding same_bytes half128 joined padded tab value_of
bits_are =
    let inside : 53 ≤ 54 = omega arith in
    record {
      value = refl;
      staged = record {
        c_type = record { order = omega arith; short = omega arith; inside = inside };
        measured = record {
          fits = record {
            start = record { part = no_text_fits; low = omega arith; high = omega arith };
            «end» = record { part = no_text_fits; low = omega arith; high = omega arith };
          };
          width = refl;
        };
      };
      ended = refl;
    }

heads_are : (length (merge sink.comps) ≡ 2) × HeadIs image (dots_row ∷ bits_row ∷ []) head sink
unfolding merge
heads_are = (
  refl,
  record { summary = summary_is; merged_is = refl; len_is = refl; lies = record { inside = omega arith; few = omega arith }; comps = (dots_are, (bits_are, tt)) },
)

block_is : concatenation_block 2 2 false true 0 ≡ concatenation_bytes sink
block_is = refl
