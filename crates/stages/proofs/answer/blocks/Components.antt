-- A component's block is the definition's bytes of it.
use Rattle.std.specs.Prelude as Std
use Rattle.std.specs.Prelude.{Some, None, ◌^◌, ◌++◌}
use Rattle.std.proofs.Common.{◌≡◌, ◌<◌, sym, refl, ap, ◌∙◌, ap₂, append_assoc}
use Rattle.definition.specs.Prelude.{ℕ, Option, none, some, List, [], length}
use Rattle.definition.specs.Basics.{tab}
use Rattle.definition.specs.Image.{Placed}
use Rattle.definition.specs.Tree.{u32}
use Rattle.definition.specs.Ranges as Ranges
use Rattle.definition.specs.Component as Def
use Rattle.definition.specs.Concatenation.{bits_of, whole_literal}
use Rattle.definition.specs.Answer.{text_bytes, usb_bytes, component_bytes}
use Rattle.stages.specs.token_tree.Parts.{part_of}
use Rattle.stages.specs.ranges.Values.{Tree, usb_of, end_of, EndFits, UsbrFits}
use Rattle.stages.specs.component.Values as Values
use Rattle.stages.specs.component.Values.{end_or, component_of, ComponentStaged}
use Rattle.stages.specs.answer.Blocks.{word_bytes, usb_block, range_block, present, plain_block, open_block, literal_block, fixed_block}
use Rattle.stages.specs.declared.ranges.types.Usb.{Usb}
use Rattle.stages.specs.declared.ranges.types.Usbr.{Usbr}
use Rattle.stages.specs.declared.component.types.Bits.{Bits}
use Rattle.stages.specs.declared.component.types.ComponentType.{ComponentType}
use Rattle.stages.specs.declared.component.types.ComponentType.TheVariants as T
use Rattle.stages.specs.declared.component.types.Component.{Component}
use Rattle.stages.proofs.answer.blocks.Words.{text_is, usb_is, x_small}

abbrev join : List ℕ → List ℕ → List ℕ
join a b = a ++ b

abbrev present_bytes : Option Ranges.Usb → List ℕ
present_bytes y = elim y [ none ↦ u32 0 | some x ↦ u32 1 ]

abbrev last_bytes : ℕ → Option Ranges.Usb → List ℕ
last_bytes base y = elim y [ none ↦ tab (λ i. 0) 0 24 | some x ↦ usb_bytes base x ]

module _ (image : List ℕ) (t : Tree) (base : ℕ) where
  present_is : (y : Std.Option Usb) → u32 (present y) ≡ present_bytes (end_of image t base y)
  present_is (Some u) = refl
  present_is None = refl

  last_is : (y : Std.Option Usb) → EndFits image t base y → usb_block (end_or y) ≡ last_bytes base (end_of image t base y)
  unfolding tab
  last_is (Some u) h = usb_is image t base u h
  last_is None h = refl

  -- a block: its first bytes, whether it has an end, and its range
  rest_is : (r : Usbr) → UsbrFits image t base r → (typed : List ℕ)
      → (typed ++ u32 (present r.«end»)) ++ range_block r
      ≡ typed ++ present_bytes (end_of image t base r.«end») ++ usb_bytes base (usb_of image t base r.start)
      ++ last_bytes base (end_of image t base r.«end»)
  rest_is r h typed =
      sym (append_assoc (typed ++ u32 (present r.«end»)) (usb_block r.start) (usb_block (end_or r.«end»)))
      ∙ ap₂ join (ap₂ join (ap (λ (l : List ℕ). typed ++ l) (present_is r.«end»)) (usb_is image t base r.start h.start)) (last_is r.«end» h.«end»)

  abbrev pub placed : Component → Placed Def.Component
  placed c = record { base = base; value = component_of image t base c }

  -- a variable or a filler, that has no bits, and a literal
  pub record Plain (c : Component) (offset : ℕ) : Type 0 where
    pub no_bits : bits_of (component_of image t base c) ≡ []
    pub block : plain_block c ≡ component_bytes offset (placed c)

  pub plain_is : (c : Component) (offset : ℕ) → ComponentStaged image t base c → ((b : Bits) → c.c_type ≡ T.Literal b → ⊥) → Plain c offset
  plain_is c offset h other = go c.c_type refl h.c_type
    where
      r : Usbr
      r = c.range

      go : (x : ComponentType) → x ≡ c.c_type → Values.TypeFits image t base x → Plain (record { c_type = x; range = r; width = c.width }) offset
      go (T.Literal b) e f = absurd (other b (sym e))
      go (T.Variable p) e f =
          let s = text_bytes base (part_of image t base p) in
          record {
            no_bits = refl;
            block = ap (λ (l : List ℕ). (u32 2 ++ l ++ word_bytes 0 ++ u32 (present r.«end»)) ++ range_block r) (text_is image t base p f)
                ∙ ap (λ (l : List ℕ). (l ++ u32 (present r.«end»)) ++ range_block r) (sym (append_assoc (u32 2 ++ s) (u32 0) (u32 0)))
                ∙ rest_is r h.measured.fits (u32 2 ++ s ++ u32 0 ++ u32 0);
          }
      go T.Filler e f = record { no_bits = refl; block = rest_is r h.measured.fits (u32 3 ++ u32 0 ++ u32 0 ++ u32 0 ++ u32 0) }

  pub open_is : (c : Component) (b : Bits) (offset : ℕ) → ComponentStaged image t base c → c.c_type ≡ T.Literal b
      → open_block c.range (length (Values.bits_of image b)) offset ≡ component_bytes offset (placed c)
  open_is c b offset h e =
      rw e (rest_is c.range h.measured.fits (u32 1 ++ u32 0 ++ u32 0 ++ u32 (length (Values.bits_of image b)) ++ u32 offset))

-- a literal from 0 to its width
pub fixed_block_lem : (base offset : ℕ) (bits : List ℕ) → length bits < 2 ^ 64
    → fixed_block (length bits) offset ≡ component_bytes offset (record { base = base; value = whole_literal bits })
unfolding tab
fixed_block_lem base offset bits h =
    ap (λ (l : List ℕ). literal_block (length bits) offset 1 ++ (word_bytes 0 ++ word_bytes 0 ++ word_bytes 0) ++ (word_bytes 0 ++ l)) (x_small (length bits) h)
