-- Blocks written one next to the other.
use Rattle.std.specs.Prelude as Std
use Rattle.std.specs.Prelude.{Some, None, ◌+◌, ◌++◌}
use Rattle.std.specs.Option.{unwrap_or, is_some}
use Rattle.std.specs.Int.{from_bool}
use Rattle.std.proofs.Common.{◌≡◌, ◌∙◌, refl, ap}
use Rattle.std.proofs.lemmas.List.Edits.{sets}
use Rattle.definition.specs.Prelude.{ℕ, Bool, List}
use Rattle.definition.specs.Tree.{u32}
use Rattle.laws.specs.Writing.{and_then, four_blocks}
use Rattle.stages.specs.ranges.Values.{zero_by}
use Rattle.stages.specs.component.Values.{end_or}
use Rattle.stages.specs.answer.Blocks.{word_bytes, text_block, usb_block, range_block, present, head_block, literal_block, type_block, plain_block, open_block, fixed_block}
use Rattle.stages.specs.declared.token_tree.types.Part.{Part}
use Rattle.stages.specs.declared.ranges.types.Usb.{Usb}
use Rattle.stages.specs.declared.ranges.types.Usbr.{Usbr}
use Rattle.stages.specs.declared.component.types.Component.{Component}

pub usb_put : (l : List ℕ) (at : ℕ) (u : Usb) {l₁ l₂ l₃ : List ℕ} → l₁ ≡ sets l at (text_block u.s) → l₂ ≡ sets l₁ (at + 8) (word_bytes u.x.low)
    → l₃ ≡ sets l₂ (at + 16) (word_bytes u.x.high) → l₃ ≡ sets l at (usb_block u)
usb_put l at u p q r =
    and_then l at 16 (text_block u.s ++ word_bytes u.x.low) (word_bytes u.x.high)
    (and_then l at 8 (text_block u.s) (word_bytes u.x.low) p refl q) refl r

pub three_words : (l : List ℕ) (at a b c : ℕ) {l₁ l₂ l₃ : List ℕ} → l₁ ≡ sets l at (word_bytes a) → l₂ ≡ sets l₁ (at + 8) (word_bytes b)
    → l₃ ≡ sets l₂ (at + 16) (word_bytes c) → l₃ ≡ sets l at (word_bytes a ++ word_bytes b ++ word_bytes c)
three_words l at a b c p q r =
    and_then l at 16 (word_bytes a ++ word_bytes b) (word_bytes c) (and_then l at 8 (word_bytes a) (word_bytes b) p refl q) refl r

pub type_put : (l : List ℕ) (at kind : ℕ) (s : Part) (ends : ℕ) {l₁ l₂ l₃ l₄ : List ℕ} → l₁ ≡ sets l at (u32 kind) → l₂ ≡ sets l₁ (at + 4) (text_block s)
    → l₃ ≡ sets l₂ (at + 12) (word_bytes 0) → l₄ ≡ sets l₃ (at + 20) (u32 ends) → l₄ ≡ sets l at (head_block kind s ends)
type_put l at kind s ends p q r t = four_blocks l at 4 12 20 (u32 kind) (text_block s) (word_bytes 0) (u32 ends) p refl q refl r refl t

pub literal_put : (l : List ℕ) (at bits offset present : ℕ) {l₁ l₂ l₃ l₄ l₅ : List ℕ} → l₁ ≡ sets l at (u32 1) → l₂ ≡ sets l₁ (at + 4) (word_bytes 0)
    → l₃ ≡ sets l₂ (at + 12) (u32 bits) → l₄ ≡ sets l₃ (at + 16) (u32 offset) → l₅ ≡ sets l₄ (at + 20) (u32 present)
    → l₅ ≡ sets l at (literal_block bits offset present)
literal_put l at bits offset present p q r s t =
    and_then l at 20 (u32 1 ++ word_bytes 0 ++ u32 bits ++ u32 offset) (u32 present)
    (four_blocks l at 4 12 16 (u32 1) (word_bytes 0) (u32 bits) (u32 offset) p refl q refl r refl s) refl t

pub fixed_put : (l : List ℕ) (at bits offset : ℕ) {l₁ l₂ l₃ : List ℕ} → l₁ ≡ sets l at (literal_block bits offset 1)
    → l₂ ≡ sets l₁ (at + 24) (word_bytes 0 ++ word_bytes 0 ++ word_bytes 0) → l₃ ≡ sets l₂ (at + 48) (word_bytes 0 ++ word_bytes bits ++ word_bytes 0)
    → l₃ ≡ sets l at (fixed_block bits offset)
fixed_put l at bits offset p q r =
    and_then l at 48 (literal_block bits offset 1 ++ (word_bytes 0 ++ word_bytes 0 ++ word_bytes 0)) (word_bytes 0 ++ word_bytes bits ++ word_bytes 0)
    (and_then l at 24 (literal_block bits offset 1) (word_bytes 0 ++ word_bytes 0 ++ word_bytes 0) p refl q) refl r

-- a range's end, or zeros
pub end_is : (y : Std.Option Usb) (z r : Usb) → z ≡ zero_by → r ≡ unwrap_or y z → r ≡ end_or y
end_is (Some u) z r p q = q
end_is None z r p q = q ∙ p

-- whether there is one, as a number
pub present_is : (y : Std.Option Usb) (b : Bool) → b ≡ is_some y → from_bool b ≡ present y
present_is (Some u) b e = rw e refl
present_is None b e = rw e refl

pub open_put : (l : List ℕ) (at : ℕ) (r : Usbr) (bits offset : ℕ) (b : Bool) {l₁ l₂ : List ℕ} → l₁ ≡ sets l at (literal_block bits offset (from_bool b))
    → b ≡ is_some r.«end» → l₂ ≡ sets l₁ (at + 24) (range_block r) → l₂ ≡ sets l at (open_block r bits offset)
open_put l at r bits offset b p e q =
    and_then l at 24 (literal_block bits offset (present r.«end»)) (range_block r)
    (p ∙ ap (λ n. sets l at (literal_block bits offset n)) (present_is r.«end» b e)) refl q

pub plain_put : (l : List ℕ) (at : ℕ) (c : Component) (kind : ℕ) (s : Part) (b : Bool) {l₁ l₂ : List ℕ} → l₁ ≡ sets l at (head_block kind s (from_bool b))
    → b ≡ is_some c.range.«end» → l₂ ≡ sets l₁ (at + 24) (range_block c.range)
    → head_block kind s (present c.range.«end») ≡ type_block c.c_type (present c.range.«end») → l₂ ≡ sets l at (plain_block c)
plain_put l at c kind s b p e q is =
    and_then l at 24 (head_block kind s (present c.range.«end»)) (range_block c.range)
    (p ∙ ap (λ n. sets l at (head_block kind s n)) (present_is c.range.«end» b e)) refl q
    ∙ ap (λ h. sets l at (h ++ range_block c.range)) is
