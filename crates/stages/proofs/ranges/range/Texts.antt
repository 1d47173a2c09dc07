-- The text of a run of items is one part of the text; no text.
use Rattle.std.specs.Prelude.{Some, ◌+◌}
use Rattle.std.proofs.Common.{◌≡◌, ◌<◌, ◌≤◌, ap, ◌∙◌, arith}
use Rattle.definition.specs.Prelude.{ℕ, List, length, some, pos}
use Rattle.definition.specs.Text as Text
use Rattle.definition.specs.Text.{Item}
use Rattle.definition.specs.Ranges.{text, single_bit}
use Rattle.numbers.specs.Value.{value_of}
use Rattle.stages.specs.token_tree.Table.{start_in}
use Rattle.stages.specs.token_tree.Laid.{Laid}
use Rattle.stages.specs.token_tree.Parts.{part_by}
use Rattle.stages.specs.ranges.Values.{new_by, usbr_of, UsbrFits}
use Rattle.stages.specs.declared.token_tree.types.Tree.{Tree}
use Rattle.stages.specs.declared.token_tree.types.Part.{Part}
use Rattle.stages.specs.declared.ranges.types.Usb.{Usb}
use Rattle.stages.specs.declared.ranges.types.Usbr.{Usbr}
use Rattle.stages.proofs.token_tree.Places.{laid_first, laid_order}
use Rattle.stages.proofs.token_tree.Written.{laid_part, laid_fits}

-- a text and 1
abbrev one_by : Part → Usb
one_by p = record { s = p; x = record { high = 0; low = 1 } }

-- a text up to the next bit
abbrev pub bit_by : Usb → Part → Usbr
bit_by u p = record { start = u; «end» = Some (one_by p) }

module _ (image : List ℕ) (t : Tree) (base : ℕ) where
  -- "In a bracket without dots, text s means s up to s + 1"
  single_of : (stop tail r s : ℕ) (is : List Item) → t.text + tail ≤ length image → Laid image t base stop tail r s is
      → (usbr_of image t base (bit_by (new_by (part_by s tail)) (part_by s tail)) ≡ single_bit is)
      × UsbrFits image t base (bit_by (new_by (part_by s tail)) (part_by s tail))
  unfolding value_of
  single_of stop tail r s is room h =
      let p = laid_fits image t base stop tail r s is h room in (
        ap (λ (x : Text.Part). record { start = text x (pos 0); «end» = some (text x (pos 1)) }) (laid_part image t base stop tail r s is h),
        record {
          start = record { part = p; low = omega arith; high = omega arith };
          «end» = record { part = p; low = omega arith; high = omega arith };
        },
      )

  pub single_is : (stop tail r s from : ℕ) (is : List Item) (p : Part) (u : Usb) → r < stop → t.text + tail ≤ length image → Laid image t base stop tail r s is
      → from ≡ start_in image t r → p ≡ part_by from tail → u ≡ new_by p
      → (usbr_of image t base (bit_by u p) ≡ single_bit is) × UsbrFits image t base (bit_by u p)
  single_is stop tail r s from is p u l room h q e f =
      let z : from ≡ s = q ∙ (laid_first image t base stop tail r s is l h).stands.start in
      let b : p ≡ part_by s tail = e ∙ ap (λ x. part_by x tail) z in
      let g : u ≡ new_by (part_by s tail) = f ∙ ap new_by b in
      rw (g, b) (single_of stop tail r s is room h)

  pub start_order : (stop tail r s from : ℕ) (is : List Item) → r < stop → Laid image t base stop tail r s is → from ≡ start_in image t r → from ≤ tail
  start_order stop tail r s from is l h q =
      let f = (laid_first image t base stop tail r s is l h).stands.start in
      let o = (laid_order image t base stop tail r s is h).1 in
      omega (arith, q, f, o)
