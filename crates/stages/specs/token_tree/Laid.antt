-- The items of a run as they stand in the record table of an image, from record r up to record `stop`, their text from place s up to
-- `tail` of the text table; `base` is where the component's text starts there.
use Rattle.std.specs.Prelude.{◌≡◌, ◌<◌, ◌≤◌, ◌+◌, ◌*◌, ◌-◌, ◌^◌, ◌∷◌}
use Rattle.definition.specs.Prelude.{ℕ, zero, suc, true, false, List, [], length, get_or}
use Rattle.definition.specs.Image.{bytes_at, kinds, delimiter}
use Rattle.definition.specs.Tree.{Forest, flat, text_of, record_bytes, sound_forest}
use Rattle.definition.specs.Text.{Item, is_group}
use Rattle.prepared.specs.Bytes.{Holds}
use Rattle.stages.specs.token_tree.Table.{kind_in, start_in, skip_in}
use Rattle.stages.specs.declared.token_tree.types.Tree.{Tree}

-- a forest's records from record r up to record `stop`
pub record Planted (image : List ℕ) (t : Tree) (stop tail r s : ℕ) (f : Forest) : Type 0 where
  pub sound : sound_forest f ≡ true
  pub ends : stop ≡ r + length (flat f)
  pub text_ends : tail ≡ s + length (text_of (flat f))
  pub few : length (flat f) < 2 ^ 31
  pub small : tail < 2 ^ 32
  pub records : Holds image (t.records + 12 * r) (record_bytes s (flat f))
  pub text : Holds image (t.text + s) (text_of (flat f))

-- what stands inside a group of `skip` records
pub record Inner (image : List ℕ) (t : Tree) (r s skip : ℕ) (i : Item) : Type 0 where
  pub forest : Forest
  pub first : get_or i.part.bytes 0 0 ≡ (delimiter i.kind).opening
  pub inside : i.inside ≡ flat forest
  pub inside_at : i.inside_at ≡ i.part.at + 1
  pub two : 2 ≤ skip
  pub long : 2 ≤ length i.part.bytes
  pub planted : Planted image t (r + (skip - 1)) (s + (length i.part.bytes - 1)) (r + 1) (s + 1) forest

-- one item at record r
pub record Stands (image : List ℕ) (t : Tree) (base stop r s : ℕ) (i : Item) : Type 0 where
  pub room : r + 1 ≤ stop
  pub kind : kind_in image t r ≡ i.kind
  pub start : start_in image t r ≡ s
  pub skip : 1 ≤ skip_in image t r
  pub at : base + i.part.at ≡ s
  pub some : 1 ≤ length i.part.bytes
  pub bytes : bytes_at image (t.text + s) (length i.part.bytes) ≡ i.part.bytes
  pub word : is_group i ≡ false → i.kind ≡ kinds.chars
  pub single : is_group i ≡ false → skip_in image t r ≡ 1
  pub group : is_group i ≡ true → Inner image t r s (skip_in image t r) i

unfoldable pub Laid : List ℕ → Tree → ℕ → ℕ → ℕ → ℕ → ℕ → List Item → Type 0
Laid image t base stop tail r s [] = (r ≡ stop) × (s ≡ tail)
Laid image t base stop tail r s (i ∷ is) =
    Stands image t base stop r s i × Laid image t base stop tail (r + skip_in image t r) (s + length i.part.bytes) is

-- the record of item n of a run
unfoldable pub place_of : List ℕ → Tree → ℕ → ℕ → ℕ
place_of image t r zero = r
place_of image t r (suc n) = place_of image t (r + skip_in image t r) n

-- what a walk over a run asks: some items stand there, within the image
pub record Runs (image : List ℕ) (t : Tree) (stop tail r s : ℕ) : Type 0 where
  pub base : ℕ
  pub items : List Item
  pub laid : Laid image t base stop tail r s items
  pub fits : t.records + 12 * stop ≤ length image
  pub text_fits : t.text + tail ≤ length image
  pub small : length image < 2 ^ 31
  pub text_small : tail < 2 ^ 32
