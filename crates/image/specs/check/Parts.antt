-- The parts of the image check, over numbers that were read already. Each is the definition's own where it is given what the image says.
use Rattle.std.specs.Prelude.{◌≡◌, ◌≤◌, ◌+◌, ◌*◌, ◌/◌, ◌^◌, ◌&&◌}
use Rattle.definition.specs.Prelude.{ℕ, Bool, List, map, length, get_or, leb, eqb}
use Rattle.definition.specs.Basics.{Result, ◌>>=◌, within, sum, all, tab}
use Rattle.definition.specs.Limits.{limits}
use Rattle.definition.specs.Refusals.{need, bad_record}
use Rattle.definition.specs.Image.{u32_at, bytes_for, counts, tables, record_count, start_at, Entry}
use Rattle.definition.specs.Check.{spares_zero, check_in, check_components}
use Rattle.image.specs.declared.token_tree.Counts.{Counts}
use Rattle.image.specs.declared.token_tree.Tables.{Tables}
use Rattle.image.specs.token_tree.Tables.{counts_of, tables_of}
use Rattle.image.specs.declared.record_rules.Numbers.{Numbers}
use Rattle.image.specs.record_rules.Rules.{spare_bits, entry_with}
use Rattle.image.specs.declared.check.records.Places.{Places}

-- 3 and 4
abbrev pub counts_in : record { c : ℕ; n : ℕ; r : ℕ; t : ℕ; b : ℕ } → Bool
counts_in h =
    within 1 limits.concatenations h.c && within 1 limits.components h.n && within 1 limits.records h.r
    && within 1 limits.text h.t && leb h.b limits.literal_bytes

abbrev pub offsets_in : List ℕ → record { concatenations : ℕ; components : ℕ; records : ℕ; text : ℕ; literals : ℕ; stop : ℕ } → Bool
offsets_in image at =
    eqb (u32_at image 20) at.concatenations && eqb (u32_at image 24) at.components && eqb (u32_at image 28) at.records
    && eqb (u32_at image 32) at.text && eqb (u32_at image 36) at.literals && eqb (length image) at.stop

-- an image that passed 2 to 4, its counts and tables: there are records, and the last table ends where the image ends
pub record Laid (image : List ℕ) (h : Counts) (at : Tables) : Type 0 where
  pub counted : counts_of h ≡ counts image
  pub placed : tables_of at ≡ tables image
  pub some : 1 ≤ h.r
  pub ends : length image ≡ at.stop

-- 5: numbers of at least 1, which with s make up the total
abbrev pub sizes_right : ℕ → List ℕ → ℕ → Bool
sizes_right s sizes total = all (leb 1) sizes && eqb (s + sum sizes) total

-- the widths of literals, the first of which stands at literal byte l
abbrev pub widths_right : List ℕ → ℕ → List ℕ → ℕ → Bool
widths_right image l widths total =
    all (λ w. leb w limits.width) widths && eqb (l + sum (map bytes_for widths)) total && spares_zero image l widths

abbrev pub spare_zero : List ℕ → ℕ → ℕ → Bool
spare_zero image at w = spare_bits (get_or image (at + w / 8) 0) w

-- 6 and 7: where the definition finds the records and their texts
abbrev pub places_of : List ℕ → Places
places_of image = record { records = (tables image).records; text = (tables image).text; count = (counts image).r; t = (counts image).t }

-- all records stand in the image, and no place in the text wraps
pub record Fits (image : List ℕ) (records text all : ℕ) : Type 0 where
  pub inside : records + 12 * all ≤ length image
  pub low : text ≤ 2 ^ 40

-- a record's numbers with the first byte of its text, where the texts stand at `text`
abbrev pub entry_from : List ℕ → ℕ → Numbers → Entry
entry_from image text e = entry_with e (get_or image (text + e.start) 0)

-- x is the answer of the check of `count` records from record `from` on, whatever fuel is enough
abbrev pub Says : ℕ → (ℕ → Entry) → ℕ → ℕ → ℕ → Result Unit → Type 0
Says t g depth from count x = (f : ℕ) → count ≤ f → x ≡ check_in t f (tab g from count) depth

-- 6 and 7 of all components
unfoldable pub records : List ℕ → Result Unit
records image = do
  _ ← need (eqb (start_at image 0) 0) bad_record
  check_components image 0 (tab (record_count image) 0 (counts image).n)
