-- The structs of the reader, as the definition's records.
use Rattle.std.specs.Prelude.{◌≡◌, refl, ◌+◌, ◌*◌, if◌then◌else◌}
use Rattle.std.proofs.Common.{ap, ◌∙◌}
use Rattle.definition.specs.Prelude.{ℕ, List, get_or, eqb}
use Rattle.definition.specs.Image.{u32_at, counts, tables_for, tables, Entry, entry_at}
use Rattle.image.specs.declared.token_tree.Counts.{Counts}
use Rattle.image.specs.declared.token_tree.Tables.{Tables}

abbrev pub counts_of : Counts → record { c : ℕ; n : ℕ; r : ℕ; t : ℕ; b : ℕ }
counts_of h = record { c = h.c; n = h.n; r = h.r; t = h.t; b = h.b }

abbrev pub tables_of : Tables → record { concatenations : ℕ; components : ℕ; records : ℕ; text : ℕ; literals : ℕ; stop : ℕ }
tables_of t = record { concatenations = t.concatenations; components = t.components; records = t.records; text = t.text; literals = t.literals; stop = t.stop }

-- the tables for counts that were read are the image's
pub tables_told : (image : List ℕ) (t : Tables) (h : Counts) → tables_of t ≡ tables_for h.c h.n h.r h.t h.b
    → counts_of h ≡ counts image → tables_of t ≡ tables image
tables_told image t h p q = p ∙ ap (λ x. tables_for x.c x.n x.r x.t x.b) q

-- "a record's text ends at the next start, the last at T": of record r of `count`, the next start standing at `next`
abbrev pub stop_in : List ℕ → ℕ → ℕ → ℕ → ℕ → ℕ
stop_in image next count t r = if eqb (r + 1) count then t else u32_at image next

-- record r of a table at `records`, of `count` records, whose texts stand at `text` and stop at t
unfoldable pub entry_in : List ℕ → ℕ → ℕ → ℕ → ℕ → ℕ → Entry
entry_in image records text count t r =
    let at = records + 12 * r in
    let start = u32_at image (at + 4) in
    record {
      kind = u32_at image at;
      start = start;
      stop = stop_in image (records + 12 * (r + 1) + 4) count t r;
      skip = u32_at image (at + 8);
      byte = get_or image (text + start) 0;
    }

-- at the image's own tables and counts it is the definition's
pub entry_own : (image : List ℕ) (r : ℕ) →
    entry_in image (tables image).records (tables image).text (counts image).r (counts image).t r ≡ entry_at image r
unfolding entry_in
entry_own image r = refl

-- and so it is at the tables and counts that were read
pub entry_read : (image : List ℕ) (t : Tables) (h : Counts) (r : ℕ) → tables_of t ≡ tables image → counts_of h ≡ counts image →
    entry_in image t.records t.text h.r h.t r ≡ entry_at image r
entry_read image t h r p q =
    ap (λ x. entry_in image x.records x.text h.r h.t r) p
    ∙ ap (λ x. entry_in image (tables image).records (tables image).text x.r x.t r) q
    ∙ entry_own image r
