-- Document 01, "Image check": 2 to 7 in the document's order, all with places 0, 0.
use Rattle.std.specs.Prelude.{◌+◌, ◌-◌, ◌/◌, ◌%◌, ◌^◌, ◌&&◌, ◌∷◌, if◌then◌else◌}
use Rattle.definition.specs.Prelude.{ℕ, zero, suc, Bool, true, false, List, [], map, length, get_or, take, drop, leb, ltb, eqb}
use Rattle.definition.specs.Basics.{Result, ok, ◌>>=◌, within, sum, all, tab}
use Rattle.definition.specs.Limits.{limits}
use Rattle.definition.specs.Refusals.{need, refuse, short_image, bad_count, bad_offset, bad_entry, bad_record, too_deep}
use Rattle.definition.specs.Image.{u32_at, bytes_for, counts, tables, component_count, record_count, literal_width, Entry, start_at, entry_at, kinds, opens, delimiter}

-- 3: "C concatenations (1 to 16), N components (1 to 256), R records (1 to 2,048), T text bytes (1 to 16,384), B literal bytes (0 to 8,192)"
abbrev pub counts_right : List ℕ → Bool
counts_right image =
    let h = counts image in
    within 1 limits.concatenations h.c && within 1 limits.components h.n && within 1 limits.records h.r
    && within 1 limits.text h.t && leb h.b limits.literal_bytes

-- 4: "then the offsets of five tables, back to back in this order from byte 40", and nothing after them
abbrev pub offsets_right : List ℕ → Bool
offsets_right image =
    let at = tables image in
    eqb (u32_at image 20) at.concatenations && eqb (u32_at image 24) at.components && eqb (u32_at image 28) at.records
    && eqb (u32_at image 32) at.text && eqb (u32_at image 36) at.literals && eqb (length image) at.stop

-- "spare high bits zero": of widths that stand one after the other from literal byte l
unfoldable pub spares_zero : List ℕ → ℕ → List ℕ → Bool
spares_zero image l [] = true
spares_zero image l (w ∷ ws) =
    (if eqb (w % 8) 0 then true else ltb (get_or image ((tables image).literals + l + w / 8) 0) (2 ^ (w % 8)))
    && spares_zero image (l + bytes_for w) ws

-- 5: "number of components, at least 1; sum N"; "number of records, at least 1, sum R; literal width, 0 to 4,096 bits"; "total B"
abbrev pub entries_right : List ℕ → Bool
entries_right image =
    let h = counts image in
    let sizes = tab (component_count image) 0 h.c in
    let lengths = tab (record_count image) 0 h.n in
    let widths = tab (literal_width image) 0 h.n in
    all (leb 1) sizes && eqb (sum sizes) h.n && all (leb 1) lengths && eqb (sum lengths) h.r
    && all (λ w. leb w limits.width) widths && eqb (sum (map bytes_for widths)) h.b && spares_zero image 0 widths

abbrev pub no_entry : Entry
no_entry = record { kind = 0; start = 0; stop = 0; skip = 0; byte = 0 }

-- "Text starts rise strictly from 0, below T"
abbrev pub text_right : ℕ → Entry → Bool
text_right t e = ltb e.start t && ltb e.start e.stop

abbrev pub delimiter_right : ℕ → Entry → Bool
delimiter_right b e = eqb e.stop (e.start + 1) && eqb e.byte b

-- a record that opens no group: characters, with skip 1
abbrev pub word_right : ℕ → Entry → Bool
word_right t e = text_right t e && eqb e.kind kinds.chars && eqb e.skip 1

-- what follows an opener, up to its closer, the closer, and what stands after it
abbrev pub inside_of : Entry → List Entry → List Entry
inside_of e rest = take (e.skip - 2) rest

abbrev pub closer_of : Entry → List Entry → Entry
closer_of e rest = get_or rest (e.skip - 2) no_entry

abbrev pub after_of : Entry → List Entry → List Entry
after_of e rest = drop (e.skip - 1) rest

-- "an opener's counts the records to just after its closer, which lies in the same component and enclosing group"; "its closer's
-- kind at the opener"
abbrev pub open_right : ℕ → Entry → List Entry → Bool
open_right t e rest =
    text_right t e && delimiter_right (delimiter e.kind).opening e
    && leb 2 e.skip && leb e.skip (1 + length rest) && eqb (closer_of e rest).kind kinds.closer

abbrev pub close_right : ℕ → Entry → Entry → Bool
close_right t e c = text_right t c && delimiter_right (delimiter e.kind).closing c && eqb c.skip 1

-- 6 and 7, record by record: what stands in one component or group, `depth` groups deep. "A group is checked by checking what
-- stands inside it." The fuel is the number of records, which is always enough; a record that is met without fuel is refused.
unfoldable pub check_in : ℕ → ℕ → List Entry → ℕ → Result Unit
check_in t zero [] depth = ok tt
check_in t zero (e ∷ rest) depth = refuse bad_record
check_in t (suc fuel) [] depth = ok tt
check_in t (suc fuel) (e ∷ rest) depth =
    elim (opens e.kind) [
      | true ↦ do
        _ ← need (open_right t e rest) bad_record
        _ ← need (ltb depth limits.depth) too_deep
        _ ← check_in t fuel (inside_of e rest) (suc depth)
        _ ← need (close_right t e (closer_of e rest)) bad_record
        check_in t fuel (after_of e rest) depth
      | false ↦ do
        _ ← need (word_right t e) bad_record
        check_in t fuel rest depth
    ]

-- component by component: the records from record r, in parts of the given lengths
unfoldable pub check_components : List ℕ → ℕ → List ℕ → Result Unit
check_components image r [] = ok tt
check_components image r (n ∷ ns) = do
  _ ← check_in (counts image).t n (tab (entry_at image) r n) 0
  check_components image (r + n) ns

unfoldable pub check_image : List ℕ → Result Unit
check_image image = do
  _ ← need (leb 40 (length image)) short_image
  _ ← need (counts_right image) bad_count
  _ ← need (offsets_right image) bad_offset
  _ ← need (entries_right image) bad_entry
  _ ← need (eqb (start_at image 0) 0) bad_record
  check_components image 0 (tab (record_count image) 0 (counts image).n)
