-- The image check's rules over numbers that were read already. Each is the definition's own where it is given what the image says.
use Rattle.std.specs.Prelude.{◌%◌, ◌^◌, ◌&&◌, if◌then◌else◌}
use Rattle.definition.specs.Prelude.{ℕ, Bool, true, leb, ltb, eqb}
use Rattle.definition.specs.Image.{Entry, kinds, opens, delimiter}
use Rattle.definition.specs.Check.{text_right, delimiter_right}
use Rattle.image.specs.declared.record_rules.Numbers.{Numbers}
use Rattle.image.specs.declared.record_rules.Delimiter.{Delimiter}

-- 5: a literal's last byte
abbrev pub spare_bits : ℕ → ℕ → Bool
spare_bits last w = if eqb (w % 8) 0 then true else ltb last (2 ^ (w % 8))

-- 6: a record's numbers with the first byte of its text
abbrev pub entry_with : Numbers → ℕ → Entry
entry_with e byte = record { kind = e.kind; start = e.start; stop = e.stop; skip = e.skip; byte = byte }

abbrev pub delimiter_of : Delimiter → record { opening : ℕ; closing : ℕ }
delimiter_of d = record { opening = d.opening; closing = d.closing }

-- an opener whose skip stays in the records that are left; and then its text, with its closer's kind
abbrev pub skip_right : Entry → ℕ → Bool
skip_right e left = opens e.kind && leb 2 e.skip && leb e.skip left

abbrev pub opener_right : ℕ → Entry → Entry → Bool
opener_right t e closer = text_right t e && delimiter_right (delimiter e.kind).opening e && eqb closer.kind kinds.closer
