-- Document 01, "The prepared image": header and tables, read totally. A byte that is missing counts as 0.
use Rattle.std.specs.Prelude.{◌+◌, ◌*◌, ◌-◌, ◌/◌, ◌%◌, ◌^◌, ◌∷◌, if◌then◌else◌}
use Rattle.definition.specs.Prelude.{ℕ, zero, suc, Bool, List, [], get_or, take, drop, eqb}
use Rattle.definition.specs.Basics.{within, tab}
use Rattle.definition.specs.Characters.{char}

-- "All numbers are little-endian u32."
abbrev pub u32_at : List ℕ → ℕ → ℕ
u32_at s at = get_or s at 0 + 256 * get_or s (at + 1) 0 + 65536 * get_or s (at + 2) 0 + 16777216 * get_or s (at + 3) 0

-- n bytes from a place
unfoldable pub padded : ℕ → List ℕ → List ℕ
padded zero s = []
padded (suc n) [] = 0 ∷ padded n []
padded (suc n) (b ∷ s) = b ∷ padded n s

abbrev pub bytes_at : List ℕ → ℕ → ℕ → List ℕ
bytes_at s at n = padded n (drop at s)

-- "w/8 bytes rounded up"
abbrev pub bytes_for : ℕ → ℕ
bytes_for w = (w + 7) / 8

-- w bits from a place, lowest first
abbrev pub bits_at : List ℕ → ℕ → ℕ → List ℕ
bits_at s at w = let bytes = drop at s in tab (λ i. get_or bytes (i / 8) 0 / 2 ^ (i % 8) % 2) 0 w

-- "Header, 40 bytes: C concatenations, N components, R records, T text bytes, B literal bytes"
abbrev pub counts : List ℕ → record { c : ℕ; n : ℕ; r : ℕ; t : ℕ; b : ℕ }
counts image = record { c = u32_at image 0; n = u32_at image 4; r = u32_at image 8; t = u32_at image 12; b = u32_at image 16 }

-- "five tables, back to back in this order from byte 40", and where the last ends
abbrev pub tables_for : ℕ → ℕ → ℕ → ℕ → ℕ → record { concatenations : ℕ; components : ℕ; records : ℕ; text : ℕ; literals : ℕ; stop : ℕ }
tables_for c n r t b =
    record {
      concatenations = 40;
      components = 40 + 4 * c;
      records = 40 + 4 * c + 8 * n;
      text = 40 + 4 * c + 8 * n + 12 * r;
      literals = 40 + 4 * c + 8 * n + 12 * r + t;
      stop = 40 + 4 * c + 8 * n + 12 * r + t + b;
    }

abbrev pub tables : List ℕ → record { concatenations : ℕ; components : ℕ; records : ℕ; text : ℕ; literals : ℕ; stop : ℕ }
tables image = let h = counts image in tables_for h.c h.n h.r h.t h.b

-- "concatenations, 4 bytes each: number of components"; "components, 8 bytes each: number of records; literal width"
abbrev pub component_count : List ℕ → ℕ → ℕ
component_count image i = u32_at image ((tables image).concatenations + 4 * i)

abbrev pub record_count : List ℕ → ℕ → ℕ
record_count image k = u32_at image ((tables image).components + 8 * k)

abbrev pub literal_width : List ℕ → ℕ → ℕ
literal_width image k = u32_at image ((tables image).components + 8 * k + 4)

-- "records, 12 bytes each: kind, text start, skip"; "a record's text ends at the next start, the last at T"; and its first byte
pub record Entry : Type 0 where
  pub kind : ℕ
  pub start : ℕ
  pub stop : ℕ
  pub skip : ℕ
  pub byte : ℕ

abbrev pub start_at : List ℕ → ℕ → ℕ
start_at image r = u32_at image ((tables image).records + 12 * r + 4)

abbrev pub entry_at : List ℕ → ℕ → Entry
entry_at image r =
    record {
      kind = u32_at image ((tables image).records + 12 * r);
      start = start_at image r;
      stop = if eqb (r + 1) (counts image).r then (counts image).t else start_at image (r + 1);
      skip = u32_at image ((tables image).records + 12 * r + 8);
      byte = get_or image ((tables image).text + start_at image r) 0;
    }

-- "Kinds: 0 characters; 1 Space, 2 `(`, 3 `[`, 4 `{` open a group; 5 closes an opener."
abbrev pub kinds : record { chars : ℕ; space : ℕ; parenthesis : ℕ; bracket : ℕ; brace : ℕ; closer : ℕ }
kinds = record { chars = 0; space = 1; parenthesis = 2; bracket = 3; brace = 4; closer = 5 }

abbrev pub opens : ℕ → Bool
opens kind = within kinds.space kinds.brace kind

-- "An opener or closer has one byte, its delimiter (a space for kind 1)."
abbrev pub delimiter : ℕ → record { opening : ℕ; closing : ℕ }
delimiter kind =
    if eqb kind kinds.space then record { opening = char.space; closing = char.space }
    else if eqb kind kinds.parenthesis then record { opening = char.open_parenthesis; closing = char.close_parenthesis }
    else if eqb kind kinds.bracket then record { opening = char.open_bracket; closing = char.close_bracket }
    else record { opening = char.open_brace; closing = char.close_brace }

-- A record as the stages see it, free of its place: its kind, its text's bytes and its skip.
pub record Rec : Type 0 where
  pub kind : ℕ
  pub text : List ℕ
  pub skip : ℕ

-- n records from record r, their texts one after the other from byte `from` of the image
unfoldable pub recs_from : List ℕ → ℕ → ℕ → ℕ → List Rec
recs_from image from r zero = []
recs_from image from r (suc n) =
    let e = entry_at image r in
    let len = e.stop - e.start in
    record { kind = e.kind; text = bytes_at image from len; skip = e.skip } ∷ recs_from image (from + len) (suc r) n

-- A component that no stage has read, free of its place: its records, and its literal's bits, as many as the width.
pub record Unparsed : Type 0 where
  pub recs : List Rec
  pub bits : List ℕ

-- a thing that stands at a text start of its image
pub record Placed (A : Type 0) : Type 0 where
  pub base : ℕ
  pub value : A

-- n components from component k, the first with record r and literal byte l
unfoldable pub components_from : List ℕ → ℕ → ℕ → ℕ → ℕ → List (Placed Unparsed)
components_from image k r l zero = []
components_from image k r l (suc n) =
    let w = literal_width image k in
    let c = record_count image k in
    record {
      base = start_at image r;
      value = record { recs = recs_from image ((tables image).text + start_at image r) r c; bits = bits_at image ((tables image).literals + l) w };
    }
    ∷ components_from image (suc k) (r + c) (l + bytes_for w) n

-- a list in parts of the given lengths
unfoldable pub parts : {A : Type 0} → List ℕ → List A → List (List A)
parts [] s = []
parts (n ∷ ns) s = take n s ∷ parts ns (drop n s)

-- the concatenations of an image, each a list of components, least significant first
unfoldable pub tree_of : List ℕ → List (List (Placed Unparsed))
tree_of image = parts (tab (component_count image) 0 (counts image).c) (components_from image 0 0 0 (counts image).n)
