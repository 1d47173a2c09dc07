-- A prepared image is a tree written down: concatenations of components, a component being a forest of records and its literal's bits.
use Rattle.std.specs.Prelude.{◌+◌, ◌*◌, ◌/◌, ◌%◌, ◌^◌, ◌&&◌, ◌∷◌, ◌++◌}
use Rattle.definition.specs.Prelude.{ℕ, suc, max, Bool, true, not, List, [], map, length, get_or, leb, ltb}
use Rattle.definition.specs.Basics.{within, is_empty, sum, all, tab, joined}
use Rattle.definition.specs.Limits.{limits}
use Rattle.definition.specs.Image.{Rec, bytes_for, tables_for, kinds, opens, delimiter}

-- records as they nest: characters, and groups of a kind
pub data Forest : Type 0 where
  end : Forest
  word : List ℕ → Forest → Forest
  group : ℕ → Forest → Forest → Forest

pub record Node : Type 0 where
  pub forest : Forest
  pub bits : List ℕ

abbrev pub Tree : Type 0
Tree = List (List Node)

-- a forest's records in order: "Skip is 1, but an opener's counts the records to just after its closer"
unfoldable pub flat : Forest → List Rec
flat end = []
flat (word s rest) = record { kind = kinds.chars; text = s; skip = 1 } ∷ flat rest
flat (group k inside rest) =
    record { kind = k; text = (delimiter k).opening ∷ []; skip = 2 + length (flat inside) }
    ∷ (flat inside ++ record { kind = kinds.closer; text = (delimiter k).closing ∷ []; skip = 1 } ∷ flat rest)

unfoldable pub text_of : List Rec → List ℕ
text_of [] = []
text_of (r ∷ rs) = r.text ++ text_of rs

abbrev pub u32 : ℕ → List ℕ
u32 n = n % 256 ∷ n / 256 % 256 ∷ n / 65536 % 256 ∷ n / 16777216 % 256 ∷ []

-- "lowest first, spare high bits zero": byte q of the bits, and all of them
abbrev pub byte_of : List ℕ → ℕ → ℕ
byte_of bits q = sum (tab (λ j. get_or bits (8 * q + j) 0 * 2 ^ j) 0 8)

unfoldable pub packed : List ℕ → List ℕ
packed bits = tab (byte_of bits) 0 (bytes_for (length bits))

-- the record table from a text start on
unfoldable pub record_bytes : ℕ → List Rec → List ℕ
record_bytes start [] = []
record_bytes start (r ∷ rs) = u32 r.kind ++ u32 start ++ u32 r.skip ++ record_bytes (start + length r.text) rs

abbrev pub recs_of : Node → List Rec
recs_of n = flat n.forest

abbrev pub all_recs : List Node → List Rec
all_recs ns = joined (map recs_of ns)

abbrev pub literals_of : List Node → List ℕ
literals_of ns = joined (map (λ n. packed n.bits) ns)

-- the image of a tree: counts, offsets, text starts and skips are those of the tree
unfoldable pub image_of : Tree → List ℕ
image_of t =
    let ns = joined t in
    let rs = all_recs ns in
    let c = length t in
    let n = length ns in
    let r = length rs in
    let txt = text_of rs in
    let at = tables_for c n r (length txt) (length (literals_of ns)) in
    joined (map u32 (c ∷ n ∷ r ∷ length txt ∷ length (literals_of ns) ∷ at.concatenations ∷ at.components ∷ at.records ∷ at.text ∷ at.literals ∷ []))
    ++ joined (map (λ c. u32 (length c)) t)
    ++ joined (map (λ n. u32 (length (recs_of n)) ++ u32 (length n.bits)) ns)
    ++ record_bytes 0 rs
    ++ txt
    ++ literals_of ns

-- words are of one byte or more, and groups of one of the four kinds
unfoldable pub sound_forest : Forest → Bool
sound_forest end = true
sound_forest (word s rest) = not (is_empty s) && all (λ b. ltb b 256) s && sound_forest rest
sound_forest (group k inside rest) = opens k && sound_forest inside && sound_forest rest

unfoldable pub depth : Forest → ℕ
depth end = 0
depth (word s rest) = depth rest
depth (group k inside rest) = max (suc (depth inside)) (depth rest)

abbrev pub sound_node : Node → Bool
sound_node n =
    leb 1 (length (recs_of n)) && sound_forest n.forest && leb (depth n.forest) limits.depth
    && leb (length n.bits) limits.width && all (λ b. ltb b 2) n.bits

-- document 01's limits: "the header's ranges and the depth of 32"
unfoldable pub fits : Tree → Bool
fits t =
    let ns = joined t in
    within 1 limits.concatenations (length t) && all (λ c. leb 1 (length c)) t && leb (length ns) limits.components
    && leb (length (all_recs ns)) limits.records && leb (length (text_of (all_recs ns))) limits.text
    && leb (length (literals_of ns)) limits.literal_bytes && all sound_node ns
