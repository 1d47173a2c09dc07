-- The image of a tree is a byte string.
use Rattle.std.specs.Prelude.{◌≡◌, refl, ℕ, ◌+◌, ◌^◌, ◌∷◌, ◌++◌}
use Rattle.std.proofs.Common.{arith}
use Rattle.definition.specs.Prelude.{true, List, [], map, length, leb}
use Rattle.definition.specs.Basics.{all, joined}
use Rattle.definition.specs.Image.{Rec}
use Rattle.definition.specs.Tree.{Tree, recs_of, all_recs, text_of, literals_of, packed, u32, record_bytes, image_of, sound_node}
use Rattle.prepared.specs.Statement.{Bytes}
use Rattle.laws.specs.Tests.{tested}
use Rattle.laws.specs.Lists.{all_append}
use Rattle.prepared.specs.Bytes.{u32_bytes}
use Rattle.prepared.specs.Bits.{packed_bytes}
use Rattle.prepared.specs.Tables.{rows_bytes}
use Rattle.prepared.specs.Records.{good_rec}
use Rattle.prepared.specs.Components.{sound_parts, recs_good}
use Rattle.prepared.specs.Layout.{Fits, header, concatenation_row, component_row}

pub bytes_append : (a b : List ℕ) → Bytes a → Bytes b → Bytes (a ++ b)
bytes_append a b p q = rw (all_append, p, q)

record_bytes_lem : (start : ℕ) (rs : List Rec) → Bytes (record_bytes start rs)
unfolding record_bytes all
record_bytes_lem start [] = refl
record_bytes_lem start (r ∷ rs) =
    bytes_append (u32 r.kind ++ u32 start ++ u32 r.skip) (record_bytes (start + length r.text) rs)
    (bytes_append (u32 r.kind ++ u32 start) (u32 r.skip) (bytes_append (u32 r.kind) (u32 start) (u32_bytes r.kind) (u32_bytes start))
    (u32_bytes r.skip))
    (record_bytes_lem (start + length r.text) rs)

text_bytes_lem : (m : ℕ) (rs : List Rec) → all (good_rec m) rs ≡ true → Bytes (text_of rs)
unfolding text_of all
text_bytes_lem m [] g = refl
text_bytes_lem m (r ∷ rs) g =
    let g' = simp tested at g in
    bytes_append r.text (text_of rs) g'.0.1 (text_bytes_lem m rs g'.1)

pub image_bytes : (t : Tree) → Fits t → Bytes (image_of t)
unfolding image_of all
image_bytes t f =
    let ns = joined t in
    let rs = all_recs ns in
    let a = joined (map u32 (header t)) in
    let b = joined (map concatenation_row t) in
    let c = joined (map component_row ns) in
    let d = record_bytes 0 rs in
    let few = f.records in
    bytes_append (a ++ b ++ c ++ d ++ text_of rs) (literals_of ns)
    (bytes_append (a ++ b ++ c ++ d) (text_of rs)
    (bytes_append (a ++ b ++ c) d
    (bytes_append (a ++ b) c
    (bytes_append a b (rows_bytes u32 (λ n. true) (header t) (λ n g. u32_bytes n) refl)
    (rows_bytes concatenation_row (λ c. leb 1 (length c)) t (λ c g. u32_bytes (length c)) f.some_component))
    (rows_bytes component_row sound_node ns
    (λ n g. bytes_append (u32 (length (recs_of n))) (u32 (length n.bits)) (u32_bytes (length (recs_of n))) (u32_bytes (length n.bits))) f.sound))
    (record_bytes_lem 0 rs))
    (text_bytes_lem (2 ^ 30) rs (recs_good (2 ^ 30) ns f.sound (omega arith))))
    (rows_bytes (λ n. packed n.bits) sound_node ns (λ n g. packed_bytes n.bits (sound_parts n g).bits) f.sound)
