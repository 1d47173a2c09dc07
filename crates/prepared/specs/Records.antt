-- The record table and the text of an image, read back: entries, and the records with their texts.
use Rattle.std.specs.Prelude.{◌≡◌, ℕ, zero, suc, ◌+◌, ◌*◌, ◌-◌, ◌^◌, ◌≤◌, ◌<◌, ◌&&◌, ◌∷◌, ◌++◌, if◌then◌else◌}
use Rattle.std.proofs.Math.Path.{refl}
use Rattle.std.proofs.Common.{ap, ◌∙◌}
use Rattle.std.proofs.Math.Nat.{add-zero, add_assoc}
use Rattle.std.proofs.Math.Numerals.{add-one}
use native.Mathlib.Omega.{arith}
use Rattle.std.proofs.Math.ListN.{length-append}
use Rattle.definition.specs.Prelude.{Bool, true, false, not, List, [], length, get_or, leb, ltb, eqb}
use Rattle.definition.specs.Basics.{is_empty, all, tab}
use Rattle.definition.specs.Image.{Rec, Entry, u32_at, counts, tables, bytes_at, start_at, entry_at, recs_from, kinds, delimiter}
use Rattle.definition.specs.Tree.{Forest, end, word, group, flat, sound_forest, text_of, u32, record_bytes}
use Rattle.prepared.specs.Statement.{entries_from}
use Rattle.laws.specs.Tests.{and_iff, eqb_iff, eqb_false, tested}
use Rattle.laws.specs.Lists.{all_append}
use Rattle.prepared.specs.Bytes.{Holds, holds_left, holds_right, holds_get_or, bytes_at_holds, u32_at_next}
use Rattle.prepared.specs.Groups.{nonempty}

-- a record that fits a table of m records: its numbers are small, its text is of one byte or more
abbrev pub good_rec : ℕ → Rec → Bool
good_rec m r = ltb r.kind 6 && leb r.skip m && not (is_empty r.text) && all (λ b. ltb b 256) r.text

-- good records have text
pub text_some : (m : ℕ) (rs : List Rec) → 1 ≤ length rs → all (good_rec m) rs ≡ true → 1 ≤ length (text_of rs)
unfolding all text_of
text_some m [] l g = absurd (omega arith)
text_some m (r ∷ rs) l g =
    let some = nonempty r.text (simp tested at g).0.0.1 in
    let e = length-append r.text (text_of rs) in
    omega arith

-- one row of the record table, and what stands behind it
row_read : (s : List ℕ) (i start : ℕ) (x : Rec) (rs : List Rec) → good_rec (2 ^ 30) x ≡ true → start < 2 ^ 30
    → Holds s i (record_bytes start (x ∷ rs))
    → (u32_at s i ≡ x.kind) × (u32_at s (i + 4) ≡ start) × (u32_at s (i + 8) ≡ x.skip) × Holds s (i + 12) (record_bytes (start + length x.text) rs)
unfolding record_bytes
row_read s i start x rs g b h =
    let g' = simp tested at g in
    let rest : List ℕ = record_bytes (start + length x.text) rs in
    let (k, h₁) = u32_at_next s i x.kind (u32 start ++ u32 x.skip ++ rest) h (omega arith) in
    let (st, h₂) = u32_at_next s (i + 4) start (u32 x.skip ++ rest) h₁ (omega arith) in
    let (sk, h₃) = u32_at_next s (i + 4 + 4) x.skip rest h₂ (omega arith) in
    let e : i + 8 ≡ i + 4 + 4 = omega arith in
    let f : i + 12 ≡ i + 4 + 4 + 4 = omega arith in
    (k, st, rw e sk, rw f h₃)

-- the record table at `records` and the text at `text`, of R records and T bytes
module _ (s : List ℕ) (records text R T : ℕ) (records_at : (tables s).records ≡ records) (text_at : (tables s).text ≡ text)
    (R_is : (counts s).r ≡ R) (T_is : (counts s).t ≡ T) (small_R : R < 2 ^ 30) (small_T : T < 2 ^ 30) where
  -- "a record's text ends at the next start, the last at T"
  stop_read : (r start : ℕ) (rs : List Rec) → all (good_rec (2 ^ 30)) rs ≡ true → r + 1 + length rs ≡ R → start + length (text_of rs) ≡ T
      → Holds s (records + 12 * (r + 1)) (record_bytes start rs)
      → (if eqb (r + 1) R then T else u32_at s (records + 12 * (r + 1) + 4)) ≡ start
  unfolding text_of all
  stop_read r start [] g e f h = rw ((eqb_iff (r + 1) R).1 (omega arith)) (omega arith)
  stop_read r start (x ∷ rs) g e f h =
      rw (eqb_false (r + 1) R (omega arith))
      (row_read s (records + 12 * (r + 1)) start x rs ((and_iff (good_rec (2 ^ 30) x) (all (good_rec (2 ^ 30)) rs)).0 g).0 (omega arith) h).1

  pub entries_read : (r start : ℕ) (rs : List Rec) → all (good_rec (2 ^ 30)) rs ≡ true → r + length rs ≡ R → start + length (text_of rs) ≡ T
      → Holds s (records + 12 * r) (record_bytes start rs) → Holds s (text + start) (text_of rs)
      → tab (entry_at s) r (length rs) ≡ entries_from start rs
  unfolding tab all text_of entries_from
  entries_read r start [] g e f h t = refl
  entries_read r start (x ∷ rs) g e f h t =
      let (g₁, g₂) = (and_iff (good_rec (2 ^ 30) x) (all (good_rec (2 ^ 30)) rs)).0 g in
      let len = length-append x.text (text_of rs) in
      let (k, st, sk, h₁) = row_read s (records + 12 * r) start x rs g₁ (omega arith) h in
      let next : records + 12 * r + 12 ≡ records + 12 * (r + 1) = omega arith in
      let h₂ = rw next at h₁ in
      let stop = stop_read r (start + length x.text) rs g₂ (omega arith) (omega arith) h₂ in
      let some : 0 < length x.text = nonempty x.text (simp tested at g₁).0.1 in
      let byte : get_or s (text + start) 0 ≡ get_or x.text 0 0 =
      rw (← add-zero (text + start)) (holds_get_or s (text + start) x.text 0 0 (holds_left s (text + start) x.text (text_of rs) t) some) in
      let rest : tab (entry_at s) (r + 1) (length rs) ≡ entries_from (start + length x.text) rs =
      entries_read (r + 1) (start + length x.text) rs g₂ (omega arith) (omega arith) h₂
      (rw (← add_assoc text start (length x.text)) (holds_right s (text + start) x.text (text_of rs) t)) in
      let kind_is : (entry_at s r).kind ≡ x.kind = rw records_at k in
      let start_is : start_at s r ≡ start = rw records_at st in
      let stop_is : (entry_at s r).stop ≡ start + length x.text = rw (R_is, T_is, records_at) stop in
      let skip_is : (entry_at s r).skip ≡ x.skip = rw records_at sk in
      let byte_is : (entry_at s r).byte ≡ get_or x.text 0 0 = rw (start_is, text_at) byte in
      λ i. record { kind = kind_is i; start = start_is i; stop = stop_is i; skip = skip_is i; byte = byte_is i } ∷ (rw add-one at rest) i

-- ---- the records, from their entries and the text

recs_of_lem : List ℕ → ℕ → List Entry → List Rec
recs_of_lem s from [] = []
recs_of_lem s from (e ∷ es) =
    let len = e.stop - e.start in
    record { kind = e.kind; text = bytes_at s from len; skip = e.skip } ∷ recs_of_lem s (from + len) es

recs_by_entries : (s : List ℕ) (from r n : ℕ) → recs_from s from r n ≡ recs_of_lem s from (tab (entry_at s) r n)
unfolding recs_from recs_of_lem tab
recs_by_entries s from r zero = refl
recs_by_entries s from r (suc n) =
    let e = entry_at s r in
    let len = e.stop - e.start in
    ap (λ (l : List Rec). record { kind = e.kind; text = bytes_at s from len; skip = e.skip } ∷ l) (recs_by_entries s (from + len) (suc r) n)

recs_of_entries : (s : List ℕ) (from start : ℕ) (rs : List Rec) → Holds s from (text_of rs) → recs_of_lem s from (entries_from start rs) ≡ rs
unfolding recs_of_lem entries_from text_of
recs_of_entries s from start [] h = refl
recs_of_entries s from start (x ∷ rs) h =
    let len : start + length x.text - start ≡ length x.text = omega arith in
    let first : bytes_at s from (length x.text) ≡ x.text = bytes_at_holds s from x.text (holds_left s from x.text (text_of rs) h) in
    rw (len, first, recs_of_entries s (from + length x.text) (start + length x.text) rs (holds_right s from x.text (text_of rs) h))

pub recs_read : (s : List ℕ) (from r start : ℕ) (rs : List Rec) → tab (entry_at s) r (length rs) ≡ entries_from start rs
    → Holds s from (text_of rs) → recs_from s from r (length rs) ≡ rs
recs_read s from r start rs e h = recs_by_entries s from r (length rs) ∙ rw e (recs_of_entries s from start rs h)

-- ---- the records of a forest are good

delimiter_bytes : (k : ℕ) → ((delimiter k).opening < 256) × ((delimiter k).closing < 256)
delimiter_bytes k = go (eqb k kinds.space) (eqb k kinds.parenthesis) (eqb k kinds.bracket)
  where
    go : (a b c : Bool)
        → let d : record { opening : ℕ; closing : ℕ } = if a then record { opening = 32; closing = 32 }
        else if b then record { opening = 40; closing = 41 }
        else if c then record { opening = 91; closing = 93 } else record { opening = 123; closing = 125 } in
        (d.opening < 256) × (d.closing < 256)
    go true b c = omega arith
    go false true c = omega arith
    go false false true = omega arith
    go false false false = omega arith

pub flat_good : (f : Forest) (m : ℕ) → sound_forest f ≡ true → length (flat f) ≤ m → all (good_rec m) (flat f) ≡ true
unfolding flat sound_forest all
flat_good end m s l = refl
flat_good (word w rest) m s l =
    let s' = simp tested at s in
    simp tested ((((omega arith, omega arith), s'.0.0), s'.0.1), flat_good rest m s'.1 (omega arith))
flat_good (group k inside rest) m s l =
    let s' = simp tested at s in
    let d = delimiter_bytes k in
    let n = length-append (flat inside) (record { kind = kinds.closer; text = (delimiter k).closing ∷ []; skip = 1 } ∷ flat rest) in
    rw (all_append (good_rec m) (flat inside) (record { kind = kinds.closer; text = (delimiter k).closing ∷ []; skip = 1 } ∷ flat rest))
    (simp tested (
      ((((omega arith, omega arith), refl), (d.0, refl))),
      (flat_good inside m s'.0.1 (omega arith), ((((omega arith, omega arith), refl), (d.1, refl)), flat_good rest m s'.1 (omega arith))),
    ))
