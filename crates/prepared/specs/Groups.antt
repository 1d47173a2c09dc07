-- Refusals 6 and 7 do not meet a forest's records: words, groups, and how deep they nest.
use Rattle.std.specs.Prelude.{◌≡◌, refl, ◌∷◌, ◌++◌}
use Rattle.std.proofs.Common.{ap, length-append, take_at}
use Prim.Native.Nat.{ℕ, zero, suc, ◌+◌, ◌-◌, ◌≤◌, ◌<◌}
use native.Mathlib.Omega.{arith}
use Rattle.std.proofs.Math.Seq.{drop-append-add}
use Rattle.std.proofs.lemmas.List.{get_or_at}
use Rattle.definition.specs.Prelude.{true, List, [], length, get_or, ltb, not}
use Rattle.definition.specs.Basics.{ok, is_empty}
use Rattle.definition.specs.Limits.{limits}
use Rattle.definition.specs.Image.{Rec, Entry, kinds, opens, delimiter}
use Rattle.definition.specs.Check.{check_in, no_entry, open_right, close_right, word_right, inside_of, closer_of, after_of}
use Rattle.definition.specs.Tree.{Forest, end, word, group, flat, text_of, sound_forest, depth}
use Rattle.prepared.specs.Statement.{entries_from}
pub use Rattle.laws.specs.Rows.{text_of_append}
use Rattle.laws.specs.Tests.{leb_iff, tested}

-- entries of records in two parts
pub entries_append : (start : ℕ) (a b : List Rec) → entries_from start (a ++ b) ≡ entries_from start a ++ entries_from (start + length (text_of a)) b
unfolding text_of entries_from
entries_append start [] b = ap (λ (k : ℕ). entries_from k b) (omega arith)
entries_append start (r ∷ a) b =
    let e = length-append r.text (text_of a) in
    let q : start + length r.text + length (text_of a) ≡ start + length (r.text ++ text_of a) = omega arith in
    rw (entries_append (start + length r.text) a b, q)

pub length_entries : (start : ℕ) (rs : List Rec) → length (entries_from start rs) ≡ length rs
unfolding entries_from
length_entries start [] = refl
length_entries start (r ∷ rs) = ap suc (length_entries (start + length r.text) rs)

pub nonempty : {A : Type 0} (l : List A) → not (is_empty l) ≡ true → 0 < length l
nonempty [] h = let z : ◌≡◌ {A = ℕ} 0 1 = cc in absurd (omega arith)
nonempty (a ∷ l) h = omega arith

-- the opener of a group of kind k with n records inside
abbrev opener : ℕ → ℕ → ℕ → Entry
opener k start n = record { kind = k; start = start; stop = start + 1; skip = 2 + n; byte = (delimiter k).opening }

-- a group passes where its inside, its closer and the rest do
module _ (t fuel k start n dep : ℕ) (inside after : List Entry) (c : Entry) where
  check_group : (rest : List Entry) → rest ≡ inside ++ c ∷ after → length inside ≡ n → opens k ≡ true → start < t → c.kind ≡ kinds.closer
      → close_right t (opener k start n) c ≡ true → dep < limits.depth → check_in t fuel inside (suc dep) ≡ ok tt → check_in t fuel after dep ≡ ok tt
      → check_in t (suc fuel) (opener k start n ∷ rest) dep ≡ ok tt
  unfolding check_in
  check_group rest e m o l ck cr d hi ha =
      let i : inside_of (opener k start n) rest ≡ inside = rw e (take_at inside (c ∷ after) (2 + n - 2) (omega arith)) in
      let q : closer_of (opener k start n) rest ≡ c = rw e (get_or_at inside c after no_entry (2 + n - 2) (omega arith)) in
      let s : 2 + n - 1 ≡ length inside + 1 = omega arith in
      let a : after_of (opener k start n) rest ≡ after = rw (e, s) (drop-append-add inside (c ∷ after) 1) in
      let w : length rest ≡ length inside + suc (length after) = rw e (length-append inside (c ∷ after)) in
      let p : open_right t (opener k start n) rest ≡ true = rw (q, ck) (simp tested (((((l, omega arith), (refl, refl)), omega arith), omega arith), refl)) in
      let d : ltb dep limits.depth ≡ true = (leb_iff (suc dep) limits.depth).1 d in
      rw (o, check_in, p, d, i, hi, q, cr, a, ha)

-- a forest's records pass, wherever they stand
pub check_forest : (t : ℕ) (f : Forest) (fuel start dep : ℕ) → sound_forest f ≡ true → length (flat f) ≤ fuel
    → start + length (text_of (flat f)) ≤ t → dep + depth f ≤ limits.depth → check_in t fuel (entries_from start (flat f)) dep ≡ ok tt
unfolding check_in flat text_of entries_from sound_forest depth
check_forest t end zero start dep s b l d = refl
check_forest t end (suc fuel) start dep s b l d = refl
check_forest t (word w rest) zero start dep s b l d = absurd (omega arith)
check_forest t (word w rest) (suc fuel) start dep s b l d =
    let s' = simp tested at s in
    let len = nonempty w s'.0.0 in
    let a = length-append w (text_of (flat rest)) in
    let p : word_right t record { kind = kinds.chars; start = start; stop = start + length w; skip = 1; byte = get_or w 0 0 } ≡ true =
    simp tested (((omega arith, omega arith), refl), refl) in
    rw p (check_forest t rest fuel (start + length w) dep s'.1 (omega arith) (omega arith) (omega arith))
check_forest t (group k inside rest) zero start dep s b l d = absurd (omega arith)
check_forest t (group k inside rest) (suc fuel) start dep s b l d =
    let s' = simp tested at s in
    let closer : Rec = record { kind = kinds.closer; text = (delimiter k).closing ∷ []; skip = 1 } in
    let mid : ℕ = start + 1 + length (text_of (flat inside)) in
    let e = length-append (flat inside) (closer ∷ flat rest) in
    let a : length (text_of (flat inside ++ closer ∷ flat rest)) ≡ length (text_of (flat inside)) + suc (length (text_of (flat rest))) =
    rw (text_of_append (flat inside) (closer ∷ flat rest)) (length-append (text_of (flat inside)) ((delimiter k).closing ∷ text_of (flat rest))) in
    check_group t fuel k start (length (flat inside)) dep (entries_from (start + 1) (flat inside)) (entries_from (mid + 1) (flat rest))
    record { kind = kinds.closer; start = mid; stop = mid + 1; skip = 1; byte = (delimiter k).closing }
    (entries_from (start + 1) (flat inside ++ closer ∷ flat rest))
    (entries_append (start + 1) (flat inside) (closer ∷ flat rest)) (length_entries (start + 1) (flat inside)) (simp tested s'.0.0) (omega arith) refl
    (simp tested (((omega arith, omega arith), (refl, refl)), refl))
    (omega arith)
    (check_forest t inside fuel (start + 1) (suc dep) s'.0.1 (omega arith) (omega arith) (omega arith))
    (check_forest t rest fuel (mid + 1) dep s'.1 (omega arith) (omega arith) (omega arith))
