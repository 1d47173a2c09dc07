-- The records of an image, their texts one after the other: the text table, and the record table.
use Rattle.std.specs.Prelude.{◌≡◌, ◌≤◌, ◌<◌, ◌+◌, ◌-◌, ◌++◌, if◌then◌else◌}
use Rattle.std.proofs.Math.Path.{refl}
use Rattle.std.proofs.Common.{sym, ap, take-append-drop, drop-drop, eq-eqb, ne_eqb}
use Rattle.std.proofs.Math.Numerals.{add-one}
use native.Mathlib.Omega.{arith}
use Rattle.std.proofs.Math.Seq.{drop-length}
use Rattle.definition.specs.Prelude.{ℕ, zero, suc, true, List, map, length, drop, eqb}
use Rattle.definition.specs.Basics.{all, joined, tab}
use Rattle.definition.specs.Image.{Entry}
use Rattle.definition.specs.Check.{text_right}
use Rattle.definition.specs.Tree.{text_of, u32, record_bytes}
use Rattle.laws.specs.Tests.{and_iff, tested}
use Rattle.prepared.specs.back.Cuts.{cut, length_cut}
use Rattle.prepared.specs.back.Groups.{rec_of}

cut_drop : {A : Type 0} (s : List A) (from to : ℕ) → from ≤ to → cut s from (to - from) ++ drop to s ≡ drop from s
cut_drop s from to h =
    let e : from + (to - from) ≡ to = omega arith in
    rw (← (ap (λ n. drop n s) e), ← drop-drop) (take-append-drop (to - from) (drop from s))

-- an image's record table, r being the number of records and t the text's length
module _ (kind start skip byte : ℕ → ℕ) (r t : ℕ) where
  -- where the text of record i begins, and that of the one before it ends
  abbrev pub seam : ℕ → ℕ
  seam i = if eqb i r then t else start i

  abbrev pub entry : ℕ → Entry
  entry i = record { kind = kind i; start = start i; stop = seam (i + 1); skip = skip i; byte = byte i }

  abbrev pub row : ℕ → List ℕ
  row i = u32 (kind i) ++ u32 (start i) ++ u32 (skip i)

  pub record Chained (text : List ℕ) (i n : ℕ) : Type 0 where
    pub bound : seam i ≤ t
    pub texts : text_of (map (rec_of text) (tab entry i n)) ≡ drop (seam i) text
    pub table : record_bytes (seam i) (map (rec_of text) (tab entry i n)) ≡ joined (tab row i n)

  pub chained : (text : List ℕ) → length text ≡ t → (n i : ℕ) → i + n ≡ r → all (text_right t) (tab entry i n) ≡ true → Chained text i n
  unfolding text_of record_bytes joined tab all
  chained text l zero i e h =
      let last : seam i ≡ t = rw (eq-eqb i r (omega arith)) in
      record { bound = rw last (omega arith); texts = rw (last, ← l) (sym (drop-length text)); table = refl }
  chained text l (suc n) i e h =
      go (rw add-one at (simp tested at h).0) (chained text l n (suc i) (omega arith) (simp and_iff at h).1)
    where
      go : (start i < t) × (start i < seam (suc i)) → Chained text (suc i) n → Chained text i (suc n)
      go (p, q) c =
          let first : seam i ≡ start i = rw (ne_eqb i r (λ z. omega arith)) in
          let len : length (cut text (start i) (seam (suc i) - start i)) ≡ seam (suc i) - start i =
          length_cut text (start i) (seam (suc i) - start i) (omega arith) in
          let next : start i + (seam (suc i) - start i) ≡ seam (suc i) = omega arith in
          record {
            bound = rw first (omega arith);
            texts = rw (add-one, first, c.texts) (cut_drop text (start i) (seam (suc i)) (omega arith));
            table = rw (add-one, first, len, next) (ap (λ l. row i ++ l) c.table);
          }
