-- A run of bytes written into a list: what is past the end, and the list after it, byte by byte.
use Rattle.std.specs.Prelude.{◌≡◌, ℕ, zero, suc, ◌+◌, ◌-◌, ◌<◌, ◌≤◌, min, ◌⊎◌, replicate, slice_set, refl, ◌∷◌}
use Rattle.std.proofs.Common.{sym, ap, ◌∙◌, ⊎_elim, add-zero, add-suc, suc-add, arith, length-set, get_or-set_same, get_or-set_other, get_or-drop, ext_get_or, leb-true, leb-false, ltb-true, ltb-false}
use Rattle.std.proofs.lemmas.List.{length-replicate, replicate-append-replicate}
use Rattle.std.proofs.lemmas.List.Edits.{sets}
use Rattle.std.proofs.Math.Seq.{length-sets}
use Rattle.definition.specs.Prelude.{List, [], length, get_or, drop, leb, ltb}
use Rattle.definition.specs.Image.{padded, bytes_at}
use Rattle.laws.specs.Padded.{length_padded, get_or_padded}
use Rattle.laws.specs.Sets.{sets_append, sets_past}
use Rattle.laws.specs.Tests.{by_test}

module _ {A : Type 0} where
  -- one more of the same
  pub sets_more : (l : List A) (i n : ℕ) (a : A) → slice_set (sets l i (replicate n a)) (i + n) a ≡ sets l i (replicate (n + 1) a)
  sets_more l i n a =
      ap (λ (k : ℕ). slice_set (sets l i (replicate n a)) (i + k) a) (sym (length-replicate n a))
      ∙ sets_append l i (replicate n a) (replicate 1 a)
      ∙ ap (sets l i) (replicate-append-replicate n 1 a)

  -- what is past the end is not written
  pub sets_cut : (l : List A) (i n : ℕ) (a : A) → sets l i (replicate (min n (length l - i)) a) ≡ sets l i (replicate n a)
  sets_cut l i n a =
      let m : ℕ = min n (length l - i) in
      by_test (leb n (length l - i))
      (λ t. let h = leb-true n (length l - i) t in
      let e : m ≡ n = omega arith in ap (λ (k : ℕ). sets l i (replicate k a)) e)
      (λ t. let h = leb-false n (length l - i) t in
      let e : m + (n - m) ≡ n = omega arith in
      let k : length l ≤ i + m = omega arith in
      sym (sets_past (sets l i (replicate m a)) (i + length (replicate m a)) (replicate (n - m) a)
      (rw (length-sets l i (replicate m a), length-replicate m a) k))
      ∙ sets_append l i (replicate m a) (replicate (n - m) a)
      ∙ ap (sets l i) (replicate-append-replicate m (n - m) a ∙ ap (λ (k : ℕ). replicate k a) e))

  -- ---- byte by byte

  pub get_or_sets_other : (l : List A) (i : ℕ) (vs : List A) (q : ℕ) (d : A) → (q < i) ⊎ (i + length vs ≤ q) → get_or (sets l i vs) q d ≡ get_or l q d
  get_or_sets_other l i [] q d h = refl
  get_or_sets_other l i (a ∷ vs) q d h =
      get_or_sets_other (slice_set l i a) (suc i) vs q d (⊎_elim (λ b. ◌⊎◌.inl (omega arith)) (λ b. ◌⊎◌.inr (omega arith)) h)
      ∙ get_or-set_other l i q a d (λ e. ⊎_elim (λ b. omega arith) (λ b. omega arith) h)

  pub get_or_sets_in : (l : List A) (i : ℕ) (vs : List A) (k : ℕ) (d : A) → i + length vs ≤ length l → k < length vs → get_or (sets l i vs) (i + k) d ≡ get_or vs k d
  get_or_sets_in l i [] k d h b = absurd (omega arith)
  get_or_sets_in l i (a ∷ vs) zero d h b =
      ap (λ (q : ℕ). get_or (sets (slice_set l i a) (suc i) vs) q d) (add-zero i)
      ∙ get_or_sets_other (slice_set l i a) (suc i) vs i d (◌⊎◌.inl (omega arith))
      ∙ get_or-set_same l i a d (omega arith)
  get_or_sets_in l i (a ∷ vs) (suc k) d h b =
      ap (λ (q : ℕ). get_or (sets (slice_set l i a) (suc i) vs) q d) (add-suc i k ∙ sym (suc-add i k))
      ∙ get_or_sets_in (slice_set l i a) (suc i) vs k d (rw length-set (omega arith)) (omega arith)

-- ---- the bytes of a region: written back, and after a run as long

pub bytes_at_sets : (l : List ℕ) (i : ℕ) (vs : List ℕ) → i + length vs ≤ length l → bytes_at (sets l i vs) i (length vs) ≡ vs
bytes_at_sets l i vs h =
    let r = drop i (sets l i vs) in
    ext_get_or 0 (padded (length vs) r) vs (length_padded (length vs) r) λ k b.
    let c : k < length vs = rw (length_padded (length vs) r) at b in
    get_or_padded (length vs) r k c ∙ get_or-drop i (sets l i vs) k 0 ∙ get_or_sets_in l i vs k 0 h c

pub sets_same : (l : List ℕ) (i n : ℕ) → i + n ≤ length l → sets l i (bytes_at l i n) ≡ l
sets_same l i n h =
    let e : length (bytes_at l i n) ≡ n = length_padded n (drop i l) in
    ext_get_or 0 (sets l i (bytes_at l i n)) l (length-sets l i (bytes_at l i n)) λ q b.
    by_test (ltb q i)
    (λ t. let c = ltb-true q i t in get_or_sets_other l i (bytes_at l i n) q 0 (◌⊎◌.inl c))
    (λ t. let c = ltb-false q i t in
    by_test (ltb q (i + n))
    (λ u. let g = ltb-true q (i + n) u in
    let k : ℕ = q - i in
    let at : i + k ≡ q = omega arith in
    ap (λ (x : ℕ). get_or (sets l i (bytes_at l i n)) x 0) (sym at)
    ∙ get_or_sets_in l i (bytes_at l i n) k 0 (omega arith) (omega arith)
    ∙ get_or_padded n (drop i l) k (omega arith)
    ∙ get_or-drop i l k 0
    ∙ ap (λ (x : ℕ). get_or l x 0) at)
    (λ u. let g = ltb-false q (i + n) u in get_or_sets_other l i (bytes_at l i n) q 0 (◌⊎◌.inr (omega arith))))
