-- Writing at a place of a buffer: as much as fits is written, and the place after it is counted up to 2^64 - 1, the greatest usize.
use Rattle.std.specs.Prelude.{◌≡◌, refl, ◌≤◌, ◌<◌, min, set, ◌+◌, ◌-◌, ◌^◌, ◌∷◌, ◌++◌}
use Rattle.std.proofs.Common.{sym, ap, ◌∙◌, append-nil, le_refl, add_assoc, arith, length-append, take-append-drop, drop_of_length-le, length-take-le, take_all, le-leb, leb-true, leb-false, add-one, take-suc}
use Rattle.std.proofs.lemmas.List.Edits.{sets}
use Rattle.std.proofs.Math.Seq.{length-sets, set_out}
use Rattle.std.proofs.lemmas.Bool.{lt-leb}
use Rattle.laws.specs.Sets.{sets_append, sets_past, sets_front}
use Rattle.laws.specs.Tests.{by_test}
use Rattle.definition.specs.Prelude.{ℕ, true, false, List, [], length, get_or, take, drop, leb}

-- a place, or the greatest usize where it is beyond
abbrev pub capped : ℕ → ℕ
capped n = min n (2 ^ 64 - 1)

-- The buffer l with bs written from `at` on, as far as they fit, is m, and the place after them is r. (`sets` leaves out what does
-- not fit; a slice is shorter than 2^63, so a place that was cut is past its end.)
pub record Put (l : List ℕ) (at : ℕ) (bs m : List ℕ) (r : ℕ) : Type 0 where
  pub wrote : m ≡ sets l at bs
  pub place : r ≡ capped (at + length bs)
  pub room : length l < 2 ^ 63

-- ---- the place

pub capped_small : (n : ℕ) → n < 2 ^ 64 → capped n ≡ n
capped_small n h = omega arith

pub capped_large : (n : ℕ) → 2 ^ 64 ≤ n → capped n ≡ 2 ^ 64 - 1
capped_large n h = omega arith

by_size : {G : Type 0} (n : ℕ) → (n < 2 ^ 64 → G) → (2 ^ 64 ≤ n → G) → G
by_size n f g =
    by_test (leb n (2 ^ 64 - 1)) (λ t. f (omega (arith, leb-true n (2 ^ 64 - 1) t))) (λ t. g (omega (arith, leb-false n (2 ^ 64 - 1) t)))

pub capped_add : (a b : ℕ) → capped (capped a + b) ≡ capped (a + b)
capped_add a b = omega arith

-- it tells whether a place is within a buffer
pub capped_within : (n m : ℕ) → m < 2 ^ 63 → leb (capped n) m ≡ leb n m
capped_within n m h =
    by_test (leb n m) (λ t. rw t (le-leb (capped n) m (omega (arith, leb-true n m t)))) λ t.
    rw t (lt-leb (capped n) m (omega (arith, leb-false n m t)))

-- ---- the bytes

-- from the front, whether they fit or not
pub sets_whole : (l bs : List ℕ) → sets l 0 bs ≡ take (length l) bs ++ drop (length bs) l
sets_whole l bs =
    by_test (leb (length bs) (length l)) (λ t. fits (leb-true (length bs) (length l) t)) λ t. past (leb-false (length bs) (length l) t)
  where
    fits : length bs ≤ length l → sets l 0 bs ≡ take (length l) bs ++ drop (length bs) l
    fits h = sets_front l bs h ∙ ap (λ (x : List ℕ). x ++ drop (length bs) l) (sym (take_all (length l) bs h))

    past : length l < length bs → sets l 0 bs ≡ take (length l) bs ++ drop (length bs) l
    past h =
        let n : ℕ = length l in
        let full : length (take n bs) ≡ n = length-take-le n bs (omega arith) in
        let front : sets l 0 (take n bs) ≡ take n bs =
        sets_front l (take n bs) (omega arith) ∙ rw (full, drop_of_length-le l (le_refl n), append-nil) in
        ap (sets l 0) (sym (take-append-drop n bs))
        ∙ (sym (sets_append l 0 (take n bs) (drop n bs))
        ∙ (sets_past (sets l 0 (take n bs)) (0 + length (take n bs)) (drop n bs) (rw (length-sets, full) (omega arith))
        ∙ (front ∙ rw (drop_of_length-le l {i = length bs} (omega arith), append-nil))))

sets_capped : (l : List ℕ) (at : ℕ) (bs : List ℕ) → length l < 2 ^ 63 → sets l (capped at) bs ≡ sets l at bs
sets_capped l at bs h =
    by_test (leb at (2 ^ 64 - 1)) (λ t. let e : capped at ≡ at = omega (arith, leb-true at (2 ^ 64 - 1) t) in rw e) λ t.
    let q : 2 ^ 64 - 1 < at = omega (arith, leb-false at (2 ^ 64 - 1) t) in
    sets_past l (capped at) bs (omega arith) ∙ sym (sets_past l at bs (omega arith))

-- ---- writing

pub put_nothing : (l : List ℕ) (at : ℕ) → length l < 2 ^ 63 → at < 2 ^ 64 → Put l at [] l at
put_nothing l at h q = record { wrote = refl; place = omega arith; room = h }

-- a byte where it fits, and where it does not
pub put_one : (l : List ℕ) (at b : ℕ) → length l < 2 ^ 63 → at < length l → Put l at (b ∷ []) (set l at b) (at + 1)
put_one l at b h q = record { wrote = refl; place = omega arith; room = h }

pub put_past : (l : List ℕ) (at b r : ℕ) → length l < 2 ^ 63 → length l ≤ at → r ≡ capped (at + 1) → Put l at (b ∷ []) l r
put_past l at b r h q e = record { wrote = sym (set_out l at b q); place = e; room = h }

pub put_length : {l bs m : List ℕ} {at r : ℕ} → Put l at bs m r → length m ≡ length l
put_length {l} {bs} {m} {at} x = ap length x.wrote ∙ length-sets l at bs

-- one thing and then another
infixr 20 ◌⨾◌
pub ◌⨾◌ : {l m o a b : List ℕ} {at r q : ℕ} → Put l at a m r → Put m r b o q → Put l at (a ++ b) o q
◌⨾◌ {l} {m} {o} {a} {b} {at} {r} {q} x y =
    record {
      wrote = y.wrote ∙ rw (x.wrote, x.place, ← sets_append l at a b) (sets_capped (sets l at a) (at + length a) b (rw length-sets x.room));
      place = y.place ∙ rw (x.place, length-append, ← add_assoc) (capped_add (at + length a) (length b));
      room = x.room;
    }

-- the bytes of a list, one by one
pub put_next : {l m o : List ℕ} {at r q : ℕ} (s : List ℕ) (i : ℕ) → i < length s → Put l at (take i s) m r → Put m r (get_or s i 0 ∷ []) o q
    → Put l at (take (i + 1) s) o q
put_next s i h x y = rw (add-one, take-suc s i 0) (x ⨾ y)

-- all bytes of a list
pub put_all : {l m : List ℕ} {at r : ℕ} (s : List ℕ) (i : ℕ) → i ≤ length s → length s ≤ i → Put l at (take i s) m r → Put l at s m r
put_all s i h k x = rw (take_all i s k) at x

-- ---- from the front: what the buffer holds then, and whether all of it fitted

pub put_front : {l L m : List ℕ} {r : ℕ} → Put l 0 L m r → m ≡ take (length l) L ++ drop (length L) l
put_front {l} {L} x = x.wrote ∙ sets_whole l L

pub put_whole : {l L m : List ℕ} {r : ℕ} → Put l 0 L m r → r ≤ length m → (r ≡ length L) × (leb (length L) (length l) ≡ true)
put_whole {l} {L} {m} {r} x h =
    let e : r ≡ length L = omega (arith, x.place, x.room, put_length x) in
    (e, le-leb (length L) (length l) (omega (arith, put_length x)))

pub put_cut : {l L m : List ℕ} {r : ℕ} → Put l 0 L m r → length m < r → leb (length L) (length l) ≡ false
put_cut {l} {L} x h = lt-leb (length L) (length l) (omega (arith, x.place, put_length x))
