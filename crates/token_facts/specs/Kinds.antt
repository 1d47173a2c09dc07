-- One token of a list: what 50 asks of it is that it is sound and that its text lies within the lent text.
use Rattle.std.specs.Prelude.{◌≡◌, refl, ◌≤◌, ◌+◌, ◌-◌, ◌&&◌, ◌||◌, if◌then◌else◌}
use Rattle.std.proofs.Common.{arith, lt-ltb, le-ltb, ltb-true, le-leb}
use Rattle.definition.specs.Prelude.{ℕ, Bool, true, false, not, List, length, drop, leb, ltb, eqb}
use Rattle.definition.specs.Image.{opens}
use Rattle.definition.specs.Tokens.{Token, single, opener, closer, kind_at, text_start, text_length, text_at, token_of, token_at, token_right}
use Rattle.laws.specs.Tests.{by_test, eqb_iff, eqb_apart, leb_iff, and_iff, tested}
use Rattle.laws.specs.Padded.{length_padded}
use Rattle.token_facts.specs.Flat.{sound_leaf}

-- a stream is sound when its tokens are
abbrev pub sound_token : Token → Bool
sound_token (single a) = sound_leaf a
sound_token (opener k) = opens k
sound_token closer = true

-- the kinds, one by one
data Kind : ℕ → Type 0 where
  an_ident : Kind 0
  a_punct : Kind 1
  a_literal : Kind 2
  a_closer : Kind 7
  an_opener : {k : ℕ} → eqb k 0 ≡ false → eqb k 1 ≡ false → eqb k 2 ≡ false → eqb k 7 ≡ false → ltb 2 k ≡ true → Kind k

kind_of : (k : ℕ) → Kind k
kind_of k =
    by_test (eqb k 0) (λ t. rw ((eqb_iff k 0).0 t) an_ident) λ f₀.
    by_test (eqb k 1) (λ t. rw ((eqb_iff k 1).0 t) a_punct) λ f₁.
    by_test (eqb k 2) (λ t. rw ((eqb_iff k 2).0 t) a_literal) λ f₂.
    by_test (eqb k 7) (λ t. rw ((eqb_iff k 7).0 t) a_closer) λ f₇.
    let n₀ = eqb_apart k 0 f₀ in
    let n₁ = eqb_apart k 1 f₁ in
    let n₂ = eqb_apart k 2 f₂ in
    an_opener f₀ f₁ f₂ f₇ (lt-ltb 2 k (omega arith))

-- 50 of a token, its numbers being these
abbrev right : ℕ → ℕ → ℕ → ℕ → Bool
right kind start n len = leb kind 7 && (ltb 2 kind || (leb 1 n && leb (start + n) len && (not (eqb kind 1) || eqb n 1)))

abbrev text_size : ℕ → ℕ → ℕ
text_size kind n = if ltb 2 kind then 0 else n

right_sound : {kind : ℕ} (start n len : ℕ) (s : List ℕ) → Kind kind → length s ≡ text_size kind n → right kind start n len ≡ true
    → sound_token (token_of kind s) ≡ true
right_sound start n len s an_ident e h = let h' = simp tested at h in rw e ((leb_iff 1 n).1 h'.1.0.0)
right_sound start n len s a_punct e h = let h' = simp tested at h in rw e ((eqb_iff n 1).1 h'.1.1)
right_sound start n len s a_literal e h = let h' = simp tested at h in rw e ((leb_iff 1 n).1 h'.1.0.0)
right_sound start n len s a_closer e h = refl
right_sound {kind} start n len s (an_opener f₀ f₁ f₂ f₇ l) e h =
    let n₇ = eqb_apart kind 7 f₇ in
    let least = ltb-true 2 kind l in
    let most = (leb_iff kind 7).0 ((and_iff (leb kind 7) _).0 h).0 in
    rw (f₀, f₁, f₂, f₇) (simp tested (omega arith, omega arith))

sound_right : {kind : ℕ} (start n len : ℕ) (s : List ℕ) → Kind kind → length s ≡ text_size kind n → (kind ≤ 2 → start + n ≤ len)
    → sound_token (token_of kind s) ≡ true → right kind start n len ≡ true
sound_right start n len s an_ident e i h = simp tested (omega arith, (((leb_iff 1 n).0 (rw e at h), i (omega arith)), refl))
sound_right start n len s a_punct e i h =
    let one = (eqb_iff n 1).0 (rw e at h) in
    simp tested (omega arith, ((omega arith, i (omega arith)), one))
sound_right start n len s a_literal e i h = simp tested (omega arith, (((leb_iff 1 n).0 (rw e at h), i (omega arith)), refl))
sound_right start n len s a_closer e i h = refl
sound_right {kind} start n len s (an_opener f₀ f₁ f₂ f₇ l) e i h =
    let h' = simp tested at (rw (f₀, f₁, f₂, f₇) at h) in
    let most : kind ≤ 7 = let m : kind - 2 ≤ 4 = h'.1 in omega arith in
    rw (le-leb kind 7 most, l)

right_inside : (start n len kind : ℕ) → kind ≤ 2 → right kind start n len ≡ true → start + n ≤ len
right_inside start n len kind low h =
    let h' = ((and_iff (leb kind 7) _).0 h).1 in
    (simp tested at (rw (le-ltb 2 kind low) at h')).0.1

-- ---- of a list

module _ (list text : List ℕ) (k : ℕ) where
  text_size_lem : length (text_at list text k) ≡ text_size (kind_at list k) (text_length list k)
  text_size_lem = length_padded (text_size (kind_at list k) (text_length list k)) (drop (text_start list k) text)

  pub token_sound : token_right list text k ≡ true → sound_token (token_at list text k) ≡ true
  token_sound h =
      right_sound (text_start list k) (text_length list k) (length text) (text_at list text k) (kind_of (kind_at list k)) text_size_lem h

  pub token_right_lem : (kind_at list k ≤ 2 → text_start list k + text_length list k ≤ length text) → sound_token (token_at list text k) ≡ true
      → token_right list text k ≡ true
  token_right_lem i h =
      sound_right (text_start list k) (text_length list k) (length text) (text_at list text k) (kind_of (kind_at list k)) text_size_lem i h

  pub token_inside : token_right list text k ≡ true → kind_at list k ≤ 2 → text_start list k + text_length list k ≤ length text
  token_inside h low = right_inside (text_start list k) (text_length list k) (length text) (kind_at list k) low h
