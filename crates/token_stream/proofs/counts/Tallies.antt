-- What one token weighs, by the code's tests: a divider, a group's, or a leaf.
use Rattle.std.specs.Prelude.{◌+◌, ◌&&◌, if◌then◌else◌}
use mathlib.Core.Path.{◌≡◌, refl, sym, ap, ◌∙◌}
use Prim.Native.Nat.{◌≤◌, ◌<◌}
use native.Mathlib.Omega.{arith}
use borrow.Author.Tests.{le-ltb}
use lib.Seq.{slice, take_all}
use Rattle.std.specs.Int.{from_bool}
use Rattle.definition.specs.Prelude.{ℕ, Bool, true, false, not, List, length, drop, ltb, eqb}
use Rattle.definition.specs.Characters.{char}
use Rattle.definition.specs.TokenStream.{Leaf, leaf_text, is_punct}
use Rattle.definition.specs.Tokens.{Token, single, opener, closer, kind_at, text_start, text_length, text_at, token_at, count, tokens, tokens_right}
use Rattle.laws.specs.Padded.{length_padded}
use Rattle.token_facts.specs.Flat.{joins, divides_at}
use Rattle.token_facts.specs.Dividing.{either_not}
use Rattle.token_stream.specs.list.Kinds.{divides_by, joined_by}
use Rattle.token_stream.specs.list.Tokens.{punct_is, goes_on, length_tokens, leaf_token, divides_token, joins_token}
use Rattle.token_stream.specs.counts.Counting.{Sums, token_tally}
use Rattle.token_stream.proofs.list.Dividers.{divider, dividing, divider_token}

abbrev sums : ℕ → ℕ → ℕ → ℕ → Sums
sums s v r b = record { semicolons = s; dividers = v; records = r; bytes = b }

abbrev one_if : Bool → ℕ
one_if b = if b then 1 else 0

pub one_is : (b : Bool) {x : ℕ} → x ≡ from_bool b → (x ≡ one_if b) × (x ≤ 1)
one_is true e = (e, omega arith)
one_is false e = (e, omega arith)

-- ---- by the token

divider_weighs : (d : ℕ) (t : Token) (ts : List Token) → divider d t ≡ true
    → sums (one_if (eqb d 0 && punct_is char.semicolon t)) 1 0 0 ≡ token_tally d t ts
divider_weighs d (single a) ts h = rw h
divider_weighs d (opener k) ts h = cc
divider_weighs d closer ts h = cc

leaf_weighs : (d : ℕ) (a : Leaf) (ts : List Token) → divides_at d a ≡ false
    → sums 0 0 (one_if (not (joins a ts))) (length (leaf_text a) + one_if (joins a ts)) ≡ token_tally d (single a) ts
leaf_weighs d a ts h =
    let s = (either_not (eqb d 0) (is_punct char.comma a) (is_punct char.semicolon a) h).1 in
    rw (h, s) (ap (λ (x : ℕ). sums 0 0 x (length (leaf_text a) + one_if (joins a ts))) (turned (joins a ts)))
  where
    turned : (x : Bool) → one_if (not x) ≡ (if x then 0 else 1)
    turned true = refl
    turned false = refl

-- ---- by the list

module _ (list text : List ℕ) (k d : ℕ) (r : tokens_right list text ≡ true) (h : k < count list) where
  abbrev rest : List Token
  rest = drop (k + 1) (tokens list text)

  pub divider_tally : (b : Bool) {x : ℕ} → dividing list text k d ≡ true → b ≡ divides_by list text k d char.semicolon → x ≡ one_if b
      → sums x 1 0 0 ≡ token_tally d (token_at list text k) rest
  divider_tally b t s e =
      ap (λ (y : ℕ). sums y 1 0 0) (e ∙ ap one_if (s ∙ divides_token list text char.semicolon d k r h))
      ∙ divider_weighs d (token_at list text k) rest (sym (divider_token list text d k r h) ∙ t)

  whole : slice (k + 1) (count list) (tokens list text) ≡ rest
  whole =
      let n = length_tokens list text in
      ap (λ (l : List Token). drop (k + 1) l) (take_all (count list) (tokens list text) (omega arith))

  text_long : kind_at list k < 3 → length (text_at list text k) ≡ text_length list k
  text_long g =
      let low : kind_at list k ≤ 2 = omega arith in
      length_padded (if ltb 2 (kind_at list k) then 0 else text_length list k) (drop (text_start list k) text)
      ∙ rw (le-ltb 2 (kind_at list k) low)

  pub leaf_tally : (more : Bool) {n x y : ℕ} → dividing list text k d ≡ false → kind_at list k < 3 → more ≡ joined_by list k (count list)
      → n ≡ text_length list k → x ≡ one_if (not more) → y ≡ one_if more → sums 0 0 x (n + y) ≡ token_tally d (token_at list text k) rest
  leaf_tally more {n} {x} {y} t g m e f i =
      let (a, is, says) = leaf_token list text k g in
      let undivided : divides_at d a ≡ false = ap (divider d) (sym is) ∙ sym (divider_token list text d k r h) ∙ t in
      let on : more ≡ joins a rest =
      m ∙ joins_token list text k (count list) h (omega arith) ∙ ap (goes_on (token_at list text k)) whole
      ∙ ap (λ (x : Token). goes_on x rest) is in
      let long : n ≡ length (leaf_text a) = e ∙ sym (text_long g) ∙ ap length (sym says) in
      weighed a undivided on long ∙ sym (ap (λ (x : Token). token_tally d x rest) is)
    where
      weighed : (a : Leaf) → divides_at d a ≡ false → more ≡ joins a rest → n ≡ length (leaf_text a)
          → sums 0 0 x (n + y) ≡ token_tally d (single a) rest
      weighed a u o l =
          rw (f, i, o, l) (leaf_weighs d a rest u)
