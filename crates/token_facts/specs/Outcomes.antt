-- What tokens may come to: an image that the area has room for, or one of the refusals 50 to 53, with the places 0 and 0.
use Rattle.std.specs.Prelude.{◌≡◌, refl, ◌≤◌}
use Rattle.std.proofs.Common.{arith}
use Rattle.definition.specs.Prelude.{ℕ, Bool, true, false, List, length, leb}
use Rattle.definition.specs.Basics.{Refusal, Result, ok, refused, refusal_of, ◌>>=◌}
use Rattle.definition.specs.Refusals.{needs}
use Rattle.definition.specs.Tree.{image_of}
use Rattle.definition.specs.TokenStream.{stream_tree}
use Rattle.definition.specs.Tokens.{tokens_right, stream_of, none_empty, within_limits, token_image}
use Rattle.laws.specs.Tests.{leb_iff}
use Rattle.laws.specs.Results.{needs_then}

pub tokens_room : (list text : List ℕ) (area : ℕ) (image : List ℕ) → token_image list text area ≡ ok image → length image ≤ area
unfolding token_image
tokens_room list text area image e =
    let s = stream_of list text in
    let (_, e₁) = needs_then (tokens_right list text) _ _ e in
    let (_, e₂) = needs_then (none_empty s) _ _ e₁ in
    let (_, e₃) = needs_then (within_limits (stream_tree s)) _ _ e₂ in
    let (fits, e₄) = needs_then (leb (length (image_of (stream_tree s))) area) _ _ e₃ in
    go (image_of (stream_tree s)) fits e₄
  where
    go : (i : List ℕ) → leb (length i) area ≡ true → ok i ≡ ok image → length image ≤ area
    go i fits same = let is : i ≡ image = cc in rw (← is) ((leb_iff (length i) area).0 fits)

-- a number of document 02's, and no places
pub record TokenRefusal (q : Refusal) : Type 0 where
  pub least : 50 ≤ q.number
  pub most : q.number ≤ 53
  pub concatenation : q.concatenation ≡ 0
  pub component : q.component ≡ 0

-- a test that is refused, or what comes after it is
either : {A : Type 0} (t : Bool) (n : ℕ) (m : Result A) (q : Refusal) → 50 ≤ n → n ≤ 53 → (m ≡ refused q → TokenRefusal q)
    → (needs t n >>= λ _. m) ≡ refused q → TokenRefusal q
either true n m q least most later e = later e
either false n m q least most later e =
    let is : refusal_of n 0 0 ≡ q = cc in
    rw (← is) (record { least = least; most = most; concatenation = refl; component = refl })

pub tokens_refused : (list text : List ℕ) (area : ℕ) (q : Refusal) → token_image list text area ≡ refused q → TokenRefusal q
unfolding token_image
tokens_refused list text area q =
    either (tokens_right list text) 50 _ q (omega arith) (omega arith)
    (either (none_empty (stream_of list text)) 51 _ q (omega arith) (omega arith)
    (either (within_limits (stream_tree (stream_of list text))) 52 _ q (omega arith) (omega arith)
    (either (leb (length (image_of (stream_tree (stream_of list text)))) area) 53 _ q (omega arith) (omega arith) λ e.
    let z : ◌≡◌ {A = ℕ} 0 1 = cc in absurd (omega arith))))
