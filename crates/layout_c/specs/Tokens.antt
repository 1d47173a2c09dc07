-- The number that a caller in C gets for tokens says all of the outcome: below 2^32 it is the image's length, from 2^32 on a refusal,
-- whose number the header takes out again (include/layout.h); its places are 0 and 0.
use Rattle.std.specs.Prelude.{◌≡◌, ◌<◌, ◌≤◌, refl, ◌*◌, ◌^◌, ◌∷◌, ◌++◌}
use Rattle.std.proofs.Common.{ap, arith}
use Rattle.definition.specs.Prelude.{ℕ, List, [], length}
use Rattle.definition.specs.Basics.{Refusal, Result, ok, refused, ◌>>=◌, ascii}
use Rattle.definition.specs.Tree.{u32}
use Rattle.definition.specs.Tokens.{token_image}
use Rattle.definition.specs.Compute.{computed}
use Rattle.prepared.specs.Statement.{Bytes}
use Rattle.prepared.specs.back.Largest.{image_most}
use Rattle.token_facts.specs.Prepared.{tokens_prepared}
use Rattle.token_facts.specs.Outcomes.{tokens_room, tokens_refused}
use Rattle.layout_c.specs.outcome.Code.{code_of}
use Rattle.layout_c.specs.Split.{number_in, concatenation_in, component_in, split}

-- what tokens come to, as one number
abbrev pub tokens_code : List ℕ → List ℕ → ℕ → ℕ
tokens_code list text area = code_of (token_image list text area >>= λ image. ok (length image))

code_is : (list text : List ℕ) (area : ℕ) {r : Result (List ℕ)} → token_image list text area ≡ r
    → tokens_code list text area ≡ code_of (r >>= λ image. ok (length image))
code_is list text area e = ap (λ (x : Result (List ℕ)). code_of (x >>= λ image. ok (length image))) e

pub tokens_accepted_split : (list text : List ℕ) (area : ℕ) (image : List ℕ) → Bytes text → token_image list text area ≡ ok image
    → (tokens_code list text area ≡ length image) × (tokens_code list text area < 2 ^ 32)
tokens_accepted_split list text area image bytes e =
    let most = image_most image (tokens_prepared list text area image bytes e).0 in
    let code : tokens_code list text area ≡ length image = code_is list text area e in
    (code, omega (arith, most, code))

pub tokens_refused_split : (list text : List ℕ) (area : ℕ) (q : Refusal) → token_image list text area ≡ refused q
    → (2 ^ 32 ≤ tokens_code list text area) × (number_in (tokens_code list text area) ≡ q.number)
    × (concatenation_in (tokens_code list text area) ≡ 0) × (component_in (tokens_code list text area) ≡ 0)
tokens_refused_split list text area q e =
    let t = tokens_refused list text area q e in
    let code : tokens_code list text area ≡ code_of (refused q) = code_is list text area e in
    let (a, b, c) = split q.number q.concatenation q.component (omega arith) (omega arith) (tokens_code list text area) code in
    (omega (arith, code, t.least), a, rw t.concatenation at b, rw t.component at c)

-- the number fits 64 bits, as the area's length does
pub tokens_small : (list text : List ℕ) (area : ℕ) → area < 2 ^ 64 → tokens_code list text area < 2 ^ 64
tokens_small list text area h = go (token_image list text area) refl
  where
    go : (r : Result (List ℕ)) → token_image list text area ≡ r → tokens_code list text area < 2 ^ 64
    go (ok image) e =
        let room = tokens_room list text area image e in
        let code : tokens_code list text area ≡ length image = code_is list text area e in
        omega (arith, room, code)
    go (refused q) e =
        let t = tokens_refused list text area q e in
        let code : tokens_code list text area ≡ code_of (refused q) = code_is list text area e in
        omega (arith, code, t.most, t.concatenation, t.component)

-- `a` in an area of 65 bytes and in one of 64, and no token at all
pub codes :
    tokens_code (u32 0 ++ u32 0 ++ u32 1) (ascii "a") 65 ∷ tokens_code (u32 0 ++ u32 0 ++ u32 1) (ascii "a") 64 ∷ tokens_code [] [] 0 ∷ []
    ≡ 65 ∷ (53 * 2 ^ 32) ∷ (51 * 2 ^ 32) ∷ []
unfolding computed
codes = refl
