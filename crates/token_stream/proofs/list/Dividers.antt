-- A comma or a semicolon that divides, and the depth after a token.
use Rattle.std.specs.Prelude.{◌&&◌, ◌||◌}
use mathlib.Core.Path.{◌≡◌, refl, ◌∙◌}
use Prim.Native.Nat.{◌≤◌, ◌<◌}
use lib.ListN.{drop_of_length-le}
use Rattle.definition.specs.Prelude.{ℕ, Bool, true, false, List, [], drop, eqb}
use Rattle.definition.specs.Characters.{char}
use Rattle.definition.specs.TokenStream.{is_punct}
use Rattle.definition.specs.Tokens.{Token, single, opener, closer, token_at, count, tokens, tokens_right}
use Rattle.token_facts.specs.Flat.{divides_at}
use Rattle.token_stream.specs.list.Kinds.{divides_by}
use Rattle.token_stream.specs.list.Tokens.{punct_is, divides_token, length_tokens}

abbrev pub divider : ℕ → Token → Bool
divider d (single a) = divides_at d a
divider d (opener k) = false
divider d closer = false

abbrev pub dividing : List ℕ → List ℕ → ℕ → ℕ → Bool
dividing list text k d = divides_by list text k d char.comma || divides_by list text k d char.semicolon

common : (x y z : Bool) → ((x && y) || (x && z)) ≡ (x && (y || z))
common true y z = refl
common false y z = refl

never : (x : Bool) → (x && false) ≡ false
never true = refl
never false = refl

divider_of : (d : ℕ) (t : Token) → ((eqb d 0 && punct_is char.comma t) || (eqb d 0 && punct_is char.semicolon t)) ≡ divider d t
divider_of d (single a) = common (eqb d 0) (is_punct char.comma a) (is_punct char.semicolon a)
divider_of d (opener k) = common (eqb d 0) false false ∙ never (eqb d 0)
divider_of d closer = common (eqb d 0) false false ∙ never (eqb d 0)

-- what the code's tests come to, the list not being refused with 50
pub divider_token : (list text : List ℕ) (d k : ℕ) → tokens_right list text ≡ true → k < count list
    → dividing list text k d ≡ divider d (token_at list text k)
divider_token list text d k r h =
    either_of (divides_token list text char.comma d k r h) (divides_token list text char.semicolon d k r h)
    ∙ divider_of d (token_at list text k)
  where
    either_of : {x y p q : Bool} → x ≡ p → y ≡ q → (x || y) ≡ (p || q)
    either_of f g = cc

pub tokens_end : (list text : List ℕ) (k : ℕ) → count list ≤ k → drop k (tokens list text) ≡ []
tokens_end list text k h = drop_of_length-le (tokens list text) {i = k} (rw length_tokens h)
