-- The characters that have a meaning of their own, by name. Their codes stand here only.
use Rattle.std.specs.Prelude.{◌≡◌, refl, ◌∷◌}
use Rattle.definition.specs.Prelude.{ℕ, []}
use Rattle.definition.specs.Basics.{ascii}

abbrev pub char :
    record {
      plus : ℕ;
      minus : ℕ;
      dot : ℕ;
      colon : ℕ;
      equals : ℕ;
      zero : ℕ;
      nine : ℕ;
      lower_a : ℕ;
      lower_f : ℕ;
      upper_a : ℕ;
      upper_f : ℕ;
      x : ℕ;
      o : ℕ;
      b : ℕ;
      space : ℕ;
      open_parenthesis : ℕ;
      close_parenthesis : ℕ;
      open_bracket : ℕ;
      close_bracket : ℕ;
      open_brace : ℕ;
      close_brace : ℕ;
      newline : ℕ;
      backslash : ℕ;
      comma : ℕ;
      semicolon : ℕ;
    }
char =
    record {
      plus = 43;
      minus = 45;
      dot = 46;
      colon = 58;
      equals = 61;
      zero = 48;
      nine = 57;
      lower_a = 97;
      lower_f = 102;
      upper_a = 65;
      upper_f = 70;
      x = 120;
      o = 111;
      b = 98;
      space = 32;
      open_parenthesis = 40;
      close_parenthesis = 41;
      open_bracket = 91;
      close_bracket = 93;
      open_brace = 123;
      close_brace = 125;
      newline = 10;
      backslash = 92;
      comma = 44;
      semicolon = 59;
    }

-- the codes are those of the characters
pub characters_right :
    char.plus ∷ char.minus ∷ char.dot ∷ char.colon ∷ char.equals ∷ char.zero ∷ char.nine
    ∷ char.lower_a ∷ char.lower_f ∷ char.upper_a ∷ char.upper_f ∷ char.x ∷ char.o ∷ char.b
    ∷ char.space ∷ char.open_parenthesis ∷ char.close_parenthesis ∷ char.open_bracket ∷ char.close_bracket
    ∷ char.open_brace ∷ char.close_brace ∷ char.newline ∷ char.backslash ∷ char.comma ∷ char.semicolon ∷ []
    ≡ ascii "+-.:=09afAFxob ()[]{}\n\\,;"
unfolding ascii
characters_right = refl
