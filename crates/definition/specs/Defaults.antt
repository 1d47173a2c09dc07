-- Document 02, L1, by example: runs under a default, each with its listing and the starting value in force. A line is written most
-- significant first, a tree least significant first. The listings are the Rust's, of the line or, where the default is what 40 asks for,
-- of the line with the default before it, and then `-` for the starting value.
use Rattle.std.specs.Prelude.{◌≡◌, refl, ◌∷◌, ◌++◌}
use Rattle.definition.specs.Prelude.{ℕ, String, List, [], map}
use Rattle.definition.specs.Basics.{Result, ascii}
use Rattle.definition.specs.Image.{kinds}
use Rattle.definition.specs.Tree.{Tree, Node, Forest, end, word, group, image_of}
use Rattle.definition.specs.Readings.{tokens}
use Rattle.definition.specs.Listing.{listing}
use Rattle.definition.specs.Run.{Choices, with_default, run, in_force}
use Rattle.definition.specs.Compute.{computed}

-- a component of some tokens, and one with `[..n]` after them
abbrev written : List String → Node
written ss = record { forest = tokens ss; bits = [] }

unfoldable pub up_to : List String → String → Forest
up_to [] n = group kinds.bracket (tokens ("." ∷ "." ∷ n ∷ [])) end
up_to (s ∷ ss) n = word (ascii s) (up_to ss n)

abbrev ranged : List String → String → Node
ranged ss n = record { forest = up_to ss n; bits = [] }

-- a tree, a mode and a default; the listing, and the starting value in force
pub record Case : Type 0 where
  pub tree : Tree
  pub mode : ℕ
  pub default : String
  pub listed : List ℕ
  pub value : String

abbrev pub choices : Case → Choices
choices c = with_default c.mode (ascii c.default)

abbrev pub ran : Case → Result (List ℕ)
ran c = run (image_of c.tree) (choices c) 500

abbrev pub found : Case → List ℕ × List ℕ
found c = (listing (image_of c.tree) (ran c), in_force (image_of c.tree) (choices c) (ran c))

abbrev pub claimed : Case → List ℕ × List ℕ
claimed c = (c.listed, ascii c.value)

-- `PREFIX ..4, a[..4]; b[..n]`: a filler in the source; and the lines of its listing after the first
abbrev source : List String → String → Tree
source prefix n = (ranged ("a" ∷ []) "4" ∷ written (prefix ++ ("." ∷ "." ∷ "4" ∷ [])) ∷ []) ∷ (ranged ("b" ∷ []) n ∷ []) ∷ []

abbrev source_lines : List ℕ
source_lines = ascii "c 0 2 8 none D Z\nvariable +0 +4 a\nfiller +0 +4\nc 1 1 8 none D Z\nvariable +0 +8 b\n"

-- `PREFIX a[..8]`; and its listing without a prefix
abbrev plain : List String → Tree
plain prefix = (ranged (prefix ++ ("a" ∷ [])) "8" ∷ []) ∷ []

abbrev plain_lines : List ℕ
plain_lines = ascii "layout 1 1 8 none D Z -\nc 0 1 8 none D Z\nvariable +0 +8 a\n"

abbrev dots : Node
dots = written ("." ∷ "." ∷ [])

unfoldable pub table : List Case
table =
    -- 40 without a default
    record { tree = source [] "8"; mode = 1; default = ""; listed = ascii "refused 40 0 1\n"; value = "" }
    -- "40 is not given under a non-empty default"; "The answer area tells only the image's own prefix."
    ∷ record { tree = source [] "8"; mode = 1; default = "umax"; listed = ascii "layout 2 3 8 none D Z -\n" ++ source_lines; value = "umax" }
    -- `z:` and `:` before it: "the image's if the line has a prefix, even an empty one"
    ∷ record { tree = source ("z" ∷ ":" ∷ []) "8"; mode = 1; default = "umax"; listed = ascii "layout 2 3 8 none D Z =z\n" ++ source_lines; value = "z" }
    ∷ record { tree = source (":" ∷ []) "8"; mode = 1; default = "umax"; listed = ascii "layout 2 3 8 none D Z =\n" ++ source_lines; value = "" }
    -- under mode 0 too; "An empty default means none."
    ∷ record { tree = plain []; mode = 0; default = "umax"; listed = plain_lines; value = "umax" }
    ∷ record { tree = plain []; mode = 0; default = ""; listed = plain_lines; value = "" }
    -- `x::y: a[..8]`
    ∷ record {
      tree = plain ("x" ∷ ":" ∷ ":" ∷ "y" ∷ ":" ∷ []);
      mode = 1;
      default = "umax";
      listed = ascii "layout 1 1 8 none D Z =x::y\nc 0 1 8 none D Z\nvariable +0 +8 a\n";
      value = "x::y";
    }
    -- the test after 40 answers: `..; b`, `..`, `.., a; b, ..`, `..4, a[..4]; b[..9]`
    ∷ record { tree = (dots ∷ []) ∷ (written ("b" ∷ []) ∷ []) ∷ []; mode = 2; default = "z"; listed = ascii "refused 42 0 0\n"; value = "" }
    ∷ record { tree = (dots ∷ []) ∷ []; mode = 1; default = "z"; listed = ascii "refused 43 0 0\n"; value = "" }
    ∷ record {
      tree = (written ("a" ∷ []) ∷ dots ∷ []) ∷ (dots ∷ written ("b" ∷ []) ∷ []) ∷ [];
      mode = 1;
      default = "z";
      listed = ascii "refused 45 0 1\n";
      value = "";
    }
    ∷ record { tree = source [] "9"; mode = 1; default = "z"; listed = ascii "refused 41 0 1\n"; value = "" }
    -- every other refusal stays: `z:`, and a mode above 2
    ∷ record { tree = (written ("z" ∷ ":" ∷ []) ∷ []) ∷ []; mode = 1; default = "q"; listed = ascii "refused 10 0 0\n"; value = "" }
    ∷ record { tree = plain []; mode = 3; default = "q"; listed = ascii "refused 1 0 0\n"; value = "" }
    ∷ []

pub defaults : map found table ≡ map claimed table
unfolding computed tokens up_to table
defaults = refl
