-- The whole run (document 01, "How each operation refuses"), and the starting value in force (document 02, L1).
use Rattle.std.specs.Prelude.{◌||◌, if◌then◌else◌}
use Rattle.definition.specs.Prelude.{ℕ, Bool, true, false, not, Option, none, some, List, [], map, length, leb}
use Rattle.definition.specs.Basics.{Result, ok, refused, ◌>>=◌, is_empty, area_after}
use Rattle.definition.specs.Limits.{area_needed}
use Rattle.definition.specs.Refusals.{need, mode_above_2, short_area}
use Rattle.definition.specs.Image.{Unparsed, Placed, counts, tree_of}
use Rattle.definition.specs.Check.{check_image}
use Rattle.definition.specs.Text.{Part}
use Rattle.definition.specs.Component.{stage1, stage2}
use Rattle.definition.specs.Concatenation.{stage3, merged}
use Rattle.definition.specs.Overall.{stage4}
use Rattle.definition.specs.Answer.{Answer, answer_bytes, read_answer, is_set}

-- What a call is told beside its image and its area. "Modes: 0 no return type, 1 return type, 2 return type and static width." L1: "The
-- caller may lend a default text."
pub record Choices : Type 0 where
  pub mode : ℕ
  pub default : List ℕ

-- a call that is told its mode and lent a default
abbrev pub with_default : ℕ → List ℕ → Choices
with_default mode default = record { mode = mode; default = default }

-- a call that is told its mode alone. L1: "An empty default means none."
abbrev pub under : ℕ → Choices
under mode = with_default mode []

-- whether there is a starting value: that of the line, or else the default. L1: "40 is not given under a non-empty default"
abbrev pub has_start : Choices → Option (Placed Part) → Bool
has_start how init = elim init [ none ↦ false | some p ↦ true ] || not (is_empty how.default)

-- "then stages 1 to 5, each over the whole tree before the next"; "Stage 5 refuses nothing."
unfoldable pub stages : Choices → List (List (Placed Unparsed)) → Result Answer
stages how t = do
  t₁ ← stage1 t
  t₂ ← stage2 t₁
  cc ← stage3 0 t₂.cc
  o ← stage4 how.mode (has_start how t₂.init) cc
  ok (record { init = t₂.init; overall = o; cc = map merged cc })

-- "Whole run: 1 mode above 2; the image check; 8 area shorter than 32 + 20·C + 72·N + B; then stages 1 to 5": the answer's bytes, or
-- a refusal
unfoldable pub run : List ℕ → Choices → ℕ → Result (List ℕ)
run image how area = do
  _ ← need (leb how.mode 2) mode_above_2
  _ ← check_image image
  _ ← need (leb (area_needed (counts image).c (counts image).n (counts image).b) area) short_area
  a ← stages how (tree_of image)
  ok (answer_bytes a)

-- L1: "the starting value in force .. the image's if the line has a prefix, even an empty one, else the default"; "a refused run hands
-- back an empty part". "The answer area tells only the image's own prefix": so its flag and its text are read there.
abbrev pub in_force : List ℕ → Choices → Result (List ℕ) → List ℕ
in_force image how (ok bytes) = let r = read_answer image bytes in if is_set r.flags 4 then r.init else how.default
in_force image how (refused q) = []

-- what a run on a lent area comes to: the answer's length or a refusal, the area afterwards, and the starting value in force
abbrev pub ran_on : List ℕ → Choices → List ℕ → Result ℕ × List ℕ × List ℕ
ran_on image how area =
    let r = run image how (length area) in
    ((r >>= λ bytes. ok (length bytes)), area_after area r, in_force image how r)
