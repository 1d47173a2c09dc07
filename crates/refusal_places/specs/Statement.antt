-- What a refusal of the whole run says: a number of document 01's table, and places within the limits of an image.
use Rattle.std.specs.Prelude.{◌≡◌, ◌≤◌, ◌<◌}
use Rattle.definition.specs.Prelude.{ℕ, List}
use Rattle.definition.specs.Basics.{Refusal, refused}
use Rattle.definition.specs.Limits.{limits}
use Rattle.definition.specs.Run.{Choices, run}

-- "a refusal is a number and two places (concatenation, component; 0 where none)"
abbrev pub RefusalPlaces : Type 0
RefusalPlaces =
    (image : List ℕ) (how : Choices) (area : ℕ) (q : Refusal) → run image how area ≡ refused q
    → (q.number ≤ 45) × (1 ≤ q.number) × (q.concatenation < limits.concatenations) × (q.component < limits.components)
