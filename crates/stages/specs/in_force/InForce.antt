-- The starting value in force in code: where an answer's head says that it stands, and the bytes that stand there.
use Rattle.std.specs.Prelude.{◌≤◌, ◌+◌, if◌then◌else◌}
use Rattle.definition.specs.Prelude.{ℕ, List, [], length, take, drop, leb}
use Rattle.definition.specs.Basics.{Result, ok, refused}
use Rattle.definition.specs.Limits.{max_image}
use Rattle.definition.specs.Image.{u32_at, tables}
use Rattle.definition.specs.Answer.{is_set}
use Rattle.stages.specs.declared.in_force.InForce.{InForce}
use Rattle.stages.specs.declared.in_force.InForce.TheVariants.{Nothing, Image, Default}

-- the bytes from a place on; none where they do not all lie in the image
abbrev pub part_at : List ℕ → ℕ → ℕ → List ℕ
part_at image at n = if leb (at + n) (length image) then take n (drop at image) else []

-- the part of an image or of a default that is named
abbrev pub part_in : List ℕ → List ℕ → InForce → List ℕ
part_in image default Nothing = []
part_in image default (Image at n) = part_at image at n
part_in image default Default = default

-- what is named of an image lies in it, and so no further than an image is long
abbrev pub Lies : List ℕ → InForce → Type 0
Lies image Nothing = Unit
Lies image (Image at n) = (at + n ≤ length image) × (at + n ≤ max_image)
Lies image Default = Unit

-- where an answer's head says that it stands: flag 4, and the start and the length of a text
abbrev pub told_in : List ℕ → List ℕ → InForce
told_in image answer = if is_set (u32_at answer 16) 4 then Image ((tables image).text + u32_at answer 24) (u32_at answer 28) else Default

abbrev pub told_by : List ℕ → List ℕ → Result ℕ → InForce
told_by image answer (ok n) = told_in image answer
told_by image answer (refused q) = Nothing

-- where it stands after a run: in the image if the line has a prefix, else it is the default; nothing after a refusal
abbrev pub place_in : List ℕ → Result (List ℕ) → InForce
place_in image (ok bytes) = told_in image bytes
place_in image (refused q) = Nothing
