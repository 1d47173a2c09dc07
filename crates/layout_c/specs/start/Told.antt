-- Where the starting value in force stands, as one number, and the bytes that the header finds by it (include/layout.h, layout_in_force).
use Rattle.std.specs.Prelude.{◌+◌, ◌*◌, ◌/◌, ◌%◌, ◌^◌, if◌then◌else◌}
use Rattle.definition.specs.Prelude.{ℕ, List, [], take, drop, eqb}
use Rattle.stages.specs.declared.in_force.InForce.{InForce}
use Rattle.stages.specs.declared.in_force.InForce.TheVariants.{Nothing, Image, Default}

abbrev pub number_at : InForce → ℕ
number_at Nothing = 0
number_at (Image at n) = at * 2 ^ 32 + n
number_at Default = 2 ^ 63

-- 0 names nothing, 2^63 the whole default, any other number a place in the image times 2^32, and a length
abbrev pub told_part : List ℕ → List ℕ → ℕ → List ℕ
told_part image default told =
    if eqb told 0 then [] else if eqb told (2 ^ 63) then default else take (told % 2 ^ 32) (drop (told / 2 ^ 32) image)
