-- The premises of the theorems on rows are met: three rows, from bits 2, 5 and 0 of three lists, into two bytes between two others.
use Rattle.std.specs.Prelude.{◌≡◌, ℕ, zero, suc, ◌≤◌, replicate, refl, ◌∷◌}
use Rattle.std.proofs.Common.{arith}
use Rattle.std.proofs.lemmas.List.Edits.{sets}
use Rattle.definition.specs.Prelude.{List, [], length}
use Rattle.definition.specs.Basics.{joined, sum, tab}
use Rattle.definition.specs.Image.{padded}
use Rattle.definition.specs.Tree.{packed}
use Rattle.stages.specs.answer.literal_bits.Put.{with_bits}
use Rattle.stages.specs.answer.literal_bits.Places.{Small}
use Rattle.stages.specs.answer.literal_bits.Rows.{Row, all_bits, put_rows, rows_packed}

abbrev rows : List Row
rows =
    record { source = 181 ∷ []; from = 2; count = 3 }
    ∷ record { source = 200 ∷ 6 ∷ []; from = 5; count = 7 }
    ∷ record { source = 1 ∷ []; from = 0; count = 2 }
    ∷ []

abbrev list : List ℕ
list = 255 ∷ 170 ∷ 85 ∷ 254 ∷ []

-- 181 is 10110101: bits 2, 3, 4 are 1 0 1; bits 5 .. 12 of 200 and 6 are 0 1 1 0 1 1 0, and then 1 0
bits : all_bits rows ≡ 1 ∷ 0 ∷ 1 ∷ 0 ∷ 1 ∷ 1 ∷ 0 ∷ 1 ∷ 1 ∷ 0 ∷ 1 ∷ 0 ∷ []
unfolding joined tab
bits = refl

small : Small list
small zero = omega arith
small (suc zero) = omega arith
small (suc (suc zero)) = omega arith
small (suc (suc (suc zero))) = omega arith
small (suc (suc (suc (suc q)))) = omega arith

room : length (all_bits rows) ≤ 16
unfolding joined tab
room = omega arith

by_law : put_rows (sets list 1 (replicate 2 0)) 8 rows ≡ sets list 1 (padded 2 (packed (all_bits rows)))
by_law = rows_packed list 1 2 small (omega arith) rows room

computed : put_rows (sets list 1 (replicate 2 0)) 8 rows ≡ 255 ∷ 181 ∷ 5 ∷ 254 ∷ []
unfolding put_rows with_bits tab sum
computed = refl

-- bits 6 .. 11 of two bytes: their neighbours stay, and those past the end are not written
kept : with_bits (63 ∷ 0 ∷ []) 6 (255 ∷ []) 0 5 ≡ 255 ∷ 7 ∷ []
unfolding with_bits tab sum
kept = refl

ended : with_bits (63 ∷ []) 6 (255 ∷ []) 0 5 ≡ 255 ∷ []
unfolding with_bits tab sum
ended = refl
