-- Document 01's worked listing, and refused images: closed examples, by computation.
use Rattle.std.specs.Prelude.{◌≡◌, refl, set, ◌+◌, ◌∷◌, ◌++◌}
use Rattle.definition.specs.Prelude.{ℕ, zero, suc, List, [], map, take, true}
use Rattle.definition.specs.Basics.{ascii, ok, refused, refusal_of}
use Rattle.definition.specs.Image.{kinds}
use Rattle.definition.specs.Check.{check_image}
use Rattle.definition.specs.Tree.{Tree, Forest, end, word, group, image_of, fits}
use Rattle.definition.specs.Run.{under, run}
use Rattle.definition.specs.Listing.{output}
use Rattle.definition.specs.Compute.{computed}

-- "concatenation 0 of two 4-bit literals 5 and 10 (low first), concatenation 1 `rec[..8]`"
unfoldable pub worked : Tree
worked =
    (record { forest = word (ascii "5u4") end; bits = 1 ∷ 0 ∷ 1 ∷ 0 ∷ [] } ∷ record { forest = word (ascii "10u4") end; bits = 0 ∷ 1 ∷ 0 ∷ 1 ∷ [] } ∷ [])
    ∷ (record {
      forest = word (ascii "rec") (group kinds.bracket (word (ascii ".") (word (ascii ".") (word (ascii "8") end))) end);
      bits = [];
    } ∷ [])
    ∷ []

unfoldable pub worked_image : List ℕ
worked_image =
    -- C, N, R, T, B
    2 ∷ 0 ∷ 0 ∷ 0 ∷ 3 ∷ 0 ∷ 0 ∷ 0 ∷ 8 ∷ 0 ∷ 0 ∷ 0 ∷ 15 ∷ 0 ∷ 0 ∷ 0 ∷ 2 ∷ 0 ∷ 0 ∷ 0 ∷
    -- the five offsets
    40 ∷ 0 ∷ 0 ∷ 0 ∷ 48 ∷ 0 ∷ 0 ∷ 0 ∷ 72 ∷ 0 ∷ 0 ∷ 0 ∷ 168 ∷ 0 ∷ 0 ∷ 0 ∷ 183 ∷ 0 ∷ 0 ∷ 0 ∷
    -- concatenations
    2 ∷ 0 ∷ 0 ∷ 0 ∷ 1 ∷ 0 ∷ 0 ∷ 0 ∷
    -- components
    1 ∷ 0 ∷ 0 ∷ 0 ∷ 4 ∷ 0 ∷ 0 ∷ 0 ∷ 1 ∷ 0 ∷ 0 ∷ 0 ∷ 4 ∷ 0 ∷ 0 ∷ 0 ∷ 6 ∷ 0 ∷ 0 ∷ 0 ∷ 0 ∷ 0 ∷ 0 ∷ 0 ∷
    -- records
    0 ∷ 0 ∷ 0 ∷ 0 ∷ 0 ∷ 0 ∷ 0 ∷ 0 ∷ 1 ∷ 0 ∷ 0 ∷ 0 ∷
    0 ∷ 0 ∷ 0 ∷ 0 ∷ 3 ∷ 0 ∷ 0 ∷ 0 ∷ 1 ∷ 0 ∷ 0 ∷ 0 ∷
    0 ∷ 0 ∷ 0 ∷ 0 ∷ 7 ∷ 0 ∷ 0 ∷ 0 ∷ 1 ∷ 0 ∷ 0 ∷ 0 ∷
    3 ∷ 0 ∷ 0 ∷ 0 ∷ 10 ∷ 0 ∷ 0 ∷ 0 ∷ 5 ∷ 0 ∷ 0 ∷ 0 ∷
    0 ∷ 0 ∷ 0 ∷ 0 ∷ 11 ∷ 0 ∷ 0 ∷ 0 ∷ 1 ∷ 0 ∷ 0 ∷ 0 ∷
    0 ∷ 0 ∷ 0 ∷ 0 ∷ 12 ∷ 0 ∷ 0 ∷ 0 ∷ 1 ∷ 0 ∷ 0 ∷ 0 ∷
    0 ∷ 0 ∷ 0 ∷ 0 ∷ 13 ∷ 0 ∷ 0 ∷ 0 ∷ 1 ∷ 0 ∷ 0 ∷ 0 ∷
    5 ∷ 0 ∷ 0 ∷ 0 ∷ 14 ∷ 0 ∷ 0 ∷ 0 ∷ 1 ∷ 0 ∷ 0 ∷ 0 ∷
    -- text: 5u4 10u4 rec[..8]
    53 ∷ 117 ∷ 52 ∷ 49 ∷ 48 ∷ 117 ∷ 52 ∷ 114 ∷ 101 ∷ 99 ∷ 91 ∷ 46 ∷ 46 ∷ 56 ∷ 93 ∷
    -- literals
    5 ∷ 10 ∷ []

pub image_right : image_of worked ≡ worked_image
unfolding computed worked worked_image
image_right = refl

pub tree_fits : fits worked ≡ true
unfolding computed worked
tree_fits = refl

unfoldable pub worked_answer : List ℕ
worked_answer =
    -- head
    2 ∷ 0 ∷ 0 ∷ 0 ∷ 2 ∷ 0 ∷ 0 ∷ 0 ∷ 8 ∷ 0 ∷ 0 ∷ 0 ∷ 0 ∷ 0 ∷ 0 ∷ 0 ∷ 3 ∷ 0 ∷ 0 ∷ 0 ∷ 0 ∷ 0 ∷ 0 ∷ 0 ∷ 0 ∷ 0 ∷ 0 ∷ 0 ∷ 0 ∷ 0 ∷ 0 ∷ 0 ∷
    -- concatenation 0
    1 ∷ 0 ∷ 0 ∷ 0 ∷ 0 ∷ 0 ∷ 0 ∷ 0 ∷ 3 ∷ 0 ∷ 0 ∷ 0 ∷ 8 ∷ 0 ∷ 0 ∷ 0 ∷ 0 ∷ 0 ∷ 0 ∷ 0 ∷
    -- concatenation 1
    1 ∷ 0 ∷ 0 ∷ 0 ∷ 0 ∷ 0 ∷ 0 ∷ 0 ∷ 3 ∷ 0 ∷ 0 ∷ 0 ∷ 8 ∷ 0 ∷ 0 ∷ 0 ∷ 0 ∷ 0 ∷ 0 ∷ 0 ∷
    -- the merged literal: kind, text, width, offset, end present; start; end
    1 ∷ 0 ∷ 0 ∷ 0 ∷ 0 ∷ 0 ∷ 0 ∷ 0 ∷ 0 ∷ 0 ∷ 0 ∷ 0 ∷ 8 ∷ 0 ∷ 0 ∷ 0 ∷ 0 ∷ 0 ∷ 0 ∷ 0 ∷ 1 ∷ 0 ∷ 0 ∷ 0 ∷
    0 ∷ 0 ∷ 0 ∷ 0 ∷ 0 ∷ 0 ∷ 0 ∷ 0 ∷ 0 ∷ 0 ∷ 0 ∷ 0 ∷ 0 ∷ 0 ∷ 0 ∷ 0 ∷ 0 ∷ 0 ∷ 0 ∷ 0 ∷ 0 ∷ 0 ∷ 0 ∷ 0 ∷
    0 ∷ 0 ∷ 0 ∷ 0 ∷ 0 ∷ 0 ∷ 0 ∷ 0 ∷ 8 ∷ 0 ∷ 0 ∷ 0 ∷ 0 ∷ 0 ∷ 0 ∷ 0 ∷ 0 ∷ 0 ∷ 0 ∷ 0 ∷ 0 ∷ 0 ∷ 0 ∷ 0 ∷
    -- rec[..8]: kind, text, width, offset, end present; start; end
    2 ∷ 0 ∷ 0 ∷ 0 ∷ 7 ∷ 0 ∷ 0 ∷ 0 ∷ 3 ∷ 0 ∷ 0 ∷ 0 ∷ 0 ∷ 0 ∷ 0 ∷ 0 ∷ 0 ∷ 0 ∷ 0 ∷ 0 ∷ 1 ∷ 0 ∷ 0 ∷ 0 ∷
    0 ∷ 0 ∷ 0 ∷ 0 ∷ 0 ∷ 0 ∷ 0 ∷ 0 ∷ 0 ∷ 0 ∷ 0 ∷ 0 ∷ 0 ∷ 0 ∷ 0 ∷ 0 ∷ 0 ∷ 0 ∷ 0 ∷ 0 ∷ 0 ∷ 0 ∷ 0 ∷ 0 ∷
    0 ∷ 0 ∷ 0 ∷ 0 ∷ 0 ∷ 0 ∷ 0 ∷ 0 ∷ 8 ∷ 0 ∷ 0 ∷ 0 ∷ 0 ∷ 0 ∷ 0 ∷ 0 ∷ 0 ∷ 0 ∷ 0 ∷ 0 ∷ 0 ∷ 0 ∷ 0 ∷ 0 ∷
    -- literal bytes
    165 ∷ []

-- the area needed is 32 + 20·2 + 72·3 + 2
pub answered : run worked_image (under 0) 290 ≡ ok worked_answer
unfolding computed worked_image worked_answer
answered = refl

pub listed : output (0 ∷ worked_image) ≡ ascii "layout 2 2 8 none D Z -\nc 0 1 8 none D Z\nliteral +0 +8 a5\nc 1 1 8 none D Z\nvariable +0 +8 rec\n"
unfolding computed worked_image
listed = refl

-- groups nested n deep
unfoldable pub nested : ℕ → Forest
nested zero = word (ascii "a") end
nested (suc n) = group kinds.parenthesis (nested n) end

abbrev pub nested_image : ℕ → List ℕ
nested_image n = image_of ((record { forest = nested n; bits = [] } ∷ []) ∷ [])

-- two bytes of an image anew, a number's lowest
abbrev set2 : List ℕ → ℕ → ℕ → ℕ → List ℕ
set2 s at low high = set (set s at low) (at + 1) high

-- the worked image with one thing wrong, for every rule of the check, and the number that refuses it
abbrev pub wrong_images : List (List ℕ × ℕ)
wrong_images =
    -- a byte short of the header
    (take 39 worked_image, 2)
    -- C, N, R, T below and above their ranges, B above
    ∷ (set worked_image 0 0, 3) ∷ (set worked_image 0 17, 3)
    ∷ (set worked_image 4 0, 3) ∷ (set2 worked_image 4 1 1, 3)
    ∷ (set worked_image 8 0, 3) ∷ (set2 worked_image 8 1 8, 3)
    ∷ (set worked_image 12 0, 3) ∷ (set2 worked_image 12 1 64, 3)
    ∷ (set2 worked_image 16 1 32, 3)
    -- each offset one too high; a byte after the literals, and one missing
    ∷ (set worked_image 20 41, 4) ∷ (set worked_image 24 49, 4) ∷ (set worked_image 28 73, 4)
    ∷ (set worked_image 32 169, 4) ∷ (set worked_image 36 184, 4)
    ∷ (worked_image ++ (0 ∷ []), 4) ∷ (take 184 worked_image, 4)
    -- a concatenation of no components, a sum that is not N
    ∷ (set (set worked_image 40 3) 44 0, 5) ∷ (set worked_image 40 3, 5)
    -- a component of no records, a sum that is not R
    ∷ (set (set worked_image 48 0) 56 2, 5) ∷ (set worked_image 48 2, 5)
    -- a width above 4,096, widths that do not add up to B, a spare bit
    ∷ (set2 worked_image 52 1 16, 5) ∷ (set worked_image 52 12, 5) ∷ (set worked_image 183 16, 5)
    -- the first text start not 0, one that does not rise, one at T
    ∷ (set worked_image 76 1, 6) ∷ (set worked_image 88 0, 6) ∷ (set worked_image 160 15, 6)
    -- an unknown kind, a closer that closes nothing, a word's skip
    ∷ (set worked_image 72 6, 6) ∷ (set worked_image 72 5, 6) ∷ (set worked_image 80 2, 6)
    -- the bracket's skip too high, too low, and 1
    ∷ (set worked_image 116 6, 6) ∷ (set worked_image 116 4, 6) ∷ (set worked_image 116 1, 6)
    -- its closer's kind, its own byte, its closer's byte and skip
    ∷ (set worked_image 156 0, 6) ∷ (set worked_image 178 40, 6) ∷ (set worked_image 182 41, 6) ∷ (set worked_image 164 2, 6)
    -- 33 groups
    ∷ (nested_image 33, 7)
    ∷ []

pub refused_images :
    map (λ (e : List ℕ × ℕ). check_image e.0) wrong_images
    ≡ map (λ (e : List ℕ × ℕ). refused (refusal_of e.1 0 0)) wrong_images
unfolding computed worked_image nested
refused_images = refl

pub nested_accepted : check_image (nested_image 32) ≡ ok tt
unfolding computed nested
nested_accepted = refl

-- 1 and 8, in their places in the order: 1 before the image check, 8 after it
pub refused_runs :
    run worked_image (under 3) 290 ∷ run (take 39 worked_image) (under 3) 290 ∷ run worked_image (under 0) 289 ∷ run (take 39 worked_image) (under 0) 289 ∷ []
    ≡ refused (refusal_of 1 0 0) ∷ refused (refusal_of 1 0 0) ∷ refused (refusal_of 8 0 0) ∷ refused (refusal_of 2 0 0) ∷ []
unfolding computed worked_image
refused_runs = refl

-- "Empty input is number 2"
pub empty_input : output [] ≡ ascii "refused 2 0 0\n"
unfolding computed
empty_input = refl
