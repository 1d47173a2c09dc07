-- The length of the longest listing. That no run's listing is longer stands in proofs/.
use Rattle.std.specs.Prelude.{◌≡◌, refl, ◌+◌, ◌*◌}
use Rattle.definition.specs.Prelude.{ℕ}
use Rattle.definition.specs.Limits.{limits}

-- The words of 16 concatenations and 256 components; three bytes for each byte of text, which an answer has at most twice (a
-- bracket without dots is its component's start and its end); two for each byte of a literal.
abbrev pub longest_listing : ℕ
longest_listing = 25889 + 3 * (2 * limits.text) + 2 * limits.literal_bytes

-- the number itself
longest_is : longest_listing ≡ 140577
longest_is = refl
