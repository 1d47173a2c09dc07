-- What a byte is worth as a digit, as a number.
use Rattle.std.specs.Prelude.{◌≡◌, ◌<◌}
use Rattle.definition.specs.Prelude.{ℕ, none, some, List, get_or}
use Rattle.definition.specs.Numbers.{digit_worth}

-- 255 where the byte is no digit
unfoldable pub worth_byte : ℕ → ℕ
worth_byte b = elim (digit_worth b) [ none ↦ 255 | some d ↦ d ]

-- a table of each byte's worth
abbrev pub Worths : List ℕ → Type 0
Worths table = (b : ℕ) → b < 256 → get_or table b 0 ≡ worth_byte b
