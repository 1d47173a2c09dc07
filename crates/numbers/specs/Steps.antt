-- What the private functions say, on the way to the values.
use Rattle.std.specs.Prelude.{◌≡◌, ◌⊎◌, ◌+◌, ◌&&◌, if◌then◌else◌}
use Rattle.std.specs.Int.Signed.{non_neg}
use Rattle.definition.specs.Prelude.{ℕ, Bool, not, ℤ}
use Rattle.definition.specs.Numbers.{half128}

-- t is s cut to 128 bits, for an s below 2^129
abbrev pub Wraps : ℕ → ℕ → Type 0
Wraps t s = (t ≡ s) ⊎ (t + (half128 + half128) ≡ s)

abbrev pub negative : ℤ → Bool
negative z = not (non_neg z)

-- the signs (true: negative) of two numbers, and of their sum cut to 128 bits, that tell an overflow
abbrev pub overflow : Bool → Bool → Bool → Bool
overflow a b sum = if a then b && not sum else not b && sum
