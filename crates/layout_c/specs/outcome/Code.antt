-- The outcome of a run as one number: the answer's length, or number · 2^32 + concatenation · 2^16 + component.
use Rattle.std.specs.Prelude.{◌+◌, ◌*◌, ◌^◌}
use Rattle.definition.specs.Prelude.{ℕ}
use Rattle.definition.specs.Basics.{Result, ok, refused}

abbrev pub code_of : Result ℕ → ℕ
code_of (ok n) = n
code_of (refused q) = q.number * 2 ^ 32 + q.concatenation * 2 ^ 16 + q.component
