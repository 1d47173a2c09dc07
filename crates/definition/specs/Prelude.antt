-- The standard notions that the definitions are written in: native numbers, integers, tests, options, lists and texts.
pub use Rattle.std.specs.Prelude.{ℕ, zero, suc, ◌+◌, ◌*◌, ◌-◌, ◌/◌, ◌%◌, ◌^◌, max, Bool, true, false, ◌&&◌, not, ◌||◌, length, get_or, take, drop, leb, ltb, eqb, ℤ, pos, negsuc, neg_ℤ, nat_abs, ◌+ℤ◌, ◌-ℤ◌}
pub use mathlib.Core.List.{List, [], ◌∷◌, map, ◌++◌, reverse, drop_last}
pub use Prim.Native.Char.{code}
pub use Prim.Native.String.{String, [] as []ˢ, ◌∷◌ as ◌∷ˢ◌}
pub use Rattle.std.proofs.Math.Option.{Option, none, some}
pub use Rattle.std.specs.Int.Signed.{lt_z, le_z, non_neg}
