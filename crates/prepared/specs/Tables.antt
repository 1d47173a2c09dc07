-- A table of equal rows, one after the other: its length, its bytes, and what is read row by row.
use Rattle.std.specs.Prelude.{◌≡◌, ◌∷◌}
use Rattle.std.proofs.Math.Path.{refl}
use Prim.Native.Nat.{ℕ, suc, ◌+◌, ◌*◌}
use native.Mathlib.Omega.{arith}
use Rattle.definition.specs.Prelude.{Bool, true, List, [], map, length, ltb}
use Rattle.definition.specs.Basics.{all, joined, tab}
use Rattle.prepared.specs.Statement.{Bytes}
pub use Rattle.laws.specs.Rows.{length_rows}
use Rattle.laws.specs.Tests.{and_iff}
use Rattle.laws.specs.Lists.{all_joined, all_map, all_of}
use Rattle.prepared.specs.Bytes.{Holds, holds_left, holds_right}

-- rows of w bytes, row a being `row a`
module _ {A : Type 0} (w : ℕ) (row : A → List ℕ) (sized : (a : A) → length (row a) ≡ w) where
  pub rows_read : {B : Type 0} (good : A → Bool) (s : List ℕ) (at : ℕ) (read : ℕ → B) (f : A → B)
      → ((i : ℕ) (a : A) → good a ≡ true → Holds s i (row a) → read i ≡ f a) → (from : ℕ) (l : List A) → all good l ≡ true
      → Holds s (at + w * from) (joined (map row l)) → tab (λ k. read (at + w * k)) from (length l) ≡ map f l
  unfolding joined all tab
  rows_read good s at read f h from [] g p = refl
  rows_read good s at read f h from (a ∷ l) g p =
      let (g₁, g₂) = (and_iff (good a) (all good l)).0 g in
      let size = sized a in
      let next : at + w * from + length (row a) ≡ at + w * suc from = omega arith in
      let first = h (at + w * from) a g₁ (holds_left s (at + w * from) (row a) (joined (map row l)) p) in
      let rest = rows_read good s at read f h (suc from) l g₂ (rw next at (holds_right s (at + w * from) (row a) (joined (map row l)) p)) in
      rw (first, rest)

-- rows of bytes
pub rows_bytes : {A : Type 0} (row : A → List ℕ) (good : A → Bool) (l : List A) → ((a : A) → good a ≡ true → Bytes (row a)) → all good l ≡ true
    → Bytes (joined (map row l))
rows_bytes row good l h g =
    rw (all_joined (λ b. ltb b 256) (map row l), all_map (all (λ b. ltb b 256)) row l) (all_of good (λ a. all (λ b. ltb b 256) (row a)) l h g)
