-- A literal's bits as a part of the image's bits, and bits written behind others.
use Rattle.std.specs.Prelude.{◌≡◌, ◌<◌, ◌≤◌, min, ◌+◌, ◌-◌, ◌^◌, ◌∷◌, ◌++◌}
use Rattle.std.proofs.Common.{ap, add-zero, suc-add}
use Rattle.std.proofs.Math.Nat.{add-suc}
use native.Mathlib.Omega.{arith}
use Rattle.std.proofs.lemmas.List.Edits.{sets}
use Rattle.definition.specs.Prelude.{ℕ, zero, suc, some, List, length, take, drop, pos}
use Rattle.definition.specs.Basics.{tab}
use Rattle.definition.specs.Image.{bytes_for}
use Rattle.definition.specs.Tree.{packed}
use Rattle.definition.specs.Ranges.{Usbr, val}
use Rattle.prepared.specs.Bits as Prepared
use Rattle.stages.specs.answer.literal_bits.Put.{bits_from}

-- the range of a literal of so many bits that stage 2 or stage 5 leaves
abbrev pub fixed_range : ℕ → Usbr
fixed_range n = record { start = val (pos 0); «end» = some (val (pos n)) }

module _ {A : Type 0} (f : ℕ → A) where
  pub take_tab : (k from n : ℕ) → take k (tab f from n) ≡ tab f from (min k n)
  unfolding tab
  take_tab zero from n = let e : min 0 n ≡ 0 = omega arith in rw e
  take_tab (suc k) from zero = let e : min (suc k) 0 ≡ 0 = omega arith in rw e
  take_tab (suc k) from (suc n) =
      let e : min (suc k) (suc n) ≡ suc (min k n) = omega arith in
      rw e (ap (λ (r : List A). f from ∷ r) (take_tab k (suc from) n))

  pub drop_tab : (k from n : ℕ) → drop k (tab f from n) ≡ tab f (from + k) (n - k)
  unfolding tab
  drop_tab zero from n = let e : n - 0 ≡ n = omega arith in rw (e, add-zero)
  drop_tab (suc k) from zero = let e : 0 - suc k ≡ 0 = omega arith in rw e
  drop_tab (suc k) from (suc n) =
      let e : suc n - suc k ≡ n - k = omega arith in
      rw (e, add-suc, ← suc-add) (drop_tab k (suc from) n)

  pub no_tab : (from at n m : ℕ) → n ≡ 0 → m ≡ 0 → tab f from n ≡ tab f at m
  unfolding tab
  no_tab from at n m p q = rw (p, q)

-- n bits of s behind the k bits that stand packed at a byte, where all of them have room
abbrev pub AppendIs : ℕ → ℕ → List ℕ → ℕ → ℕ → List ℕ → List ℕ → Type 0
AppendIs at k s from n before after =
    (base bits : List ℕ) → Prepared.Bits bits → length bits ≡ k → before ≡ sets base at (packed bits) → at + bytes_for (k + n) ≤ length base
    → bytes_for (k + n) < 2 ^ 32 → from + n < 2 ^ 64 → after ≡ sets base at (packed (bits ++ bits_from s from n))
