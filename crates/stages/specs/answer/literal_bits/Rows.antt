-- Rows of bits, each from its place in its list, written one after another from the first bit of a region of zeros.
use Rattle.std.specs.Prelude.{◌≡◌, ℕ, ◌+◌, ◌*◌, ◌≤◌, replicate, ◌∷◌, ◌++◌}
use Rattle.std.proofs.Math.Path.{refl, ap}
use Rattle.std.proofs.Common.{sym, ◌∙◌, append_assoc, append-nil, add-zero}
use native.Mathlib.Omega.{arith}
use Rattle.std.proofs.Math.ListN.{length-append}
use Rattle.std.proofs.Math.Seq.{sets}
use Rattle.definition.specs.Prelude.{List, [], map, length}
use Rattle.definition.specs.Basics.{all, joined}
use Rattle.definition.specs.Image.{padded}
use Rattle.definition.specs.Tree.{packed}
use Rattle.laws.specs.Lists.{length_tab}
use Rattle.prepared.specs.Bits.{Bits}
use Rattle.stages.specs.answer.literal_bits.Put.{bit_of, bits_from, with_bits}
use Rattle.stages.specs.answer.literal_bits.Places.{Small}
use Rattle.stages.specs.answer.literal_bits.Packing.{bits_more, region_empty, packed_more}

pub record Row : Type 0 where
  pub source : List ℕ
  pub from : ℕ
  pub count : ℕ

abbrev pub row_bits : Row → List ℕ
row_bits r = bits_from r.source r.from r.count

abbrev pub all_bits : List Row → List ℕ
all_bits rs = joined (map row_bits rs)

unfoldable pub put_rows : List ℕ → ℕ → List Row → List ℕ
put_rows d at [] = d
put_rows d at (r ∷ rs) = put_rows (with_bits d at r.source r.from r.count) (at + r.count) rs

module _ (l : List ℕ) (o m : ℕ) (small : Small l) (fits : o + m ≤ length l) where
  rows_from : (rs : List Row) (bits : List ℕ) → Bits bits → length bits + length (all_bits rs) ≤ 8 * m
      → put_rows (sets l o (padded m (packed bits))) (8 * o + length bits) rs ≡ sets l o (padded m (packed (bits ++ all_bits rs)))
  unfolding put_rows joined
  rows_from [] bits b room = ap (λ (x : List ℕ). sets l o (padded m (packed x))) (sym (append-nil bits))
  rows_from (r ∷ rs) bits b room =
      let new = row_bits r in
      let n : length new ≡ r.count = length_tab (bit_of r.source) r.from r.count in
      let e : length (new ++ all_bits rs) ≡ length new + length (all_bits rs) = length-append new (all_bits rs) in
      let f : length (bits ++ new) ≡ length bits + length new = length-append bits new in
      let room₁ : length bits + r.count ≤ 8 * m = omega arith in
      let at : 8 * o + length bits + r.count ≡ 8 * o + length (bits ++ new) = omega arith in
      ap (λ (d : List ℕ). put_rows d (8 * o + length bits + r.count) rs)
      (packed_more l o m bits r.source r.from r.count small b fits room₁)
      ∙ ap (λ (k : ℕ). put_rows (sets l o (padded m (packed (bits ++ new)))) k rs) at
      ∙ rows_from rs (bits ++ new) (bits_more o m bits r.source r.from r.count b room₁) (omega arith)
      ∙ ap (λ (x : List ℕ). sets l o (padded m (packed x))) (append_assoc bits new (all_bits rs))

  pub rows_packed : (rs : List Row) → length (all_bits rs) ≤ 8 * m
      → put_rows (sets l o (replicate m 0)) (8 * o) rs ≡ sets l o (padded m (packed (all_bits rs)))
  unfolding all
  rows_packed rs room =
      ap (λ (x : List ℕ). put_rows (sets l o x) (8 * o) rs) (sym (region_empty m))
      ∙ ap (λ (k : ℕ). put_rows (sets l o (padded m (packed []))) k rs) (sym (add-zero (8 * o)))
      ∙ rows_from rs [] none (omega arith)
    where
      none : Bits []
      none = refl
