-- The whole listing, written from the buffer's front on: what the buffer holds then, and whether all of it fitted.
use Rattle.std.specs.Prelude.{◌≡◌, ◌≤◌, ◌<◌, ◌^◌, Some, None}
use Rattle.std.proofs.Common.{arith, ◌∙◌}
use Rattle.definition.specs.Prelude.{ℕ, List, length}
use Rattle.listing.specs.writer.Put.{capped, Put, put_front, put_whole, put_cut, put_length}
use Rattle.listing.specs.Outcomes.{filled, written_as}

module _ {l L m n : List ℕ} {r : ℕ} (x : Put l 0 L n (capped r)) (e : m ≡ n) where
  pub wrote_whole : r ≤ length n → r < 2 ^ 64 → (m ≡ filled l L) × (Some r ≡ written_as (length L) (length l))
  wrote_whole h q =
      let s : capped r ≡ r = omega arith in
      let (p, t) = put_whole x (omega arith) in
      (e ∙ put_front x, rw (t, ← p, s))

  pub wrote_cut : length n < r → (m ≡ filled l L) × (None ≡ written_as (length L) (length l))
  wrote_cut h = (e ∙ put_front x, rw (put_cut x (omega (arith, x.room, put_length x))))
