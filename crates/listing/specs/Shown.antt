-- A listing in a lent buffer, as `listing::write_listing` leaves it.
use Rattle.std.specs.Prelude as Std
use Rattle.std.specs.Prelude.{◌≡◌}
use Rattle.definition.specs.Prelude.{List, ℕ, length}
use Rattle.listing.specs.Outcomes.{filled, written_as}

-- the buffer, before and after, has the listing L from its front on, and the answer says whether L fitted and how long it is
abbrev pub Shown : List ℕ → List ℕ → List ℕ → Std.Option ℕ → Type 0
Shown before L after w = (after ≡ filled before L) × (w ≡ written_as (length L) (length before))
