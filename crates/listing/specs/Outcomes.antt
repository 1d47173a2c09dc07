-- What an outcome and an answer of the listing mean.
use Rattle.std.specs.Prelude as Std
use Rattle.std.specs.Prelude.{Ok, Err, Some, None, ◌≡◌, ◌≤◌, ◌+◌, ◌-◌, ◌++◌, if◌then◌else◌}
use Rattle.std.proofs.Common.{take_all}
use Rattle.definition.specs.Prelude.{ℕ, List, length, take, drop, leb}
use Rattle.definition.specs.Basics.{Result, ok}
use Rattle.definition.specs.Listing.{listing}
use Rattle.errors.specs.Refused.{refused_as}
use Rattle.errors.specs.declared.Refusal.{Refusal}

-- the answer is the area's first bytes
abbrev pub result_as : List ℕ → Std.Result ℕ Refusal → Result (List ℕ)
result_as area (Ok n) = ok (take n area)
result_as area (Err r) = refused_as r

abbrev pub listing_of : List ℕ → List ℕ → Std.Result ℕ Refusal → List ℕ
listing_of image area o = listing image (result_as area o)

-- the buffer l with L from its front on, as far as it reaches
abbrev pub filled : List ℕ → List ℕ → List ℕ
filled l L = take (length l) L ++ drop (length L) l

-- where it fits, all of L and what stood behind it
pub filled_fits : (l L : List ℕ) → length L ≤ length l → filled l L ≡ L ++ drop (length L) l
filled_fits l L h = rw (take_all (length l) L h)

-- a listing of n bytes in a buffer of m: how long it is, if it fits
abbrev pub written_as : ℕ → ℕ → Std.Option ℕ
written_as n m = if leb n m then Some n else None

-- where `size` components from component k end, of `count`
abbrev pub stop_of : ℕ → ℕ → ℕ → ℕ
stop_of k size count = if leb size (count - k) then k + size else count
