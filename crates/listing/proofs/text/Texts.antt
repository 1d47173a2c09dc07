-- Text and hex, byte by byte.
use Rattle.std.proofs.lemmas.List.{map-append, get_or-drop}
use Rattle.std.specs.Prelude.{◌+◌, ◌-◌, ◌++◌}
use mathlib.Core.Path.{◌≡◌, refl, sym, ap, ◌∙◌}
use mathlib.Core.List.{append-nil, reverse-append}
use Prim.Native.Nat.{◌<◌}
use native.Mathlib.Omega.{arith}
use Rattle.laws.specs.Lists.{joined_append}
use Rattle.laws.specs.Padded.{bytes_next}
use Rattle.definition.specs.Prelude.{ℕ, List, [], map, reverse, get_or, drop}
use Rattle.definition.specs.Basics.{joined}
use Rattle.definition.specs.Image.{padded, bytes_at}
use Rattle.definition.specs.Listing.{hex, shown_byte, shown}

-- a byte of those from a place on
pub byte_read : (s : List ℕ) (from i : ℕ) {bytes : List ℕ} {b : ℕ} → bytes ≡ drop from s → b ≡ get_or bytes i 0 → b ≡ get_or s (from + i) 0
byte_read s from i e q = q ∙ ap (λ (l : List ℕ). get_or l i 0) e ∙ get_or-drop from s i 0

pub shown_more : (s : List ℕ) (from n : ℕ) → shown (bytes_at s from n) ++ shown_byte (get_or s (from + n) 0) ≡ shown (bytes_at s from (n + 1))
unfolding joined
shown_more s from n = sym (rw (bytes_next s from n, map-append, joined_append, append-nil))

abbrev pub hexes : List ℕ → ℕ → ℕ → List ℕ
hexes s from n = joined (map hex (reverse (bytes_at s from n)))

pub hexes_next : (s : List ℕ) (from n : ℕ) → 0 < n → hexes s from n ≡ hex (get_or s (from + (n - 1)) 0) ++ hexes s from (n - 1)
unfolding joined
hexes_next s from n h =
    let f : n ≡ n - 1 + 1 = omega arith in
    ap (hexes s from) f ∙ rw (bytes_next s from (n - 1), reverse-append)

-- no bytes
pub shown_none : (s : List ℕ) (from : ℕ) → shown (bytes_at s from 0) ≡ []
unfolding joined padded
shown_none s from = refl

pub hexes_none : (s : List ℕ) (from : ℕ) → hexes s from 0 ≡ []
unfolding joined padded
hexes_none s from = refl
