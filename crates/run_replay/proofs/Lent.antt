-- A part of an area that was lent, and put back where it was. Assumes nothing.
use mathlib.Core.Path.{◌≡◌}
use mathlib.Core.List.{List, ◌++◌}
use Prim.Native.Nat.{ℕ, ◌≤◌}
use native.Mathlib.Omega.{arith}
use lib.ListN.{length, take, drop, length-append, length-drop}
use lib.Seq.{length-take-le}

pub put_back : (a l : List ℕ) (n N : ℕ) → length l ≡ N → n ≤ N → length a ≡ length (take n l) → N ≡ length (a ++ drop n l)
put_back a l n N e h k =
    let p = length-take-le n l (omega arith) in
    let q = length-drop n l in
    let r = length-append a (drop n l) in
    omega arith
