-- The places of a literal's bits and of its pieces' bits are the same.
use Rattle.std.specs.Prelude.{◌≡◌, refl, ◌≤◌, ◌<◌, ◌+◌, ◌-◌, ◌∷◌, ◌++◌}
use Rattle.std.proofs.Common.{sym, ◌∙◌, zero-add, add_assoc, arith, append_assoc, nltb→le}
use Rattle.std.proofs.Math.Seq.{take-append_seam, take-append-add, get_or-append_seam}
use Rattle.std.proofs.lemmas.List.{take-append-le, map-append}
use Rattle.definition.specs.Prelude.{ℕ, suc, true, List, [], map, length, take, ltb}
use Rattle.definition.specs.Basics.{sum}
use Rattle.definition.specs.Image.{Placed}
use Rattle.definition.specs.Component.{Component}
use Rattle.definition.specs.Concatenation.{merge}
use Rattle.cutting.specs.Statement.{Below, run_end, width_of, BitPlace, place_of, piece_at, rising, pieces_of}
use Rattle.cutting_proof.specs.stages.Statement.{bits_between, piece_components}
use Rattle.laws.specs.Tests.{by_test, and_iff, leb_iff}
use Rattle.laws.specs.Lists.{sum_append}
use Rattle.answer_facts.specs.read.Facts.{Every, every_nil, every_cons}
use Rattle.cutting_proof.specs.bits.Statement.{SamePlace}
use Rattle.cutting_proof.specs.bits.Runs.{Static, run_longer}
use Rattle.cutting_proof.specs.bits.Widths.{width_known}

-- Of pieces ps from a on, those below the one that bit i lies in: fewer than all, of static ranges, and they reach from a up to its start.
record Lower (ps : List (Placed Component)) (a i : ℕ) (at : record { index : ℕ; start : ℕ }) : Type 0 where
  fewer : at.index ≤ length ps
  static : Every Static (take at.index ps)
  reach : sum (map width_of (take at.index ps)) + (i - at.start) ≡ i - a

-- one more piece, from a to p, before them
lower_cons : (bits : List ℕ) (ps : List (Placed Component)) (a p i : ℕ) (at : record { index : ℕ; start : ℕ }) → a < p → p ≤ i → p ≤ 4096
    → Lower ps p i at → Lower (bits_between bits a p ∷ ps) a i (record { index = suc at.index; start = at.start })
unfolding sum
lower_cons bits ps a p i at h u s k =
    let f = k.fewer in
    let e = k.reach in
    let c = bits_between bits a p in
    record {
      fewer = omega arith;
      static = every_cons refl k.static;
      reach = rw (width_known 0 c.value.c_type (p - a) (omega arith)) (omega arith);
    }

pieces_lower : (bits : List ℕ) (a : ℕ) (places : List ℕ) (b : ℕ) → rising a places b ≡ true → b ≤ 4096 → (i : ℕ) → a ≤ i → i < b
    → Lower (piece_components bits a places b) a i (piece_at a places i)
unfolding piece_at pieces_of rising sum
pieces_lower bits a [] b r s i l h = record { fewer = omega arith; static = every_nil; reach = zero-add (i - a) }
pieces_lower bits a (p ∷ ps) b r s i l h = by_test (ltb i p)
    (λ t. rw t (record { fewer = omega arith; static = every_nil; reach = zero-add (i - a) }))
    (λ t.
    let (x, y) = (and_iff (ltb a p) (rising p ps b)).0 r in
    let u : p ≤ i = nltb→le i p (rw t tt) in
    rw t (lower_cons bits (piece_components bits p ps b) a p i (piece_at p ps i) ((leb_iff (suc a) p).0 x) u (omega arith) (pieces_lower bits p ps b y s i u h)))

-- the place of a component, from the count of merged components below its concatenation and what stands below it in there
abbrev pub place_at : ℕ → Below → ℕ → BitPlace
place_at fields low above = record { field = fields + length (merge low.rest); bit = sum (map width_of low.in_run) + above }

pub place_above : (cb : List (List (Placed Component))) (c l : List (Placed Component)) (ca : List (List (Placed Component))) (k above : ℕ) → take k c ≡ l
    → place_of (cb ++ c ∷ ca) (length cb) k above ≡ place_at (sum (map (λ c. length (merge c)) cb)) (run_end l) above
place_above cb c l ca k above e = rw (take-append_seam, get_or-append_seam, e)

-- pieces that reach from a up to c lie between the literal's place and the piece's
place_longer : (fields : ℕ) (l ps : List (Placed Component)) (a c i : ℕ) → Every Static ps → sum (map width_of ps) + (i - c) ≡ i - a
    → place_at fields (run_end (l ++ ps)) (i - c) ≡ place_at fields (run_end l) (i - a)
place_longer fields l ps a c i ss e = rw (run_longer l ss, map-append, sum_append, add_assoc, e)

pub same_place : SamePlace
same_place cb l h ca bits a places b r w s i k m = go (piece_at a places i) (pieces_lower bits a places b r (omega arith) i k m)
  where
    ps : List (Placed Component)
    ps = piece_components bits a places b

    go : (at : record { index : ℕ; start : ℕ }) → Lower ps a i at
        → place_of (cb ++ (l ++ ps ++ h) ∷ ca) (length cb) (length l + at.index) (i - at.start)
        ≡ place_of (cb ++ (l ++ (bits_between bits a b ∷ []) ++ h) ∷ ca) (length cb) (length l) (i - a)
    go at low =
        let f : at.index ≤ length ps = low.fewer in
        let n : ℕ = sum (map (λ c. length (merge c)) cb) in
        place_above cb (l ++ ps ++ h) (l ++ take at.index ps) ca (length l + at.index) (i - at.start)
        (rw (append_assoc l ps h, take-append-add l (ps ++ h) at.index, take-append-le at.index ps h f))
        ∙ place_longer n l (take at.index ps) a at.start i low.static low.reach
        ∙ sym (place_above cb (l ++ (bits_between bits a b ∷ []) ++ h) l ca (length l) (i - a) (rw append_assoc (take-append_seam l (bits_between bits a b ∷ h))))
