-- Bit places: the bits of a literal and of its pieces lie at the same place of the same component, and the answer holds them there.
use Rattle.std.specs.Prelude.{◌≡◌, ◌≤◌, ◌<◌, ◌+◌, ◌-◌, ◌∷◌, ◌++◌}
use Rattle.definition.specs.Prelude.{ℕ, true, some, List, [], length, get_or, ltb}
use Rattle.definition.specs.Basics.{ok, all}
use Rattle.definition.specs.Image.{Placed}
use Rattle.definition.specs.Tree.{Tree, fits}
use Rattle.definition.specs.Component.{Component, Parsed}
use Rattle.definition.specs.Answer.{Answer}
use Rattle.definition.specs.Run.{Choices}
use Rattle.answer_facts.specs.read.Statement.{shown}
use Rattle.cutting.specs.Statement.{place_of, piece_at, bit_in, rising}
use Rattle.answer_facts.specs.stages.Statement.{early, later}
use Rattle.cutting_proof.specs.stages.Statement.{bare_tree, bits_between, piece_components}

-- "Bit i of a literal or piece from c to d lies at bit p+i-c of its run's merged literal": the same place for the literal and for the
-- piece that the bit lies in
abbrev pub SamePlace : Type 0
SamePlace =
    (cb : List (List (Placed Component))) (l h : List (Placed Component)) (ca : List (List (Placed Component)))
    (bits : List ℕ) (a : ℕ) (places : List ℕ) (b : ℕ) → rising a places b ≡ true → b ≤ length bits → length bits ≤ 4096 →
    (i : ℕ) → a ≤ i → i < b →
    let p = piece_at a places i in
    place_of (cb ++ (l ++ piece_components bits a places b ++ h) ∷ ca) (length cb) (length l + p.index) (i - p.start)
    ≡ place_of (cb ++ (l ++ (bits_between bits a b ∷ []) ++ h) ∷ ca) (length cb) (length l) (i - a)

-- the answer holds bit i there
abbrev pub HoldsBit : Type 0
HoldsBit =
    (t : Tree) → fits t ≡ true → (p : Parsed) → early (bare_tree t) ≡ ok p → (how : Choices) (answer : Answer) → later how p ≡ ok answer →
    (cb : List (List (Placed Component))) (l h : List (Placed Component)) (ca : List (List (Placed Component))) (bits : List ℕ) (a b : ℕ) →
    a < b → b ≤ length bits → all (λ x. ltb x 2) bits ≡ true →
    p.cc ≡ cb ++ (l ++ (bits_between bits a b ∷ []) ++ h) ∷ ca →
    (i : ℕ) → a ≤ i → i < b →
    bit_in (shown answer) (place_of p.cc (length cb) (length l) (i - a)) ≡ some (get_or bits i 0)
