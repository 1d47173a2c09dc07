-- What merging makes of a list in the midst of a run: the components below the run stay apart, and the run's bits stand in one literal.
use Rattle.std.specs.Prelude.{◌≡◌, refl, ◌&&◌, ◌∷◌, ◌++◌}
use Rattle.std.proofs.Common.{sym, append_assoc, append-nil}
use Rattle.definition.specs.Prelude.{ℕ, true, false, List, [], map}
use Rattle.definition.specs.Basics.{is_empty, joined}
use Rattle.definition.specs.Image.{Placed}
use Rattle.definition.specs.Component.{Component}
use Rattle.definition.specs.Concatenation.{is_static_literal, bits_of, whole_literal, merge_onto, merge}
use Rattle.cutting.specs.Statement.{run_end}
use Rattle.laws.specs.Tests.{by_test, and_iff}
use Rattle.laws.specs.Lists.{all_append}
use Rattle.prepared.specs.Bits.{Bits}
use Rattle.answer_facts.specs.read.Facts.{Every, every_nil, every_cons}
use Rattle.cutting_proof.specs.bits.Runs.{Static}

-- two literals with static ranges made one
abbrev both : Placed Component → Placed Component → Placed Component
both c d = record { base = c.base; value = whole_literal (bits_of c.value ++ bits_of d.value) }

-- ---- below the run

onto_some : (c : Placed Component) (l : List (Placed Component)) → (d : Placed Component) × (k : List (Placed Component)) × (merge_onto c l ≡ d ∷ k)
onto_some c [] = (c, [], refl)
onto_some c (d ∷ l) = by_test (is_static_literal c.value && is_static_literal d.value) (λ t. (both c d, l, rw t)) (λ t. (c, d ∷ l, rw t))

onto_apart : (c : Placed Component) → is_static_literal c.value ≡ false → (l : List (Placed Component)) → merge_onto c l ≡ c ∷ l
onto_apart c e [] = refl
onto_apart c e (d ∷ l) = rw e

-- only the first of what is merged onto changes
onto_append : (c d : Placed Component) (k l : List (Placed Component)) → merge_onto c (d ∷ k ++ l) ≡ merge_onto c (d ∷ k) ++ l
onto_append c d k l = by_test (is_static_literal c.value && is_static_literal d.value) (λ t. rw t) (λ t. rw t)

-- components below a list, where the last of them is not merged with the list's first
onto_below : (c : Placed Component) (r l : List (Placed Component)) → (is_empty r && is_static_literal c.value) ≡ false
    → merge_onto c (merge r ++ l) ≡ merge_onto c (merge r) ++ l
unfolding merge
onto_below c [] l t = onto_apart c t l
onto_below c (d ∷ r) l t = let (e, k, s) = onto_some d (merge r) in rw s (onto_append c e k l)

empty_is : {A : Type 0} (l : List A) → is_empty l ≡ true → l ≡ []
empty_is [] e = refl
empty_is (a ∷ l) e = cc

pub merge_below : (l y : List (Placed Component)) → merge (l ++ y) ≡ merge (run_end l).rest ++ merge ((run_end l).in_run ++ y)
unfolding merge run_end
merge_below [] y = refl
merge_below (c ∷ l) y = by_test (is_empty (run_end l).rest && is_static_literal c.value)
    (λ t. rw (t, merge_below l y, empty_is (run_end l).rest ((and_iff (is_empty (run_end l).rest) (is_static_literal c.value)).0 t).0))
    (λ t. rw (t, merge_below l y) (onto_below c (run_end l).rest (merge ((run_end l).in_run ++ y)) t))

-- ---- the run

-- merging begins with a literal whose lowest bits are these
pub record Begins (l : List (Placed Component)) (bits : List ℕ) : Type 0 where
  pub first : Placed Component
  pub others : List (Placed Component)
  pub merges : merge l ≡ first ∷ others
  pub static : Static first
  pub higher : List ℕ
  pub holds : bits_of first.value ≡ bits ++ higher

begins_one : (c : Placed Component) (l : List (Placed Component)) → Static c → Begins (c ∷ l) (bits_of c.value)
unfolding merge
begins_one c l s = go (merge l) refl
  where
    go : (k : List (Placed Component)) → merge l ≡ k → Begins (c ∷ l) (bits_of c.value)
    go [] e = record { first = c; others = []; merges = rw e; static = s; higher = []; holds = sym (append-nil (bits_of c.value)) }
    go (d ∷ k) e = by_test (is_static_literal d.value)
        (λ t. record { first = both c d; others = k; merges = rw (e, s, t); static = refl; higher = bits_of d.value; holds = refl })
        (λ t. record { first = c; others = d ∷ k; merges = rw (e, s, t); static = s; higher = []; holds = sym (append-nil (bits_of c.value)) })

abbrev pub run_bits : List (Placed Component) → List ℕ
run_bits r = joined (map (λ c. bits_of c.value) r)

pub begins_run : {r : List (Placed Component)} → Every Static r → (c : Placed Component) (l : List (Placed Component)) → Static c
    → Begins (r ++ c ∷ l) (run_bits r ++ bits_of c.value)
unfolding merge joined
begins_run every_nil c l s = begins_one c l s
begins_run (every_cons {a = d} {l = r} t ts) c l s =
    let b = begins_run ts c l s in
    record {
      first = both d b.first;
      others = b.others;
      merges = rw (b.merges, t, b.static);
      static = refl;
      higher = b.higher;
      holds = rw b.holds (simp append_assoc);
    }

-- ---- bits stay bits

-- of a literal with a static range
abbrev pub HasBits : Placed Component → Type 0
HasBits c = Static c → Bits (bits_of c.value)

onto_bits : (c : Placed Component) {l : List (Placed Component)} → HasBits c → Every HasBits l → Every HasBits (merge_onto c l)
onto_bits c h every_nil = every_cons h every_nil
onto_bits c h (every_cons {a = d} {l = l} g gs) = by_test (is_static_literal c.value && is_static_literal d.value)
    (λ t.
    let (a, b) = (and_iff (is_static_literal c.value) (is_static_literal d.value)).0 t in
    rw t (every_cons {a = both c d} (λ _. rw (all_append, h a, g b)) gs))
    (λ t. rw t (every_cons h (every_cons g gs)))

pub merge_bits : {l : List (Placed Component)} → Every HasBits l → Every HasBits (merge l)
unfolding merge
merge_bits every_nil = every_nil
merge_bits (every_cons {a = c} h hs) = onto_bits c h (merge_bits hs)
