-- The answer holds each bit of a literal at its place.
use Rattle.std.specs.Prelude.{◌≡◌, refl, ◌<◌, ◌+◌, ◌-◌, ◌∷◌, ◌++◌}
use Rattle.std.proofs.Common.{sym, ap, ap₂, ◌∙◌, append_assoc, arith, lt-ltb, length-append, get_or-append-add, get_or-drop, get_or-take}
use Rattle.std.proofs.lemmas.Bool.{false≢true}
use Rattle.std.proofs.lemmas.Simd.{map-map}
use Rattle.std.proofs.Math.ListN.{get_or-append}
use Rattle.std.proofs.Math.Seq.{append_snoc, take-append_seam, length-slice}
use Rattle.definition.specs.Prelude.{ℕ, true, none, some, List, [], map, length, get_or, take, pos}
use Rattle.definition.specs.Basics.{sum, joined}
use Rattle.definition.specs.Image.{Placed}
use Rattle.definition.specs.Ranges.{Usbr}
use Rattle.definition.specs.Component.{Component, ComponentType, literal, variable, filler}
use Rattle.definition.specs.Concatenation.{is_static_literal, bits_of, merge}
use Rattle.definition.specs.Answer.{Answer, Read, Field, components, literal_bytes}
use Rattle.answer_facts.specs.read.Statement.{kind_of, shown_field, shown_fields, shown}
use Rattle.cutting.specs.Statement.{Below, run_end, width_of, BitPlace, place_of, bit_in}
use Rattle.cutting_proof.specs.stages.Statement.{bits_between}
use Rattle.std.proofs.lemmas.List.{map-append}
use Rattle.laws.specs.Lists.{joined_append, length_joined}
use Rattle.prepared.specs.Bits.{Bits, packed_bit}
use Rattle.answer_facts.specs.read.Facts.{the_given, Every, every_nil, every_cons, every_split, every_of}
use Rattle.cutting_proof.specs.bits.Statement.{HoldsBit}
use Rattle.cutting_proof.specs.bits.Runs.{Static, run_every}
use Rattle.cutting_proof.specs.bits.Merging.{HasBits, Begins, run_bits, merge_below, begins_run, merge_bits}
use Rattle.cutting_proof.specs.bits.Widths.{width_known}
use Rattle.cutting_proof.specs.bits.Places.{place_at, place_above}
use Rattle.answer_facts.specs.fits.Staged.{NormalAt}
use Rattle.cutting_proof.specs.bits.Staged.{early_normal, later_merges}

-- ---- a bit of a field

-- a component among others is shown, at some offset
shown_at : (at : ℕ) (k : List (Placed Component)) (c : Placed Component) (l : List (Placed Component)) (d : Field)
    → (n : ℕ) × (get_or (shown_fields at (k ++ c ∷ l)) (length k) d ≡ shown_field n c)
unfolding shown_fields
shown_at at [] c l d = (at, refl)
shown_at at (x ∷ k) c l d = shown_at (at + length (literal_bytes x)) k c l d

static_kind : (t : ComponentType) (r : Usbr) → is_static_literal (record { c_type = t; range = r }) ≡ true → kind_of t ≡ 1
static_kind (literal bits) r s = refl
static_kind (variable p) r s = absurd (false≢true s)
static_kind filler r s = absurd (false≢true s)

-- what stands where there is no field
abbrev no_field : Field
no_field = record { kind = 0; text = []; width = 0; offset = 0; literal = []; start = record { text = []; x = pos 0 }; «end» = none }

bit_in_lem : (r : Read) (p : BitPlace) (n : ℕ) (c : Placed Component) → get_or r.fields p.field no_field ≡ shown_field n c → Static c
    → Bits (bits_of c.value) → p.bit < length (bits_of c.value) → bit_in r p ≡ some (get_or (bits_of c.value) p.bit 0)
bit_in_lem r p n c e s b h =
    rw (e, static_kind c.value.c_type c.value.range s, lt-ltb p.bit (length (bits_of c.value)) h, packed_bit (bits_of c.value) p.bit b h)

bit_shown : (a : Answer) (k : List (Placed Component)) (c : Placed Component) (l : List (Placed Component)) → components a ≡ k ++ c ∷ l → Static c
    → Bits (bits_of c.value) → (q : ℕ) → q < length (bits_of c.value)
    → bit_in (shown a) (record { field = length k; bit = q }) ≡ some (get_or (bits_of c.value) q 0)
unfolding shown
bit_shown a k c l e s b q h =
    let (n, f) = shown_at 0 k c l no_field in
    bit_in_lem (shown a) (record { field = length k; bit = q }) n c (rw e f) s b h

-- ---- the widths and the bits of a run

widths_bits : {r : List (Placed Component)} → Every (λ c. NormalAt c × Static c) r → sum (map width_of r) ≡ length (run_bits r)
unfolding sum joined
widths_bits every_nil = refl
widths_bits (every_cons {a = c} {l = r} (n, s) ps) =
    let w : width_of c ≡ length (bits_of c.value) =
    ap (λ (g : Usbr). width_of (record { base = 0; value = record { c_type = c.value.c_type; range = g } })) (n.0 s)
    ∙ width_known 0 c.value.c_type (length (bits_of c.value)) n.1.0 in
    rw (w, widths_bits ps) (sym (length-append (bits_of c.value) (run_bits r)))

-- ---- a component in its place

-- merged concatenations, up to a component and from it on
split_at : (cb : List (List (Placed Component))) (c : List (Placed Component)) (ca : List (List (Placed Component))) (k : List (Placed Component))
    (d : Placed Component) (ds : List (Placed Component)) → merge c ≡ k ++ d ∷ ds
    → joined (map merge (cb ++ c ∷ ca)) ≡ (joined (map merge cb) ++ k) ++ d ∷ (ds ++ joined (map merge ca))
unfolding joined
split_at cb c ca k d ds e = rw (map-append, joined_append, e) (simp append_assoc)

count_at : (cb : List (List (Placed Component))) (k : List (Placed Component))
    → length (joined (map merge cb) ++ k) ≡ sum (map (λ c. length (merge c)) cb) + length k
count_at cb k = rw (length-append, length_joined, map-map)

bit_at : (r x y : List ℕ) (j : ℕ) → j < length x → (length r + j < length (r ++ x ++ y)) × (get_or (r ++ x ++ y) (length r + j) 0 ≡ get_or x j 0)
bit_at r x y j h =
    let n = length-append r x in
    let n' = length-append (r ++ x) y in
    (omega arith, get_or-append (r ++ x) y 0 (length r + j) (omega arith) ∙ get_or-append-add r x j 0)

module _ (answer : Answer) (cb : List (List (Placed Component))) (l : List (Placed Component)) (x : Placed Component) (h : List (Placed Component))
    (ca : List (List (Placed Component))) (merges : components answer ≡ joined (map merge (cb ++ (l ++ x ∷ h) ∷ ca)))
    (normal : Every NormalAt (l ++ x ∷ h)) (static : Static x) where
  -- the merged literal of the component's run has bits
  first_bits : (k : List (Placed Component)) (d : Placed Component) (ds : List (Placed Component)) → merge (l ++ x ∷ h) ≡ k ++ d ∷ ds → HasBits d
  first_bits k d ds e =
      elim (every_split k (rw e at (merge_bits (every_of (λ c n s. n.1.1) normal)))).1 [ every_cons b bs ↦ b ]

  place_holds : (j : ℕ) → j < length (bits_of x.value)
      → bit_in (shown answer) (place_at (sum (map (λ c. length (merge c)) cb)) (run_end l) j) ≡ some (get_or (bits_of x.value) j 0)
  place_holds j b = go (begins_run (every_of (λ c q. q.1) run) x h static)
    where
      low : Below
      low = run_end l

      run : Every (λ c. NormalAt c × Static c) low.in_run
      run = run_every (every_split l normal).0

      go : Begins (low.in_run ++ x ∷ h) (run_bits low.in_run ++ bits_of x.value)
          → bit_in (shown answer) (place_at (sum (map (λ c. length (merge c)) cb)) low j) ≡ some (get_or (bits_of x.value) j 0)
      go g =
          let k : List (Placed Component) = merge low.rest in
          let r : List ℕ = run_bits low.in_run in
          let e : merge (l ++ x ∷ h) ≡ k ++ g.first ∷ g.others = merge_below l (x ∷ h) ∙ ap (λ (y : List (Placed Component)). k ++ y) g.merges in
          let q = bit_at r (bits_of x.value) g.higher j b in
          ap₂ (λ (f w : ℕ). bit_in (shown answer) (record { field = f; bit = w + j })) (sym (count_at cb k)) (widths_bits run)
          ∙ bit_shown answer (joined (map merge cb) ++ k) g.first (g.others ++ joined (map merge ca))
          (merges ∙ split_at cb (l ++ x ∷ h) ca k g.first g.others e)
          g.static (first_bits k g.first g.others e g.static) (length r + j) (rw g.holds q.0)
          ∙ ap (λ (y : List ℕ). some (get_or y (length r + j) 0)) g.holds
          ∙ ap some q.1

pub holds_bit : HoldsBit
unfolding joined
holds_bit t f p e how answer e' cb l h ca bits a b u v w c i k m =
    go p.cc (rw append_snoc at c) (the_given (rw e' at (later_merges how p))) (the_given (rw e at (early_normal t f)))
  where
    x : Placed Component
    x = bits_between bits a b

    slice : get_or (bits_of x.value) (i - a) 0 ≡ get_or bits i 0
    slice = rw (get_or-drop a (take b bits) (i - a) 0, get_or-take b bits (a + (i - a)) 0 (omega arith)) (ap (λ (n : ℕ). get_or bits n 0) (omega arith))

    go : (cc : List (List (Placed Component))) → cc ≡ cb ++ (l ++ x ∷ h) ∷ ca → components answer ≡ joined (map merge cc) → Every NormalAt (joined cc)
        → bit_in (shown answer) (place_of cc (length cb) (length l) (i - a)) ≡ some (get_or bits i 0)
    go cc c s n =
        let n' = rw (c, joined_append) at n in
        ap (λ (z : List (List (Placed Component))). bit_in (shown answer) (place_of z (length cb) (length l) (i - a))) c
        ∙ ap (bit_in (shown answer)) (place_above cb (l ++ x ∷ h) l ca (length l) (i - a) (take-append_seam l (x ∷ h)))
        ∙ place_holds answer cb l x h ca (rw c at s) (every_split (l ++ x ∷ h) (every_split (joined cb) n').1).0 refl (i - a)
        (rw (length-slice a b bits v) (omega arith))
        ∙ ap some slice
