-- Stages 1 and 2 leave every literal with a static range as a literal of its own bits, from 0 to their number.
use Rattle.std.specs.Prelude.{◌≡◌, refl, ℕ, zero, suc, ◌-◌, ◌≤◌, ◌<◌, ◌&&◌, ◌||◌, ◌∷◌, ◌-ℤ◌}
use Rattle.std.proofs.Common.{sym, ◌∙◌, le_refl, arith, lt-ltb, ltb-true, ltb-false, leb-true}
use Rattle.std.proofs.lemmas.Bool.{false≢true}
use Rattle.std.proofs.Math.Seq.{length-slice}
use Rattle.definition.specs.Prelude.{Bool, true, false, Option, none, some, List, [], length, take, drop, ltb, ℤ, pos, negsuc, lt_z, le_z, non_neg}
use Rattle.definition.specs.Basics.{ok, ◌>>=◌, same_bytes}
use Rattle.definition.specs.Numbers.{half128, narrow}
use Rattle.definition.specs.Refusals.{Reason, need, negative_bound, reversed, zero_width, start_above_width, end_above_width, range_above_width, end_zero, open_start}
use Rattle.definition.specs.Ranges.{Usb, Usbr, val}
use Rattle.definition.specs.Component.{Component, ComponentType, literal, variable, filler, simplify_usb, simplify_end, simplify_range, if_static, if_static_end, if_known, with_end, cut_literal, simplify_literal, simplify, is_zero, has_end}
use Rattle.definition.specs.Concatenation.{is_static_literal, bits_of}
use Rattle.laws.specs.Tests.{by_test}
use Rattle.answer_facts.specs.read.Facts.{Yields, given, nothing, after, bound}
use Rattle.laws.specs.Numbers.{difference, small_fits}
use Rattle.answer_facts.specs.fits.Kept.{Short, Kept, nil_kept, cut_kept}

-- a range from 0 to n
abbrev pub up_to : ℕ → Usbr
up_to n = record { start = val (pos 0); «end» = some (val (pos n)) }

-- a difference below 0 is known to be
reversed_known : (m n : ℕ) → m < n → n ≤ 4096 → elim (narrow (pos m -ℤ pos n)) [ none ↦ true | some w ↦ non_neg w ] ≡ false
reversed_known m zero h k = absurd (omega arith)
reversed_known m (suc n) h k = rw (lt-ltb m (suc n) h, narrow, lt-ltb (suc n - suc m) half128 (small_fits (suc n - suc m) (omega arith)))

-- a literal with a static range is one of its own bits, from 0 to their number
abbrev pub Normal : Component → Type 0
Normal c = is_static_literal c ≡ true → c.range ≡ up_to (length (bits_of c))

-- ---- stage 2 cuts a literal at its bounds

-- the tests that a literal of some width has passed
record Passed (w : ℕ) (r : Usbr) : Type 0 where
  positive : (if_static non_neg r.start && if_static_end non_neg r) ≡ true
  ordered : if_known non_neg r ≡ true
  start_within : if_static (λ x. lt_z x (pos w)) r.start ≡ true
  end_within : if_static_end (λ x. le_z x (pos w)) r ≡ true

cut_normal : (bits : List ℕ) (n m : ℕ) → n ≤ m → m ≤ length bits
    → Normal (record { c_type = literal (drop n (take m bits)); range = record { start = val (pos 0); «end» = some (val (pos m -ℤ pos n)) } })
cut_normal bits n m l k s = rw (difference m n l, length-slice n m bits k)

abbrev bound_of : ℕ → List ℕ → ℤ → Usb
bound_of at bytes x = record { s = record { at = at; bytes = bytes }; x = x }

-- an end that is not written
open_normal : (bits : List ℕ) (sa : ℕ) (sb : List ℕ) (a : ℤ) → Passed (length bits) (record { start = bound_of sa sb a; «end» = none })
    → Normal (cut_literal bits (record { start = bound_of sa sb a; «end» = none }))
open_normal bits sa (b ∷ sb) a p s = absurd (false≢true s)
open_normal bits sa [] (pos n) p s =
    let l = ltb-true n (length bits) p.start_within in
    cut_normal bits n (length bits) (omega arith) (le_refl (length bits)) s
open_normal bits sa [] (negsuc n) p s = absurd (false≢true p.positive)

-- an end that is written
closed_normal : (bits : List ℕ) → Short bits → (sa : ℕ) (sb : List ℕ) (a : ℤ) (ea : ℕ) (eb : List ℕ) (e : ℤ)
    → Passed (length bits) (record { start = bound_of sa sb a; «end» = some (bound_of ea eb e) })
    → Normal (cut_literal bits (record { start = bound_of sa sb a; «end» = some (bound_of ea eb e) }))
unfolding same_bytes
closed_normal bits h sa (b ∷ sb) a ea (c ∷ eb) e p s = absurd (false≢true s)
closed_normal bits h sa (b ∷ sb) a ea [] e p s = absurd (false≢true s)
closed_normal bits h sa [] a ea (c ∷ eb) e p s = absurd (false≢true s)
closed_normal bits h sa [] (negsuc n) ea [] e p s = absurd (false≢true p.positive)
closed_normal bits h sa [] (pos n) ea [] (negsuc m) p s = absurd (false≢true p.positive)
closed_normal bits h sa [] (pos n) ea [] (pos m) p s = by_test (ltb m n)
    (λ t.
    let l = ltb-true n (length bits) p.start_within in
    absurd (false≢true (sym (reversed_known m n (ltb-true m n t) (omega arith)) ∙ p.ordered)))
    (λ t. cut_normal bits n m (ltb-false m n t) (leb-true m (length bits) p.end_within) s)

literal_normal : (bits : List ℕ) → Short bits → (r : Usbr) → Passed (length bits) r → Normal (cut_literal bits r)
literal_normal bits h r p = go r.«end» p
  where
    go : (e : Option Usb) → Passed (length bits) (record { start = r.start; «end» = e }) → Normal (cut_literal bits (record { start = r.start; «end» = e }))
    go none p = open_normal bits r.start.s.at r.start.s.bytes r.start.x p
    go (some e) p = closed_normal bits h r.start.s.at r.start.s.bytes r.start.x e.s.at e.s.bytes e.x p

-- what is needed holds where nothing is refused
yields_need : (t : Bool) (r : Reason) → Yields (λ _. t ≡ true) (need t r)
yields_need true r = given refl
yields_need false r = nothing

abbrev RangePassed : Usbr → Type 0
RangePassed r = ((if_static non_neg r.start && if_static_end non_neg r) ≡ true) × (if_known non_neg r ≡ true)

range_passed : (r : Usbr) → Yields RangePassed (simplify_range r)
unfolding simplify_range
range_passed r =
    after (simplify_usb r.start) λ s. after (simplify_end r.«end») λ e.
    let r' : Usbr = record { start = s; «end» = e } in
    bound (yields_need (if_static non_neg s && if_static_end non_neg r') negative_bound) λ _ p.
    bound (yields_need (if_known non_neg r') reversed) λ _ q. after (need (if_known (lt_z (pos 0)) r') zero_width) λ _. given (p, q)

literal_passed : (bits : List ℕ) → Short bits → (r : Usbr) → RangePassed r → Yields (λ c. Normal c × Kept bits c) (simplify_literal bits r)
unfolding simplify_literal
literal_passed bits h r (p, q) =
    let w : ℤ = pos (length bits) in
    bound (yields_need (if_static (λ x. lt_z x w) r.start) start_above_width) λ _ s.
    bound (yields_need (if_static_end (λ x. le_z x w) r) end_above_width) λ _ e.
    after (need (if_known (λ x. le_z x w) (with_end (length bits) r)) range_above_width) λ _.
    after (need (if_static_end (lt_z (pos 0)) r) end_zero) λ _.
    given (literal_normal bits h r (record { positive = p; ordered = q; start_within = s; end_within = e }), cut_kept bits r h)

pub simplify_normal : (c : Component) → Short (bits_of c) → Yields (λ d. Normal d × Kept (bits_of c) d) (simplify c)
unfolding simplify
simplify_normal c h = bound (range_passed c.range) λ r p. go r p c.c_type h
  where
    go : (r : Usbr) → RangePassed r → (t : ComponentType) → Short (bits_of (record { c_type = t; range = c.range }))
        → Yields (λ d. Normal d × Kept (bits_of (record { c_type = t; range = c.range })) d) (elim t [
          | literal bits ↦ simplify_literal bits r
          | variable p ↦ ok (record { c_type = variable p; range = r })
          | filler ↦ (need (is_zero r.start || has_end r) open_start >>= λ _. ok (record { c_type = filler; range = r }))
        ])
    go r p (literal bits) h = literal_passed bits h r p
    go r p (variable v) h = given (λ s. absurd (false≢true s), nil_kept [])
    go r p filler h = after (need (is_zero r.start || has_end r) open_start) λ _. given (λ s. absurd (false≢true s), nil_kept [])
