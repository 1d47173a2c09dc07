-- Stage 2 of a literal whose bounds are fixed: it passes where they rise and keep to the width, and is cut at them.
use Rattle.std.specs.Prelude.{◌≡◌, refl, ◌≤◌, ◌<◌, ◌-◌, ◌&&◌, ◌∷◌, ◌-ℤ◌, if◌then◌else◌}
use Rattle.std.proofs.Common.{sym, ap, ◌∙◌, subst, arith, ltb-true, ltb-false, leb-true, lt-ltb, le-leb}
use Rattle.std.proofs.lemmas.Bool.{false≢true}
use Rattle.definition.specs.Prelude.{ℕ, zero, suc, Bool, true, false, Option, none, some, List, [], length, leb, ltb, ℤ, pos, negsuc, lt_z, le_z, non_neg}
use Rattle.definition.specs.Basics.{Result, ok, refused, ◌>>=◌, same_bytes}
use Rattle.definition.specs.Numbers.{half128, fits128}
use Rattle.definition.specs.Refusals.{need, negative_bound, reversed, zero_width, start_above_width, end_above_width}
use Rattle.definition.specs.Ranges.{Usb, Usbr, val, text, static_val}
use Rattle.definition.specs.Component.{Component, literal, simplify_usb, simplify_end, if_static, if_static_end, if_known, simplify_range, the_end, simplify_literal, simplify}
use Rattle.cutting.specs.Statement.{fixed_bound, fixed_range}
use Rattle.cutting_proof.specs.component.Statement.{cut_to}
use Rattle.laws.specs.Numbers.{difference}
use Rattle.laws.specs.Tests.{by_test}
use Rattle.laws.specs.Results.{bind_ok, need_then}
use Rattle.cutting_proof.specs.component.Fitting.{FitBound, simplify_fit}

-- ── Differences ──

below : (d c : ℕ) → d < c → pos d -ℤ pos c ≡ negsuc (c - suc d)
below d zero h = absurd (omega arith)
below d (suc c) h = rw (lt-ltb d (suc c) h)

-- ── Bounds ──

-- a bound that is a number: its text is empty
abbrev number_at : ℕ → ℕ → Usb
number_at at n = text (record { at = at; bytes = [] }) (pos n)

fixed_usb : (u : Usb) (n : ℕ) → fixed_bound u ≡ some n → (at : ℕ) × (simplify_usb u ≡ ok (number_at at n))
fixed_usb u n h = go (simplify_usb u) h
  where
    number : (at : ℕ) (bytes : List ℕ) (x : ℤ) →
        ◌≡◌ {A = Option ℕ} (elim (static_val (text (record { at = at; bytes = bytes }) x)) [ none ↦ none | some z ↦ elim z [ pos n ↦ some n | negsuc n ↦ none ] ]) (some n) →
        (k : ℕ) × (◌≡◌ {A = Result Usb} (ok (text (record { at = at; bytes = bytes }) x)) (ok (number_at k n)))
    number at (b ∷ bs) x h = (0, cc)
    number at [] (pos m) h = (at, cc)
    number at [] (negsuc m) h = (0, cc)

    go : (m : Result Usb) →
        ◌≡◌ {A = Option ℕ} (elim m [ refused q ↦ none | ok u' ↦ elim (static_val u') [ none ↦ none | some z ↦ elim z [ pos n ↦ some n | negsuc n ↦ none ] ] ]) (some n) →
        (at : ℕ) × (m ≡ ok (number_at at n))
    go (refused q) h = (0, cc)
    go (ok u) h = number u.s.at u.s.bytes u.x h

-- an end that is not written, or a number
data EndAt (w : ℕ) : ℕ → Option Usb → Type 0 where
  omitted : EndAt w w none
  written : (at : ℕ) {d : ℕ} → EndAt w d (some (number_at at d))

-- a range after stage 2 has added number texts to x
record Added (w : ℕ) (r : Usbr) (c d : ℕ) : Type 0 where
  at : ℕ
  start : simplify_usb r.start ≡ ok (number_at at c)
  «end» : Option Usb
  ended : simplify_end r.«end» ≡ ok «end»
  end_at : EndAt w d «end»

fixed_both : (o p : Option ℕ) {c d : ℕ} → ◌≡◌ {A = Option (ℕ × ℕ)} (elim o [ none ↦ none | some a ↦ elim p [ none ↦ none | some b ↦ some (a, b) ] ]) (some (c, d)) →
    (o ≡ some c) × (p ≡ some d)
fixed_both none p h = (cc, cc)
fixed_both (some a) none h = (cc, cc)
fixed_both (some a) (some b) {c} {d} h =
    let e : ◌≡◌ {A = ℕ × ℕ} (a, b) (c, d) = cc in
    (ap (λ q. some q.0) e, ap (λ q. some q.1) e)

width_fixed : (w d : ℕ) → fixed_bound (val (pos w)) ≡ some d → w ≡ d
unfolding simplify_usb
width_fixed w d h = cc

added : (w : ℕ) (r : Usbr) (c d : ℕ) → fixed_range w r ≡ some (c, d) → Added w r c d
added w r c d h = go r.«end» (fixed_both (fixed_bound r.start) (fixed_bound (the_end w r)) h)
  where
    go : (e : Option Usb) → (fixed_bound r.start ≡ some c) × (fixed_bound (the_end w (record { start = r.start; «end» = e })) ≡ some d) → Added w (record { start = r.start; «end» = e }) c d
    go none (p, q) =
        let (at, s) = fixed_usb r.start c p in
        record { at = at; start = s; «end» = none; ended = refl; end_at = subst (λ d. EndAt w d none) (width_fixed w d q) omitted }
    go (some e) (p, q) =
        let (at, s) = fixed_usb r.start c p in
        let (at', t) = fixed_usb e d q in
        record { at = at; start = s; «end» = some (number_at at' d); ended = ap (λ m. m >>= λ e'. ok (some e')) t; end_at = written at' }

-- ── Stage 2 of a range ──

abbrev checked_range : Usb → Option Usb → Result Usbr
checked_range s e =
    let r' : Usbr = record { start = s; «end» = e } in
    need (if_static non_neg s && if_static_end non_neg r') negative_bound >>= λ _.
    need (if_known non_neg r') reversed >>= λ _.
    need (if_known (lt_z (pos 0)) r') zero_width >>= λ _.
    ok r'

known : (p : ℤ → Bool) (at at' c d : ℕ) → c ≤ d → p (pos (d - c)) ≡ true → if_known p (record { start = number_at at c; «end» = some (number_at at' d) }) ≡ true
unfolding same_bytes
known p at at' c d h q = rw (difference d c h) (go (fits128 (pos (d - c))))
  where
    go : (t : Bool) → ◌≡◌ {A = Bool} (elim (if t then some (pos (d - c)) else none) [ none ↦ true | some w ↦ p w ]) true
    go true = q
    go false = refl

range_steps : (r : Usbr) (s : Usb) (e : Option Usb) → simplify_usb r.start ≡ ok s → simplify_end r.«end» ≡ ok e → simplify_range r ≡ checked_range s e
unfolding simplify_range
range_steps r s e p q = ap (λ m. m >>= λ s. simplify_end r.«end» >>= checked_range s) p ∙ ap (λ m. m >>= checked_range s) q

range_passes : (w at c d : ℕ) (e : Option Usb) → EndAt w d e → c < d → checked_range (number_at at c) e ≡ ok (record { start = number_at at c; «end» = e })
range_passes w at c d e omitted h = refl
range_passes w at c d e (written at') h = rw (known non_neg at at' c d (omega arith) refl, known (lt_z (pos 0)) at at' c d (omega arith) (lt-ltb 0 (d - c) (omega arith)))

literal_passes : (bits : List ℕ) (at c d : ℕ) (e : Option Usb) → EndAt (length bits) d e → c < d → d ≤ length bits →
    simplify_literal bits (record { start = number_at at c; «end» = e }) ≡ ok (cut_to bits c d)
unfolding simplify_literal
literal_passes bits at c d e omitted h l =
    let w = length bits in
    rw (lt-ltb c w h, known (λ x. le_z x (pos w)) at 0 c w (omega arith) (le-leb (w - c) w (omega arith)), difference w c (omega arith))
literal_passes bits at c d e (written at') h l =
    let w = length bits in
    rw (lt-ltb c w (omega arith), le-leb d w l, known (λ x. le_z x (pos w)) at at' c d (omega arith) (le-leb (d - c) w (omega arith)), lt-ltb 0 d (omega arith), difference d c (omega arith))

pub fixed_cut : (bits : List ℕ) (r : Usbr) (c d : ℕ) → fixed_range (length bits) r ≡ some (c, d) → c < d → d ≤ length bits →
    simplify (record { c_type = literal bits; range = r }) ≡ ok (cut_to bits c d)
unfolding simplify
fixed_cut bits r c d f h l = go (added (length bits) r c d f)
  where
    go : Added (length bits) r c d → (simplify_range r >>= simplify_literal bits) ≡ ok (cut_to bits c d)
    go a =
        ap (λ m. m >>= simplify_literal bits) (range_steps r (number_at a.at c) a.«end» a.start a.ended ∙ range_passes (length bits) a.at c d a.«end» a.end_at h)
        ∙ literal_passes bits a.at c d a.«end» a.end_at h l

-- ── What passes ──

-- the difference of two bounds, where it fits
tested : (p : ℤ → Bool) (at at' a b : ℕ) {z : ℤ} → pos b -ℤ pos a ≡ z → fits128 z ≡ true →
    if_known p (record { start = number_at at a; «end» = some (number_at at' b) }) ≡ true → p z ≡ true
unfolding same_bytes
tested p at at' a b q f h = rw (q, f) at h

rises : (at at' a b : ℕ) → a < half128 →
    if_known non_neg (record { start = number_at at a; «end» = some (number_at at' b) }) ≡ true →
    if_known (lt_z (pos 0)) (record { start = number_at at a; «end» = some (number_at at' b) }) ≡ true → a < b
rises at at' a b f n z = by_test (ltb a b) (ltb-true a b) (λ h. not_above (ltb-false a b h))
  where
    below_start : b < a → a < b
    below_start h =
        let e : ◌≡◌ {A = Bool} false true = tested non_neg at at' a b (below b a h) (lt-ltb (a - suc b) half128 (omega arith)) n in
        absurd (false≢true e)

    at_start : b ≤ a → a ≤ b → a < b
    at_start h k =
        let l : 0 < b - a = ltb-true 0 (b - a) (tested (lt_z (pos 0)) at at' a b (difference b a k) (lt-ltb (b - a) half128 (omega arith)) z) in
        omega arith

    not_above : b ≤ a → a < b
    not_above h = by_test (ltb b a) (λ k. below_start (ltb-true b a k)) (λ k. at_start h (ltb-false b a k))

passed_range : (at at' a b : ℕ) {r : Usbr} → a < half128 → checked_range (number_at at a) (some (number_at at' b)) ≡ ok r →
    (a < b) × (record { start = number_at at a; «end» = some (number_at at' b) } ≡ r)
passed_range at at' a b {r} f h =
    let e : Usbr = record { start = number_at at a; «end» = some (number_at at' b) } in
    let (n, h₁) = need_then (if_known non_neg e) reversed _ h in
    let (z, h₂) = need_then (if_known (lt_z (pos 0)) e) zero_width _ h₁ in
    (rises at at' a b f n z, cc)

passed_literal : (bits : List ℕ) (at at' a b : ℕ) {c' : Component} → simplify_literal bits (record { start = number_at at a; «end» = some (number_at at' b) }) ≡ ok c' → b ≤ length bits
unfolding simplify_literal
passed_literal bits at at' a b h =
    let (_, h₁) = need_then (ltb a (length bits)) start_above_width _ h in
    let (l, _) = need_then (leb b (length bits)) end_above_width _ h₁ in
    leb-true b (length bits) l

passed : (bits : List ℕ) (at a b : ℕ) (e : Option Usb) {c' : Component} → EndAt (length bits) b e → a < half128 →
    (checked_range (number_at at a) e >>= simplify_literal bits) ≡ ok c' → (a < b) × (b ≤ length bits)
unfolding simplify_literal
passed bits at a b e omitted f h = (ltb-true a b (need_then (ltb a b) start_above_width _ h).0, omega arith)
passed bits at a b e {c'} (written at') f h =
    let (r, p, q) = bind_ok (checked_range (number_at at a) (some (number_at at' b))) (simplify_literal bits) h in
    go r (passed_range at at' a b f p) q
  where
    go : (r : Usbr) → (a < b) × (record { start = number_at at a; «end» = some (number_at at' b) } ≡ r) → simplify_literal bits r ≡ ok c' → (a < b) × (b ≤ length bits)
    go r (l, i) q = (l, passed_literal bits at at' a b (ap (simplify_literal bits) i ∙ q))

-- a literal with fixed bounds that stage 2 passes: they rise and keep to its width
pub fixed_bounds : (bits : List ℕ) (r : Usbr) (a b : ℕ) {c' : Component} → fits128 r.start.x ≡ true → fixed_range (length bits) r ≡ some (a, b) →
    simplify (record { c_type = literal bits; range = r }) ≡ ok c' → (a < b) × (b ≤ length bits)
unfolding simplify
fixed_bounds bits r a b {c'} f q h = go (added (length bits) r a b q)
  where
    go : Added (length bits) r a b → (a < b) × (b ≤ length bits)
    go d =
        let small : fits128 (pos a) ≡ true = subst FitBound d.start (simplify_fit r.start f) in
        passed bits d.at a b d.«end» d.end_at (ltb-true a half128 small)
        (ap (λ m. m >>= simplify_literal bits) (sym (range_steps r (number_at d.at a) d.«end» d.start d.ended)) ∙ h)
