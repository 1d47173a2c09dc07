-- The x of a bound that was read fits 128 bits.
use Rattle.std.specs.Prelude.{◌≡◌, refl, ◌&&◌, ◌∷◌, ◌+ℤ◌, ◌-ℤ◌, if◌then◌else◌}
use Rattle.definition.specs.Prelude.{ℕ, Bool, true, false, Option, none, some, List, [], length, get_or, take, drop, ltb, eqb, ℤ, pos, neg_ℤ}
use Rattle.definition.specs.Basics.{Result, ok, refused, ◌>>=◌, is_empty}
use Rattle.definition.specs.Characters.{char}
use Rattle.definition.specs.Numbers.{half128, fits128, narrow, digits, signed_as, inner, radix_of, unsigned_parse, try_parse}
use Rattle.definition.specs.Refusals.{Reason, need, refuse, not_one_token, bound_overflow, overflow}
use Rattle.definition.specs.Image.{kinds}
use Rattle.definition.specs.Text.{Part, no_text, Item, items, is_group, is_token, part_of}
use Rattle.definition.specs.Ranges.{Usb, Usbr, text, with_x, Cut, cut_bound, number_in, side, join_sides, read_bound, parse_usb, scan_dots, parse_start, parse_end, parse_range}
use Rattle.definition.specs.Component.{simplify_usb}

-- ── Numbers ──

abbrev pub Fit : Option ℤ → Type 0
Fit none = Unit
Fit (some z) = fits128 z ≡ true

abbrev pub FitBound : Result Usb → Type 0
FitBound (ok u) = fits128 u.x ≡ true
FitBound (refused q) = Unit

pub zero_fits : fits128 (pos 0) ≡ true
unfolding half128
zero_fits = refl

either : {A : Type 0} (P : A → Type 0) (t : Bool) {a b : A} → P a → P b → P (if t then a else b)
either P true p q = p
either P false p q = q

narrow_fit : (z : ℤ) → Fit (narrow z)
narrow_fit z = go (fits128 z) refl
  where
    go : (t : Bool) → fits128 z ≡ t → Fit (if t then some z else none)
    go true h = h
    go false h = tt

signed_fit : (f : ℕ → ℤ) (o : Option ℕ) → Fit (signed_as f o)
signed_fit f none = tt
signed_fit f (some n) = narrow_fit (f n)

inner_fit : (radix : ℕ) (s : List ℕ) → Fit (inner radix s)
unfolding inner
inner_fit radix [] = tt
inner_fit radix (b ∷ rest) =
    either Fit (eqb b char.minus) (signed_fit (λ n. neg_ℤ (pos n)) (digits radix rest))
    (either Fit (eqb b char.plus) (signed_fit pos (digits radix rest)) (signed_fit pos (digits radix (b ∷ rest))))

unsigned_fit : (s : List ℕ) → Fit (unsigned_parse s)
unfolding unsigned_parse
unsigned_fit s = either Fit (ltb 2 (length s) && eqb (get_or s 0 0) char.zero) (go (radix_of (get_or s 1 0))) (inner_fit 10 s)
  where
    go : (o : Option ℕ) → Fit (elim o [ none ↦ none | some radix ↦ inner radix (drop 2 s) ])
    go none = tt
    go (some radix) = inner_fit radix (drop 2 s)

try_fit : (s : List ℕ) → Fit (try_parse s)
unfolding try_parse
try_fit [] = tt
try_fit (b ∷ rest) = either Fit (eqb b char.minus) (go (unsigned_parse rest)) (unsigned_fit (b ∷ rest))
  where
    go : (o : Option ℤ) → Fit (elim o [ none ↦ none | some z ↦ narrow (neg_ℤ z) ])
    go none = tt
    go (some z) = narrow_fit (neg_ℤ z)

-- ── Bounds ──

number_fit : (p : Part) → Fit (number_in p)
number_fit p = either Fit (is_empty p.bytes) zero_fits (try_fit p.bytes)

with_x_fit : (r : Reason) (s : Part) (z : ℤ) → FitBound (with_x r s z)
with_x_fit r s z = go (narrow z) (narrow_fit z)
  where
    go : (o : Option ℤ) → Fit o → FitBound (elim o [ none ↦ refuse r | some x ↦ ok (text s x) ])
    go none h = tt
    go (some x) h = h

join_fit : (u : Usb) (c : Cut) → fits128 u.x ≡ true → FitBound (join_sides u c)
join_fit u c h = go (number_in (part_of c.after)) (number_in (part_of c.before)) (number_fit (part_of c.before))
  where
    negative : Bool
    negative = is_token char.minus c.sign

    left : Usb
    left = side (part_of c.before)

    go : (right left' : Option ℤ) → Fit left' →
        FitBound (elim right [
          | some r ↦ with_x bound_overflow left.s (if negative then left.x -ℤ r else left.x +ℤ r)
          | none ↦ elim left' [ some l ↦ ok (text (if negative then part_of (c.sign ∷ c.after) else part_of c.after) l) | none ↦ ok u ]
        ])
    go (some r) l f = with_x_fit bound_overflow left.s (if negative then left.x -ℤ r else left.x +ℤ r)
    go none (some l) f = f
    go none none f = h

bound_fit : (is : List Item) → FitBound (read_bound is)
unfolding read_bound
bound_fit is = go (cut_bound is)
  where
    go : (o : Option Cut) → FitBound (elim o [ none ↦ ok (text (part_of is) (pos 0)) | some c ↦ join_sides (text (part_of is) (pos 0)) c ])
    go none = zero_fits
    go (some c) = join_fit (text (part_of is) (pos 0)) c zero_fits

usb_fit : (is : List Item) → FitBound (parse_usb is)
unfolding parse_usb
usb_fit [] = tt
usb_fit (i ∷ j ∷ is) = tt
usb_fit (i ∷ []) = go (is_group i) (eqb i.kind kinds.parenthesis)
  where
    go : (t u : Bool) → FitBound (elim t [ true ↦ need u not_one_token >>= (λ _. read_bound (items i.inside_at i.inside)) | false ↦ read_bound (i ∷ []) ])
    go true true = bound_fit (items i.inside_at i.inside)
    go true false = tt
    go false u = bound_fit (i ∷ [])

start_fit : (is : List Item) → FitBound (parse_start is)
start_fit is = either FitBound (is_empty is) zero_fits (usb_fit is)

pub simplify_fit : (u : Usb) → fits128 u.x ≡ true → FitBound (simplify_usb u)
unfolding simplify_usb
simplify_fit u h = either FitBound (is_empty u.s.bytes) h (go (try_parse u.s.bytes))
  where
    go : (o : Option ℤ) → FitBound (elim o [ none ↦ ok u | some v ↦ with_x overflow no_text (u.x +ℤ v) ])
    go none = h
    go (some v) = with_x_fit overflow no_text (u.x +ℤ v)

-- ── Ranges ──

abbrev pub FitRange : Result (Option Usbr) → Type 0
FitRange (ok none) = Unit
FitRange (ok (some r)) = fits128 r.start.x ≡ true
FitRange (refused q) = Unit

through : {A : Type 0} (Q : Result A → Type 0) (m : Result A) (k : A → Result (Option Usbr)) → Q m → ((a : A) → Q (ok a) → FitRange (k a)) → FitRange (m >>= k)
through Q (ok a) k q h = h a q
through Q (refused e) k q h = tt

pub range_fit : (is : List Item) → FitRange (parse_range is)
unfolding parse_range
range_fit [] = tt
range_fit (i ∷ is) = through (λ _. Unit) (scan_dots (i ∷ is)) _ tt (λ st _. go st.inclusive st.found)
  where
    ends : Bool → ℕ × ℕ → Usb → Result (Option Usbr)
    ends inclusive f s = parse_end inclusive (drop f.1 (i ∷ is)) >>= λ e. ok (some (record { start = s; «end» = e }))

    go : (inclusive : Bool) (o : Option (ℕ × ℕ)) → FitRange (elim o [ none ↦ ok none | some f ↦ parse_start (take f.0 (i ∷ is)) >>= ends inclusive f ])
    go inclusive none = tt
    go inclusive (some f) =
        through FitBound (parse_start (take f.0 (i ∷ is))) (ends inclusive f) (start_fit (take f.0 (i ∷ is)))
        (λ s q. through (λ _. Unit) (parse_end inclusive (drop f.1 (i ∷ is))) (λ e. ok (some (record { start = s; «end» = e }))) tt (λ e _. q))
