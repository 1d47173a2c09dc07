-- Stage 1 of a literal with fixed bounds, and of what has a bracket that is read as two numbers.
use Rattle.std.specs.Prelude.{◌≡◌, refl, ◌≤◌, ◌<◌, ◌∷◌, ◌+ℤ◌, if◌then◌else◌}
use Rattle.std.proofs.Common.{sym, ap, ap₂, ◌∙◌, subst}
use Rattle.std.proofs.lemmas.Bool.{false≢true, not-true}
use Rattle.std.proofs.Math.Option.{none-ne-some}
use Rattle.definition.specs.Prelude.{ℕ, Bool, true, false, not, Option, none, some, List, [], length, ℤ, pos, negsuc}
use Rattle.definition.specs.Basics.{Result, ok, refused, ◌>>=◌, is_empty}
use Rattle.definition.specs.Numbers.{fits128, try_parse}
use Rattle.definition.specs.Refusals.{need, overflow, nothing_before_range, no_literal}
use Rattle.definition.specs.Tree.{Forest, flat}
use Rattle.definition.specs.Text.{no_text, Item, items, part_of}
use Rattle.definition.specs.Ranges.{Usb, Usbr, val, text, with_x, unbounded, parse_range, static_val}
use Rattle.definition.specs.Component.{literal, variable, filler, Component, is_literal, typed, parse_component, simplify_usb, simplify}
use Rattle.cutting.specs.Statement.{fixed_bound, fixed_range, reads_as}
use Rattle.cutting_proof.specs.component.Statement.{cut_to}
use Rattle.laws.specs.Results.{bind_ok, need_then}
use Rattle.cutting_proof.specs.component.Fitting.{FitRange, zero_fits, range_fit}
use Rattle.cutting_proof.specs.component.Fixed.{fixed_cut}
use Rattle.cutting_proof.specs.component.Offsets.{bare_usb, bare_range, in_result, in_option, range_in, read_range, reads_anywhere}

-- ── A literal ──

-- the fixed bounds of a component, where it is a literal
abbrev pub fixed_of : Component → Option (ℕ × ℕ)
fixed_of c = elim c.c_type [ literal bits ↦ fixed_range (length bits) c.range | variable p ↦ none | filler ↦ none ]

pub record LiteralRead (mid : List Item) (bits : List ℕ) (c : Component) : Type 0 where
  pub begins : is_literal mid ≡ true
  pub wide : is_empty bits ≡ false
  pub range : Usbr
  pub fits : fits128 range.start.x ≡ true
  pub is : record { c_type = literal bits; range = range } ≡ c

-- no other component has fixed bounds
other : {G : Type 0} (c c' : Component) {ab : ℕ × ℕ} → ok c ≡ ok c' → fixed_of c ≡ none → fixed_of c' ≡ some ab → G
other c c' {ab} e n h = let i : c ≡ c' = cc in absurd (none-ne-some ab (sym n ∙ ap fixed_of i ∙ h))

typed_read : (mid : List Item) (bits : List ℕ) (r : Usbr) (c : Component) {ab : ℕ × ℕ} →
    fits128 r.start.x ≡ true → typed mid bits r ≡ ok c → fixed_of c ≡ some ab → LiteralRead mid bits c
typed_read mid bits r c f h b = go (is_literal mid) refl h
  where
    go : (t : Bool) → is_literal mid ≡ t →
        ◌≡◌ {A = Result Component}
        (if t then (need (not (is_empty bits)) no_literal >>= λ _. ok (record { c_type = literal bits; range = r })) else ok (record { c_type = variable (part_of mid); range = r }))
        (ok c) →
        LiteralRead mid bits c
    go true l h =
        let (w, e) = need_then (not (is_empty bits)) no_literal (ok (record { c_type = literal bits; range = r })) h in
        record { begins = l; wide = not-true (is_empty bits) w; range = r; fits = f; is = cc }
    go false l h = other (record { c_type = variable (part_of mid); range = r }) c h refl b

pub literal_read : (mid : List Item) (range : Option (List Item)) (bits : List ℕ) (c : Component) {ab : ℕ × ℕ} →
    parse_component mid range bits ≡ ok c → fixed_of c ≡ some ab → LiteralRead mid bits c
unfolding parse_component
literal_read mid (some is) bits c h b =
    let (_, h₁) = need_then (not (is_empty mid)) nothing_before_range _ h in
    let (r, p, q) = bind_ok (parse_range is) (λ r. typed mid bits (range_in is r)) h₁ in
    typed_read mid bits (range_in is r) c (fit r (subst FitRange p (range_fit is))) q b
  where
    fit : (r : Option Usbr) → FitRange (ok r) → fits128 (range_in is r).start.x ≡ true
    fit none f = zero_fits
    fit (some r) f = f
literal_read mid none bits c {ab} h b =
    let (_, h₁) = need_then (not (is_empty mid)) nothing_before_range _ h in
    let (r, _, q) = bind_ok (parse_range mid) open_read h₁ in
    go r q
  where
    open_read : Option Usbr → Result Component
    open_read r = elim r [ none ↦ typed mid bits unbounded | some r' ↦ ok (record { c_type = filler; range = r' }) ]

    go : (r : Option Usbr) → open_read r ≡ ok c → LiteralRead mid bits c
    go none q = typed_read mid bits unbounded c zero_fits q b
    go (some r) q = other (record { c_type = filler; range = r }) c q refl b

-- ── A bracket ──

-- the bounds of a range are fixed whatever the offsets of its texts
abbrev number_from : Result Usb → Option ℕ
number_from m = elim m [ refused q ↦ none | ok u ↦ elim (static_val u) [ none ↦ none | some z ↦ elim z [ pos n ↦ some n | negsuc n ↦ none ] ] ]

abbrev both_of : Option ℕ → Option ℕ → Option (ℕ × ℕ)
both_of o p = elim o [ none ↦ none | some a ↦ elim p [ none ↦ none | some b ↦ some (a, b) ] ]

bare_fixed_bound : (u : Usb) → fixed_bound (bare_usb u) ≡ fixed_bound u
unfolding simplify_usb
bare_fixed_bound u = go u.s.at u.s.bytes u.x
  where
    added : (at b : ℕ) (bs : List ℕ) (x : ℤ) → Option ℤ → Option ℕ
    added at b bs x o = number_from (elim o [ none ↦ ok (text (record { at = at; bytes = b ∷ bs }) x) | some v ↦ with_x overflow no_text (x +ℤ v) ])

    same : (at b : ℕ) (bs : List ℕ) (x : ℤ) (o : Option ℤ) → added 0 b bs x o ≡ added at b bs x o
    same at b bs x none = refl
    same at b bs x (some v) = refl

    go : (at : ℕ) (bytes : List ℕ) (x : ℤ) → fixed_bound (text (record { at = 0; bytes = bytes }) x) ≡ fixed_bound (text (record { at = at; bytes = bytes }) x)
    go at [] x = refl
    go at (b ∷ bs) x = same at b bs x (try_parse (b ∷ bs))

bare_fixed : (w : ℕ) (r : Usbr) → fixed_range w (bare_range r) ≡ fixed_range w r
bare_fixed w r = ap₂ both_of (bare_fixed_bound r.start) (ends r.«end»)
  where
    end_in : Option Usb → Usb
    end_in e = elim e [ none ↦ val (pos w) | some u ↦ u ]

    ends : (e : Option Usb) → fixed_bound (end_in (in_option bare_usb e)) ≡ fixed_bound (end_in e)
    ends none = refl
    ends (some e) = bare_fixed_bound e

reads_as_range : (w : ℕ) (f : Forest) {cd : ℕ × ℕ} → reads_as w f ≡ some cd → (r : Usbr) × (read_range (items 0 (flat f)) ≡ ok r) × (fixed_range w r ≡ some cd)
reads_as_range w f {cd} h = go (parse_range (items 0 (flat f))) h
  where
    go : (m : Result (Option Usbr)) → (elim m [ refused q ↦ none | ok r ↦ fixed_range w (range_in (items 0 (flat f)) r) ]) ≡ some cd →
        (r : Usbr) × ((m >>= λ r. ok (range_in (items 0 (flat f)) r)) ≡ ok r) × (fixed_range w r ≡ some cd)
    go (refused q) h = absurd (none-ne-some cd h)
    go (ok r) h = (range_in (items 0 (flat f)) r, refl, h)

bracket_range : (w at : ℕ) (f : Forest) {cd : ℕ × ℕ} → reads_as w f ≡ some cd → (r : Usbr) × (read_range (items at (flat f)) ≡ ok r) × (fixed_range w r ≡ some cd)
bracket_range w at f {cd} h =
    let (r, p, q) = reads_as_range w f h in
    go r q (read_range (items at (flat f))) (reads_anywhere at 0 (flat f) ∙ ap (in_result bare_range) p)
  where
    go : (r : Usbr) → fixed_range w r ≡ some cd → (m : Result Usbr) → in_result bare_range m ≡ ok (bare_range r) → (r : Usbr) × (m ≡ ok r) × (fixed_range w r ≡ some cd)
    go r q (refused w) e = (r, cc, q)
    go r q (ok r') e =
        let same : bare_range r' ≡ bare_range r = cc in
        (r', refl, sym (bare_fixed w r') ∙ ap (fixed_range w) same ∙ bare_fixed w r ∙ q)

-- what begins like a literal, with a bracket read as c and d
pub bracket_read : (mid : List Item) (bits : List ℕ) (at : ℕ) (f : Forest) (c d : ℕ) → is_literal mid ≡ true → is_empty bits ≡ false →
    reads_as (length bits) f ≡ some (c, d) → c < d → d ≤ length bits →
    (x : Component) × (parse_component mid (some (items at (flat f))) bits ≡ ok x) × (simplify x ≡ ok (cut_to bits c d))
unfolding parse_component
bracket_read [] bits at f c d l w r h k = absurd (false≢true l)
bracket_read (i ∷ mid) bits at f c d l w q h k =
    let is = items at (flat f) in
    let (r, p, b) = bracket_range (length bits) at f q in
    let (o, p₁, p₂) = bind_ok (parse_range is) (λ o. ok (range_in is o)) p in
    go o p₁ r p₂ b
  where
    typed_is : (r : Usbr) → typed (i ∷ mid) bits r ≡ ok (record { c_type = literal bits; range = r })
    typed_is r = rw (l, w)

    go : (o : Option Usbr) → parse_range (items at (flat f)) ≡ ok o → (r : Usbr) → ◌≡◌ {A = Result Usbr} (ok (range_in (items at (flat f)) o)) (ok r) →
        fixed_range (length bits) r ≡ some (c, d) →
        (x : Component) × ((parse_range (items at (flat f)) >>= λ o. typed (i ∷ mid) bits (range_in (items at (flat f)) o)) ≡ ok x) × (simplify x ≡ ok (cut_to bits c d))
    go o p r e b =
        let same : range_in (items at (flat f)) o ≡ r = cc in (
          record { c_type = literal bits; range = r },
          ap (λ m. m >>= λ o. typed (i ∷ mid) bits (range_in (items at (flat f)) o)) p ∙ ap (typed (i ∷ mid) bits) same ∙ typed_is r,
          fixed_cut bits r c d b h k,
        )
