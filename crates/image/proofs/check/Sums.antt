-- 5: entries one by one, each law one turn of a loop: what is still to come, after what was seen.
use Rattle.std.specs.Prelude.{◌+◌, ◌*◌, ◌&&◌, ◌∷◌}
use mathlib.Core.Path.{◌≡◌, refl, sym, ap, ◌∙◌}
use native.Mathlib.Nat.{add-zero, zero-add, add_assoc}
use native.Mathlib.Numerals.{add-one}
use native.Mathlib.Omega.{arith}
use Prim.Native.Nat.{◌<◌, ◌≤◌, ◌-◌}
use Rattle.definition.specs.Prelude.{ℕ, suc, Bool, true, false, List, [], map, leb, eqb}
use Rattle.definition.specs.Basics.{sum, all, tab}
use Rattle.definition.specs.Image.{u32_at, bytes_for, counts, tables, component_count, record_count, literal_width}
use Rattle.definition.specs.Check.{spares_zero, entries_right}
use mathlib.Core.Bool.{and_assoc, and-true}
use Rattle.image.specs.check.Parts.{sizes_right, widths_right, spare_zero}

-- the first of a table, and what is still to come
pub tab_next : {A : Type 0} (g : ℕ → A) (k n : ℕ) → k < n → tab g k (n - k) ≡ g k ∷ tab g (k + 1) (n - (k + 1))
unfolding tab
tab_next g k n l =
    let e : n - k ≡ suc (n - (k + 1)) = omega arith in
    rw (e, add-one k)

pub tab_end : {A : Type 0} (g : ℕ → A) (k n : ℕ) → n ≤ k → tab g k (n - k) ≡ []
unfolding tab
tab_end g k n l =
    let e : n - k ≡ 0 = omega arith in
    rw e

both_next : (a p q e : Bool) → (a && ((p && q) && e)) ≡ ((a && p) && (q && e))
both_next true true q e = refl
both_next true false q e = refl
both_next false p q e = refl

sizes_cons : (right : Bool) (s size : ℕ) (sizes : List ℕ) (total : ℕ)
    → (right && sizes_right s (size ∷ sizes) total) ≡ ((right && leb 1 size) && sizes_right (s + size) sizes total)
unfolding sum all
sizes_cons right s size sizes total = rw (← add_assoc s size) (both_next right (leb 1 size) (all (leb 1) sizes) (eqb (s + size + sum sizes) total))

pub sizes_end : (right : Bool) (g : ℕ → ℕ) (s k n total : ℕ) → n ≤ k → (right && sizes_right s (tab g k (n - k)) total) ≡ (right && eqb s total)
unfolding sum all
sizes_end right g s k n total l = rw (tab_end g k n l, add-zero)

pub sizes_again : (right : Bool) (g : ℕ → ℕ) (s k n size total : ℕ) (whole : Bool) → k < n → size ≡ g k
    → (right && sizes_right s (tab g k (n - k)) total) ≡ whole
    → ((right && leb 1 size) && sizes_right (s + size) (tab g (k + 1) (n - (k + 1))) total) ≡ whole
sizes_again right g s k n size total whole l e inv =
    rw (e, ← sizes_cons right s (g k) (tab g (k + 1) (n - (k + 1))) total, ← tab_next g k n l) inv

spares_next : (a p q e s z : Bool) → (a && (((p && q) && e) && (s && z))) ≡ ((a && (p && s)) && ((q && e) && z))
spares_next false p q e s z = refl
spares_next true false q e s z = refl
spares_next true true q e true z = refl
spares_next true true false e false z = refl
spares_next true true true true false z = refl
spares_next true true true false false z = refl

widths_cons : (right : Bool) (image : List ℕ) (l w : ℕ) (ws : List ℕ) (total : ℕ)
    → (right && widths_right image l (w ∷ ws) total)
    ≡ ((right && (leb w 4096 && spare_zero image ((tables image).literals + l) w)) && widths_right image (l + bytes_for w) ws total)
unfolding sum all spares_zero
widths_cons right image l w ws total =
    rw (← add_assoc l (bytes_for w))
    (spares_next right (leb w 4096) (all (λ v. leb v 4096) ws) (eqb (l + bytes_for w + sum (map bytes_for ws)) total)
    (spare_zero image ((tables image).literals + l) w) (spares_zero image (l + bytes_for w) ws))

pub widths_end : (right : Bool) (image : List ℕ) (g : ℕ → ℕ) (l k n total : ℕ) → n ≤ k → (right && widths_right image l (tab g k (n - k)) total) ≡ (right && eqb l total)
unfolding sum all spares_zero
widths_end right image g l k n total h = rw (tab_end g k n h, add-zero) (ap (λ (t : Bool). right && t) (and-true (eqb l total)))

pub widths_again : (right spare : Bool) (image : List ℕ) (g : ℕ → ℕ) (l k n w b literals total : ℕ) (whole : Bool) → k < n → w ≡ g k
    → b ≡ bytes_for w → literals ≡ (tables image).literals → spare ≡ spare_zero image (literals + l) w
    → (right && widths_right image l (tab g k (n - k)) total) ≡ whole
    → ((right && (leb w 4096 && spare)) && widths_right image (l + b) (tab g (k + 1) (n - (k + 1))) total) ≡ whole
widths_again right spare image g l k n w b literals total whole h e d t s inv =
    let cons = widths_cons right image l (g k) (tab g (k + 1) (n - (k + 1))) total in
    rw (d, s, t, e) (sym (ap (λ (ws : List ℕ). right && widths_right image l ws total) (tab_next g k n h) ∙ cons) ∙ inv)

regroup : (a b c d e f g : Bool) → (((a && b) && (c && d)) && ((e && f) && g)) ≡ ((((((a && b) && c) && d) && e) && f) && g)
regroup a b c d e f g = rw (← and_assoc (a && b) c d, ← and_assoc ((a && b) && c && d) (e && f) g, ← and_assoc ((a && b) && c && d) e f)

grouped : (image sizes lengths widths : List ℕ) (n r b : ℕ)
    → ((sizes_right 0 sizes n && sizes_right 0 lengths r) && widths_right image 0 widths b)
    ≡ (all (leb 1) sizes && eqb (sum sizes) n && all (leb 1) lengths && eqb (sum lengths) r && all (λ w. leb w 4096) widths && eqb (sum (map bytes_for widths)) b
    && spares_zero image 0 widths)
grouped image sizes lengths widths n r b =
    rw (zero-add (sum sizes), zero-add (sum lengths), zero-add (sum (map bytes_for widths)))
    (regroup (all (leb 1) sizes) (eqb (sum sizes) n) (all (leb 1) lengths) (eqb (sum lengths) r) (all (λ w. leb w 4096) widths) (eqb (sum (map bytes_for widths)) b)
    (spares_zero image 0 widths))

pub entries_whole : (image : List ℕ) (h : record { c : ℕ; n : ℕ; r : ℕ; t : ℕ; b : ℕ })
    (at : record { concatenations : ℕ; components : ℕ; records : ℕ; text : ℕ; literals : ℕ; stop : ℕ })
    → h ≡ counts image → at ≡ tables image
    → ((sizes_right 0 (tab (λ i. u32_at image (40 + 4 * i)) 0 h.c) h.n && sizes_right 0 (tab (λ i. u32_at image (at.components + 8 * i)) 0 h.n) h.r)
    && widths_right image 0 (tab (λ i. u32_at image (at.components + 8 * i + 4)) 0 h.n) h.b)
    ≡ entries_right image
entries_whole image h at e q =
    let k = counts image in
    rw (e, q) (grouped image (tab (component_count image) 0 k.c) (tab (record_count image) 0 k.n) (tab (literal_width image) 0 k.n) k.n k.r k.b)
