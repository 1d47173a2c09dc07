-- What a scan leaves: places in the run, and the range that they give.
use Rattle.std.specs.Prelude as Std
use Rattle.std.specs.Prelude.{Some, None, Err, ◌+◌, ◌-◌, ◌∷◌}
use Rattle.std.proofs.Common.{◌≡◌, ◌<◌, ◌≤◌, sym, refl, ap, ◌∙◌, subst, add-zero, zero-add, arith, eqb-true}
use Rattle.definition.specs.Prelude.{ℕ, suc, Bool, true, false, Option, none, some, List, [], length, eqb}
use Rattle.definition.specs.Basics.{Result, ok, refused, refusal_of, ◌>>=◌}
use Rattle.definition.specs.Text.{Item, is_token}
use Rattle.definition.specs.Ranges.{Usbr, Scan, find, scan_step, scan_from, scan_dots, parse_range}
use Rattle.errors.specs.Reasons.{number}
use Rattle.errors.specs.Reasoned.{reasoned}
use Rattle.errors.specs.declared.reasons.Reason.{Reason}
use Rattle.laws.specs.Tests.{by_test}
use Rattle.stages.specs.token_tree.Laid.{place_of}
use Rattle.stages.specs.ranges.Dots.{cut_by, cut_of, dots_in, ranged_by}
use Rattle.stages.specs.declared.token_tree.types.Tree.{Tree}
use Rattle.stages.specs.declared.ranges.scan.Cut.{Cut}
use Rattle.stages.proofs.Cases.{never}

pub record Between (n : ℕ) (f : ℕ × ℕ) : Type 0 where
  pub below : f.0 < n
  pub most : f.1 ≤ n
  pub order : f.0 ≤ f.1

abbrev Placed : ℕ → Option (ℕ × ℕ) → Type 0
Placed n none = Unit
Placed n (some f) = Between n f

-- places found lie in the run
abbrev Fine : ℕ → Result Scan → Type 0
Fine n (ok st) = (st.dots ≤ n) × Placed n st.found
Fine n (refused q) = Unit

placed_more : (n : ℕ) (o : Option (ℕ × ℕ)) → Placed n o → Placed (suc n) o
placed_more n none h = tt
placed_more n (some f) h = record { below = omega (arith, h.below); most = omega (arith, h.most); order = h.order }

find_fine : (n lo hi : ℕ) (o : Option (ℕ × ℕ)) (d : ℕ) (t b : Bool) → lo < n → hi ≤ n → lo ≤ hi
    → Fine n (find (record { dots = d; found = o; inclusive = t }) lo hi b)
find_fine n lo hi none d t b p q r = (omega arith, record { below = p; most = q; order = r })
find_fine n lo hi (some f) d t b p q r = tt

step_fine : (n : ℕ) (i : Item) (st : Scan) → Fine n (ok st) → Fine (suc n) (scan_step n i st)
step_fine n i st h =
    by_test (is_token 46 i)
    (λ q. rw q (by_test (eqb st.dots 2) (λ k. rw k tt) (λ k. rw k (omega (arith, h.0), placed_more n st.found h.1))))
    (λ q. rw q (by_test (eqb st.dots 2)
    (λ k. let z = eqb-true st.dots 2 k in let l = h.0 in rw k (by_test (is_token 61 i)
    (λ j. rw j (find_fine (suc n) (n - 2) (n + 1) st.found st.dots st.inclusive true (omega arith) (omega arith) (omega arith)))
    (λ j. rw j (find_fine (suc n) (n - 2) n st.found st.dots st.inclusive false (omega arith) (omega arith) (omega arith)))))
    (λ k. rw k (omega arith, placed_more n st.found h.1))))

scan_fine : (n : ℕ) (rest : List Item) (st : Scan) → Fine n (ok st) → Fine (n + length rest) (scan_from n rest st)
unfolding scan_from
scan_fine n [] st h =
    rw (add-zero n) (by_test (eqb st.dots 2)
    (λ k. let z = eqb-true st.dots 2 k in let l = h.0 in
    rw k (find_fine n (n - 2) n st.found st.dots st.inclusive false (omega (arith, z, l)) (omega arith) (omega arith)))
    (λ k. rw k h))
scan_fine n (i ∷ rest) st h = go (scan_step n i st) (step_fine n i st h) (λ u f. scan_fine (suc n) rest u f)
  where
    go : (r : Result Scan) → Fine (suc n) r → ((u : Scan) → Fine (suc n) (ok u) → Fine (suc n + length rest) (scan_from (suc n) rest u))
        → Fine (n + suc (length rest)) (r >>= scan_from (suc n) rest)
    go (refused q) f k = f
    go (ok u) f k = subst (λ x. Fine x (scan_from (suc n) rest u)) (let z : suc n + length rest ≡ n + suc (length rest) = omega arith in z) (k u f)

-- ---- what parse_range does with the scan's answer

abbrev of_scan : List Item → Scan → Result (Option Usbr)
of_scan is st = elim st.found [ none ↦ ok none | some f ↦ ranged_by f.0 f.1 st.inclusive is ]

range_scanned : (i : Item) (is : List Item) → parse_range (i ∷ is) ≡ (scan_dots (i ∷ is) >>= of_scan (i ∷ is))
unfolding parse_range
range_scanned i is = refl

ok_is : {A : Type 0} {a b : A} → ok a ≡ ok b → a ≡ b
ok_is e = cc

scanned : (is : List Item) → 1 ≤ length is → parse_range is ≡ (scan_dots is >>= of_scan is)
scanned [] n = absurd (omega (arith, n))
scanned (i ∷ is) n = range_scanned i is

module _ (image : List ℕ) (t : Tree) (r : ℕ) (is : List Item) (some_items : 1 ≤ length is) where
  abbrev cut_in : Result Scan → Result (Std.Option Cut)
  cut_in m = m >>= λ st. ok (cut_of image t r st.found st.inclusive)

  pub dots_refused : (n : Reason) → reasoned {A = Std.Option Cut} (Err n) ≡ dots_in image t r is → refused (refusal_of (number n) 0 0) ≡ parse_range is
  dots_refused n e = go (scan_dots is) e ∙ sym (scanned is some_items)
    where
      go : (m : Result Scan) → reasoned {A = Std.Option Cut} (Err n) ≡ cut_in m → refused (refusal_of (number n) 0 0) ≡ (m >>= of_scan is)
      go (refused v) e = cc
      go (ok st) e = never e

  pub dots_none : ok None ≡ dots_in image t r is → ok none ≡ parse_range is
  dots_none e = go (scan_dots is) e ∙ sym (scanned is some_items)
    where
      found : (st : Scan) (o : Option (ℕ × ℕ)) → None ≡ cut_of image t r o st.inclusive
          → ◌≡◌ {A = Result (Option Usbr)} (ok none) (elim o [ none ↦ ok none | some f ↦ ranged_by f.0 f.1 st.inclusive is ])
      found st none e = refl
      found st (some f) e = cc

      go : (m : Result Scan) → ok None ≡ cut_in m → ok none ≡ (m >>= of_scan is)
      go (refused v) e = never (sym e)
      go (ok st) e = found st st.found (ok_is e)

  module _ (d : Cut) where
    -- dots found, from item lo up to item hi
    pub record RangeCut : Type 0 where
      pub places : ℕ × ℕ
      pub lo : d.lo.0 ≡ place_of image t r places.0
      pub hi : d.hi.0 ≡ place_of image t r places.1
      pub between : Between (length is) places
      pub result : parse_range is ≡ ranged_by places.0 places.1 d.inclusive is

    pub dots_cut : ok (Some d) ≡ dots_in image t r is → RangeCut
    dots_cut e =
        go (scan_dots is) refl (rw zero-add at (scan_fine 0 is (record { dots = 0; found = none; inclusive = false }) (omega arith, tt))) e
      where
        go : (m : Result Scan) → scan_dots is ≡ m → Fine (length is) m → ok (Some d) ≡ cut_in m → RangeCut
        go (refused v) q f e = never (sym e)
        go (ok st) q f e = found st.found refl f.1 (ok_is e)
          where
            found : (o : Option (ℕ × ℕ)) → st.found ≡ o → Placed (length is) o → Some d ≡ cut_of image t r o st.inclusive → RangeCut
            found none g p e = let z : ◌≡◌ {A = ℕ} 0 1 = cc in absurd (omega arith)
            found (some w) g p e =
                let same : d ≡ cut_by (place_of image t r w.0) (place_of image t r w.1) st.inclusive = cc in
                record {
                  places = w;
                  lo = ap (λ (x : Cut). x.lo.0) same;
                  hi = ap (λ (x : Cut). x.hi.0) same;
                  between = p;
                  result = scanned is some_items ∙ ap (λ x. x >>= of_scan is) q
                      ∙ rw g (ap (λ x. ranged_by w.0 w.1 x is) (sym (ap (λ (x : Cut). x.inclusive) same)));
                }
