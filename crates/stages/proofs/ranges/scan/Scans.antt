-- The scan for dots: one step, its end, and what the loop keeps.
use Rattle.std.specs.Prelude as Std
use Rattle.std.specs.Prelude.{None, Ok, Err, ◌+◌, ◌-◌, ◌∷◌, ◌++◌, if◌then◌else◌}
use Rattle.std.proofs.Common.{◌≡◌, ◌<◌, ◌≤◌, sym, refl, ap, ◌∙◌, append_assoc, add-one, arith, length-append}
use borrow.Author.Tests.{eqb-false}
use Rattle.definition.specs.Prelude.{ℕ, zero, suc, Bool, true, false, Option, none, some, List, [], length, eqb}
use Rattle.definition.specs.Basics.{Result, ok, refused, refusal_of, ◌>>=◌}
use Rattle.definition.specs.Text.{Item, is_token}
use Rattle.definition.specs.Ranges.{Scan, find, scan_step, scan_from, scan_dots}
use Rattle.laws.specs.Tests.{by_test}
use Rattle.stages.specs.token_tree.Laid.{Laid, place_of}
use Rattle.stages.specs.token_tree.Table.{skip_in, single_of, start_or}
use Rattle.stages.specs.ranges.Dots.{dots_by, found_by, dotted_by, undotted_by, scanned_by, ended_by, cut_of, lead_of, dots_of, dots_in}
use Rattle.stages.specs.declared.token_tree.types.Tree.{Tree}
use Rattle.errors.specs.declared.reasons.Reason.{Reason}
use Rattle.errors.specs.Reasoned.{reasoned}
use Rattle.stages.specs.declared.ranges.scan.Cut.{Cut}
use Rattle.stages.specs.declared.ranges.scan.Dots.{Dots}
use Rattle.stages.specs.declared.ranges.scan.Lead.TheVariants as Leads
use Rattle.stages.proofs.Cases.{never}
use Rattle.stages.proofs.token_tree.Places.{place_first, place_suc, laid_none, laid_next, laid_from}

abbrev state_of : ℕ → Option (ℕ × ℕ) → Bool → Scan
state_of d o b = record { dots = d; found = o; inclusive = b }

module _ (image : List ℕ) (t : Tree) (e : ℕ) where
  -- the definition's state before item n as the code's, and what it found
  abbrev moved : ℕ → Result Scan → Result Dots
  moved n r = r >>= λ st. ok (dots_of image t e n st)

  abbrev cut_in : Result Dots → Result (Std.Option Cut)
  cut_in r = r >>= λ d. ok d.cut

  cut_is : (n : ℕ) (r : Result Scan) → cut_in (moved n r) ≡ (r >>= λ st. ok (cut_of image t e st.found st.inclusive))
  cut_is n (ok st) = refl
  cut_is n (refused q) = refl

  -- dots found: a second is refused
  found_is : (n k : ℕ) (o : Option (ℕ × ℕ)) (i b : Bool) (hi m : ℕ) → hi ≡ place_of image t e m
      → reasoned (found_by (cut_of image t e o i) (place_of image t e (n - 2)) hi b) ≡ moved k (find (state_of 2 o i) (n - 2) m b)
  found_is n k none i b hi m q = rw q refl
  found_is n k (some f) i b hi m q = refl

  dotted_is : (n d : ℕ) (o : Option (ℕ × ℕ)) (i : Bool) → d ≤ 2
      → reasoned (dotted_by (lead_of d (place_of image t e (n - d))) (cut_of image t e o i) (place_of image t e n))
      ≡ moved (suc n) (if eqb d 2 then refused (refusal_of 14 0 0) else ok (state_of (suc d) o i))
  dotted_is n zero o i few = let s : suc n - 1 ≡ n = omega arith in rw s refl
  dotted_is n (suc zero) o i few = let s : suc n - 2 ≡ n - 1 = omega arith in rw s refl
  dotted_is n (suc (suc zero)) o i few = refl
  dotted_is n (suc (suc (suc d))) o i few = absurd (omega (arith, few))

  -- at an item that is no dot: behind two dots it is `=` or not
  abbrev find_at : ℕ → Scan → Bool → Result Scan
  find_at n st b = if b then find st (n - 2) (n + 1) true else find st (n - 2) n false

  undotted_is : (n d : ℕ) (o : Option (ℕ × ℕ)) (i b : Bool) → d ≤ 2
      → reasoned (undotted_by (lead_of d (place_of image t e (n - d))) (cut_of image t e o i) (place_of image t e n) (place_of image t e (suc n)) b)
      ≡ moved (suc n) (if eqb d 2 then find_at n (state_of d o i) b else ok (state_of 0 o i))
  undotted_is n zero o i b few = refl
  undotted_is n (suc zero) o i b few = refl
  undotted_is n (suc (suc zero)) o i true few = found_is n (suc n) o i true (place_of image t e (suc n)) (n + 1) (ap (place_of image t e) (sym (add-one n)))
  undotted_is n (suc (suc zero)) o i false few = found_is n (suc n) o i false (place_of image t e n) n refl
  undotted_is n (suc (suc (suc d))) o i b few = absurd (omega (arith, few))

  -- one step is the definition's
  step_is : (n : ℕ) (st : Scan) (item : Item) (b : ℕ) → st.dots ≤ 2 → is_token 46 item ≡ eqb b 46 → is_token 61 item ≡ eqb b 61
      → reasoned (scanned_by (dots_of image t e n st) (place_of image t e n) (place_of image t e (suc n)) b) ≡ moved (suc n) (scan_step n item st)
  step_is n st item b few f g =
      rw (f, g) (by_test (eqb b 46) (λ q. rw q (dotted_is n st.dots st.found st.inclusive few))
      (λ q. rw q (undotted_is n st.dots st.found st.inclusive (eqb b 61) few)))

  -- and so is the end
  end_of : (n d : ℕ) (o : Option (ℕ × ℕ)) (i : Bool) (stop : ℕ) → d ≤ 2 → stop ≡ place_of image t e n
      → reasoned (ended_by (dots_of image t e n (state_of d o i)) stop) ≡ moved n (scan_from n [] (state_of d o i))
  unfolding scan_from
  end_of n zero o i stop few q = refl
  end_of n (suc zero) o i stop few q = refl
  end_of n (suc (suc zero)) o i stop few q = found_is n n o i false stop n q
  end_of n (suc (suc (suc d))) o i stop few q = absurd (omega (arith, few))

  end_is : (n : ℕ) (st : Scan) (stop : ℕ) → st.dots ≤ 2 → stop ≡ place_of image t e n
      → reasoned (ended_by (dots_of image t e n st) stop) ≡ moved n (scan_from n [] st)
  end_is n st stop few q = end_of n st.dots st.found st.inclusive stop few q

-- the dots before an item are two at most
abbrev Few : Result Scan → Type 0
Few (ok st) = st.dots ≤ 2
Few (refused q) = Unit

find_few : (st : Scan) (lo hi : ℕ) (b : Bool) → Few (find st lo hi b)
find_few st lo hi b = go st.found
  where
    go : (o : Option (ℕ × ℕ)) → Few (elim o [ none ↦ ok (state_of 0 (some (lo, hi)) b) | some f ↦ refused (refusal_of 13 0 0) ])
    go none = omega arith
    go (some f) = tt

step_few : (n : ℕ) (i : Item) (st : Scan) → st.dots ≤ 2 → Few (scan_step n i st)
step_few n i st few =
    by_test (is_token 46 i)
    (λ q. rw q (by_test (eqb st.dots 2) (λ h. rw h tt) (λ h. rw h (let z = eqb-false st.dots 2 h in omega (arith, z, few)))))
    (λ q. rw q (by_test (eqb st.dots 2)
    (λ h. rw h (by_test (is_token 61 i) (λ k. rw k (find_few st (n - 2) (n + 1) true)) (λ k. rw k (find_few st (n - 2) n false))))
    (λ h. rw h (omega arith))))

-- ---- what the loop keeps

module _ (image : List ℕ) (t : Tree) (base stop tail e : ℕ) where
  pub record Scanning (is : List Item) (d : Dots) (at s : ℕ) : Type 0 where
    pub passed : List Item
    pub rest : List Item
    pub st : Scan
    pub parts : is ≡ passed ++ rest
    pub here : at ≡ place_of image t e (length passed)
    pub laid : Laid image t base stop tail at s rest
    pub state : d ≡ dots_of image t e (length passed) st
    pub few : st.dots ≤ 2
    pub result : scan_dots is ≡ scan_from (length passed) rest st

  pub scanning_start : (s u : ℕ) (is : List Item) (d : Dots) → d ≡ dots_by Leads.Nothing None → u ≡ start_or image t e stop tail → Laid image t base stop tail e s is
      → Scanning is d e u
  scanning_start s u is d p q h =
      record {
        passed = [];
        rest = is;
        st = state_of 0 none false;
        parts = refl;
        here = sym (place_first image t e);
        laid = laid_from image t base stop tail e s u is q h;
        state = p;
        few = omega arith;
        result = refl;
      }

  -- at the end of the run
  pub scanning_end : (is : List Item) (d : Dots) (at s : ℕ) (q : Std.Result Dots Reason) → Scanning is d at s → stop ≤ at → q ≡ ended_by d stop
      → cut_in image t e (reasoned q) ≡ dots_in image t e is
  scanning_end is d at s q h l eq =
      let (z, k) = laid_none image t base stop tail at s h.rest l h.laid in
      let n : ℕ = length h.passed in
      ap (λ x. cut_in image t e (reasoned x)) (eq ∙ ap (λ x. ended_by x stop) h.state)
      ∙ ap (cut_in image t e) (end_is image t e n h.st stop h.few (sym k ∙ h.here)
      ∙ ap (moved image t e n) (ap (λ r. scan_from n r h.st) (sym z) ∙ sym h.result))
      ∙ cut_is image t e n (scan_dots is)

  scan_cons : (n : ℕ) (i : Item) (rest : List Item) (st : Scan) → scan_from n (i ∷ rest) st ≡ (scan_step n i st >>= scan_from (suc n) rest)
  unfolding scan_from
  scan_cons n i rest st = refl

  -- after one item: the scan goes on, or has ended with a refusal
  abbrev pub After : List Item → Std.Result Dots Reason → ℕ → ℕ → Type 0
  After is (Ok d) at s = Scanning is d at s
  After is (Err r) at s = reasoned {A = Std.Option Cut} (Err r) ≡ dots_in image t e is

  go_on : (is passed : List Item) (i : Item) (rest : List Item) (at s : ℕ) (q : Std.Result Dots Reason) (r : Result Scan)
      → is ≡ passed ++ (i ∷ rest) → at ≡ place_of image t e (suc (length passed)) → Laid image t base stop tail at s rest
      → scan_dots is ≡ (r >>= scan_from (suc (length passed)) rest) → reasoned q ≡ moved image t e (suc (length passed)) r → Few r → After is q at s
  go_on is passed i rest at s (Err v) (refused w) p h l k f g =
      ap (cut_in image t e) f ∙ ap (λ (m : Result Scan). m >>= λ st. ok (cut_of image t e st.found st.inclusive)) (sym k)
  go_on is passed i rest at s (Err v) (ok st) p h l k f g = never f
  go_on is passed i rest at s (Ok d) (refused w) p h l k f g = never (sym f)
  go_on is passed i rest at s (Ok d) (ok st) p h l k f g =
      let n : length (passed ++ (i ∷ [])) ≡ suc (length passed) = length-append passed (i ∷ []) ∙ add-one (length passed) in
      let same : d ≡ dots_of image t e (suc (length passed)) st = cc in
      record {
        passed = passed ++ (i ∷ []);
        rest = rest;
        st = st;
        parts = p ∙ sym (append_assoc passed (i ∷ []) rest);
        here = rw n h;
        laid = l;
        state = rw n same;
        few = g;
        result = rw n k;
      }

  pub scanning_next : (is : List Item) (d : Dots) (q : Std.Result Dots Reason) (at next s u b : ℕ) → Scanning is d at s → at < stop → next ≡ at + skip_in image t at
      → u ≡ start_or image t next stop tail → b ≡ single_of image (t.text + s) (u - s) → q ≡ scanned_by d at next b → After is q next u
  scanning_next is d q at next s u b h l en et eb eq =
      let f = laid_next image t base stop tail at s next u h.rest l en et h.laid in
      let i : Item = f.item in
      let n : ℕ = length h.passed in
      let pl : at ≡ place_of image t e n = h.here in
      let pn : next ≡ place_of image t e (suc n) = en ∙ ap (λ (x : ℕ). x + skip_in image t x) pl ∙ sym (place_suc image t e n) in
      go_on is h.passed i f.rest next u q (scan_step n i h.st) (h.parts ∙ ap (λ r. h.passed ++ r) f.parts) pn f.laid
      (h.result ∙ ap (λ r. scan_from n r h.st) f.parts ∙ scan_cons n i f.rest h.st)
      (ap reasoned (eq ∙ ap (λ x. scanned_by x at next b) h.state ∙ ap (λ x. scanned_by (dots_of image t e n h.st) x next b) pl
      ∙ ap (λ x. scanned_by (dots_of image t e n h.st) (place_of image t e n) x b) pn)
      ∙ step_is image t e n h.st i b h.few (f.token 46 b (omega arith) eb) (f.token 61 b (omega arith) eb))
      (step_few n i h.st h.few)
