-- The search for the signs: one step, its end, and what the loop keeps.
use Rattle.std.specs.Prelude as Std
use Rattle.std.specs.Prelude.{Some, None, ◌+◌, ◌-◌, ◌∷◌, ◌++◌, if◌then◌else◌}
use Rattle.std.specs.Option.{option_or}
use Rattle.std.proofs.Common.{◌≡◌, ◌<◌, ◌≤◌, sym, refl, ap, ◌∙◌, subst, append_assoc, add-one, arith, length-append, eq-eqb, ne_eqb, eqb-true}
use borrow.Author.Tests.{not-true}
use Rattle.definition.specs.Prelude.{ℕ, suc, Bool, true, false, not, Option, none, some, List, [], length, eqb}
use Rattle.definition.specs.Basics.{same_bytes}
use Rattle.definition.specs.Text.{Item, is_token, is_group}
use Rattle.definition.specs.Ranges.{Cut, cut_last, cut_pair, cut_bound, or_else}
use Rattle.laws.specs.Tests.{by_test, and_iff}
use Rattle.stages.specs.token_tree.Laid.{Stands, Laid, place_of}
use Rattle.stages.specs.token_tree.Table.{skip_in, single_of, start_or}
use Rattle.stages.specs.ranges.Signs.{record_at, paired_by, signed_by, cut_of, cut_place, signs_in}
use Rattle.stages.specs.declared.token_tree.types.Tree.{Tree}
use Rattle.stages.specs.declared.token_tree.types.PBind.{PBind}
use Rattle.stages.specs.declared.ranges.signs.Signs.{Signs}
use Rattle.stages.proofs.token_tree.Places.{place_first, place_suc, laid_none, laid_next, laid_from}
use Rattle.stages.proofs.ranges.signs.Cuts.{ahead, ahead_none, or_none, resume, Fresh, cut_here, last_step, pair_step, last_done, pair_done}

-- a minus before a place, and one that does not stand just before it
abbrev Low : Std.Option PBind → ℕ → Type 0
Low None at = Unit
Low (Some m) at = m.0 + 1 ≤ at

abbrev Far : Std.Option PBind → ℕ → Type 0
Far None at = Unit
Far (Some m) at = m.0 + 1 ≡ at → ⊥

low_far : (m : Std.Option PBind) (at next : ℕ) → at < next → Low m at → Far m next
low_far None at next l h = tt
low_far (Some m) at next l h = λ z. omega (arith, l, h, z)

low_later : (m : Std.Option PBind) (at next : ℕ) → at < next → Low m at → Low m next
low_later None at next l h = tt
low_later (Some m) at next l h = omega (arith, l, h)

module _ (image : List ℕ) (t : Tree) (e : ℕ) where
  -- the minus just passed, if it was one
  abbrev PrevIs : Std.Option PBind → ℕ → Option Cut → Type 0
  PrevIs m at none = Far m at
  PrevIs m at (some c) = (m ≡ Some (record_at (place_of image t e (length c.before)))) × (place_of image t e (length c.before) + 1 ≡ at)

-- the last item of a kind, from what was passed and what the rest gives
abbrev LastAt : ℕ → List Item → List Item → List Item → Option Cut → Type 0
LastAt c is passed rest best = cut_last (is_token c) is ≡ or_else (ahead passed (cut_last (is_token c) rest)) best

module _ (image : List ℕ) (t : Tree) (base stop tail e : ℕ) where
  pub record Signing (is : List Item) (g : Signs) (at s : ℕ) : Type 0 where
    pub passed : List Item
    pub rest : List Item
    pub plus : Option Cut
    pub pair : Option Cut
    pub minus : Option Cut
    pub prev : Option Cut
    pub parts : is ≡ passed ++ rest
    pub here : at ≡ place_of image t e (length passed)
    pub laid : Laid image t base stop tail at s rest
    pub plus_at : LastAt 43 is passed rest plus
    pub minus_at : LastAt 45 is passed rest minus
    pub pair_at : cut_pair is ≡ or_else pair (resume passed prev rest)
    pub fresh : Fresh passed rest prev
    pub plus_is : g.plus ≡ cut_place image t e plus
    pub pair_is : g.pair ≡ cut_place image t e pair
    pub minus_is : g.minus ≡ cut_place image t e minus
    pub prev_is : PrevIs image t e g.minus at prev
    pub low : Low g.minus at

first_last : (c : ℕ) (is : List Item) → cut_last (is_token c) is ≡ or_else (ahead [] (cut_last (is_token c) is)) none
first_last c is = sym (or_none (ahead [] (cut_last (is_token c) is)) ∙ ahead_none (cut_last (is_token c) is))

-- a token is one record
token_word : (c : ℕ) (i : Item) → is_token c i ≡ true → is_group i ≡ false
token_word c i h = not-true (is_group i) ((and_iff (not (is_group i)) (same_bytes i.part.bytes (c ∷ []))).0 h).0

-- what a step does to each sign
signed_plus : (g : Signs) (at b : ℕ) → (signed_by g at b).plus ≡ (if eqb b 43 then Some (record_at at) else g.plus)
signed_plus g at b = by_test (eqb b 43) (λ q. rw q refl) (λ q. rw q (by_test (eqb b 45) (λ k. rw k refl) (λ k. rw k refl)))

signed_minus : (g : Signs) (at b : ℕ) → (signed_by g at b).minus ≡ (if eqb b 45 then Some (record_at at) else g.minus)
signed_minus g at b =
    by_test (eqb b 43) (λ q. rw (eqb-true b 43 q) refl) (λ q. rw q (by_test (eqb b 45) (λ k. rw k refl) (λ k. rw k refl)))

signed_pair : (g : Signs) (at b : ℕ) → (signed_by g at b).pair ≡ (if eqb b 45 then paired_by g.pair g.minus at else g.pair)
signed_pair g at b =
    by_test (eqb b 43) (λ q. rw (eqb-true b 43 q) refl) (λ q. rw q (by_test (eqb b 45) (λ k. rw k refl) (λ k. rw k refl)))

module _ (image : List ℕ) (t : Tree) (e : ℕ) where
  -- the pair with a minus at a place
  pair_by : (pair minus : Std.Option PBind) (at : ℕ) (best prev : Option Cut) → pair ≡ cut_place image t e best → PrevIs image t e minus at prev
      → paired_by pair minus at ≡ cut_place image t e (or_else best prev)
  pair_by pair minus at (some b) prev p h = rw p refl
  pair_by pair None at none none p h = rw p refl
  pair_by pair (Some m) at none none p h = rw (p, ne_eqb (m.0 + 1) at h) refl
  pair_by pair minus at none (some c) p h = rw (p, h.0, eq-eqb (place_of image t e (length c.before) + 1) at h.1) refl

  -- the cut in code is the definition's
  pub cut_is : (is : List Item) → cut_of (signs_in image t e is) ≡ cut_place image t e (cut_bound is)
  cut_is is = go (cut_last (is_token 43) is) (cut_pair is) (cut_last (is_token 45) is)
    where
      go : (a b c : Option Cut) → option_or (option_or (cut_place image t e a) (cut_place image t e b)) (cut_place image t e c)
          ≡ cut_place image t e (or_else a (or_else b c))
      go (some a) b c = refl
      go none (some b) c = refl
      go none none c = refl

module _ (image : List ℕ) (t : Tree) (base stop tail e : ℕ) where
  pub signing_start : (s u : ℕ) (is : List Item) (g : Signs) → g ≡ record { plus = None; pair = None; minus = None } → u ≡ start_or image t e stop tail
      → Laid image t base stop tail e s is → Signing image t base stop tail e is g e u
  signing_start s u is g p q h =
      record {
        passed = [];
        rest = is;
        plus = none;
        pair = none;
        minus = none;
        prev = none;
        parts = refl;
        here = sym (place_first image t e);
        laid = laid_from image t base stop tail e s u is q h;
        plus_at = first_last 43 is;
        minus_at = first_last 45 is;
        pair_at = sym (ahead_none (cut_pair is));
        fresh = tt;
        plus_is = ap (λ (x : Signs). x.plus) p;
        pair_is = ap (λ (x : Signs). x.pair) p;
        minus_is = ap (λ (x : Signs). x.minus) p;
        prev_is = rw p tt;
        low = rw p tt;
      }

  -- at the end of the run
  pub signing_end : (is : List Item) (g : Signs) (at s : ℕ) → Signing image t base stop tail e is g at s → stop ≤ at → g ≡ signs_in image t e is
  signing_end is g at s h l =
      let (z, q) = laid_none image t base stop tail at s h.rest l h.laid in
      let a : cut_last (is_token 43) is ≡ h.plus = h.plus_at
      ∙ ap (λ r. or_else (ahead h.passed (cut_last (is_token 43) r)) h.plus) z ∙ last_done (is_token 43) h.passed h.plus in
      let b : cut_last (is_token 45) is ≡ h.minus = h.minus_at
      ∙ ap (λ r. or_else (ahead h.passed (cut_last (is_token 45) r)) h.minus) z ∙ last_done (is_token 45) h.passed h.minus in
      let d : cut_pair is ≡ h.pair = h.pair_at ∙ ap (λ r. or_else h.pair (resume h.passed h.prev r)) z ∙ pair_done h.passed h.pair h.prev in
      made g.plus _ g.pair _ g.minus _
      (h.plus_is ∙ ap (cut_place image t e) (sym a)) (h.pair_is ∙ ap (cut_place image t e) (sym d)) (h.minus_is ∙ ap (cut_place image t e) (sym b))
    where
      made : (a a' b b' c c' : Std.Option PBind) → a ≡ a' → b ≡ b' → c ≡ c'
          → ◌≡◌ {A = Signs} (record { plus = a; pair = b; minus = c }) (record { plus = a'; pair = b'; minus = c' })
      made a a' b b' c c' p q r = cc

  -- after an item: by what it is
  module _ (is : List Item) (g g' : Signs) (at next s u b : ℕ) (h : Signing image t base stop tail e is g at s) (l : at < stop)
      (en : next ≡ at + skip_in image t at) (et : u ≡ start_or image t next stop tail)
      (eb : b ≡ single_of image (t.text + s) (u - s)) (eg : g' ≡ signed_by g at b) where
    pub signing_next : Signing image t base stop tail e is g' next u
    signing_next =
        let f = laid_next image t base stop tail at s next u h.rest l en et h.laid in
        let i : Item = f.item in
        let n : ℕ = length h.passed in
        let pn : next ≡ place_of image t e (suc n) = en ∙ ap (λ (x : ℕ). x + skip_in image t x) h.here ∙ sym (place_suc image t e n) in
        go i f.rest f.parts f.stands pn f.laid (f.token 43 b (omega arith) eb) (f.token 45 b (omega arith) eb)
      where
        go : (i : Item) (rest : List Item) → h.rest ≡ i ∷ rest → Stands image t base stop at s i → next ≡ place_of image t e (suc (length h.passed))
            → Laid image t base stop tail next u rest → is_token 43 i ≡ eqb b 43 → is_token 45 i ≡ eqb b 45 → Signing image t base stop tail e is g' next u
        go i rest p st pn lt pt mt =
            let n : length (h.passed ++ (i ∷ [])) ≡ suc (length h.passed) = length-append h.passed (i ∷ []) ∙ add-one (length h.passed) in
            record {
              passed = h.passed ++ (i ∷ []);
              rest = rest;
              plus = if is_token 43 i then some (cut_here h.passed i rest) else h.plus;
              minus = if is_token 45 i then some (cut_here h.passed i rest) else h.minus;
              pair = or_else h.pair (if is_token 45 i then h.prev else none);
              prev = if is_token 45 i then some (cut_here h.passed i rest) else none;
              parts = h.parts ∙ ap (λ r. h.passed ++ r) p ∙ sym (append_assoc h.passed (i ∷ []) rest);
              here = rw n pn;
              laid = lt;
              plus_at = h.plus_at
                  ∙ ap (λ r. or_else (ahead h.passed (cut_last (is_token 43) r)) h.plus) p ∙ last_step (is_token 43) h.passed i rest h.plus;
              minus_at = h.minus_at
                  ∙ ap (λ r. or_else (ahead h.passed (cut_last (is_token 45) r)) h.minus) p ∙ last_step (is_token 45) h.passed i rest h.minus;
              pair_at = h.pair_at ∙ ap (λ r. or_else h.pair (resume h.passed h.prev r)) p
                  ∙ pair_step h.passed i rest h.pair h.prev (subst (λ r. Fresh h.passed r h.prev) p h.fresh) (is_token 45 i) refl;
              fresh = fresh_by (is_token 45 i) refl;
              plus_is = ap (λ (x : Signs). x.plus) eg ∙ signed_plus g at b
                  ∙ ap (λ m. if m then Some (record_at at) else g.plus) (sym pt) ∙ last_by (is_token 43 i) g.plus h.plus h.plus_is;
              pair_is = ap (λ (x : Signs). x.pair) eg ∙ signed_pair g at b
                  ∙ ap (λ m. if m then paired_by g.pair g.minus at else g.pair) (sym mt) ∙ pair_both (is_token 45 i);
              minus_is = minus_now ∙ last_by (is_token 45 i) g.minus h.minus h.minus_is;
              prev_is = prev_by (is_token 45 i) refl;
              low = low_by (is_token 45 i) minus_now;
            }
          where
            minus_now : g'.minus ≡ (if is_token 45 i then Some (record_at at) else g.minus)
            minus_now = ap (λ (x : Signs). x.minus) eg ∙ signed_minus g at b ∙ ap (λ m. if m then Some (record_at at) else g.minus) (sym mt)

            later : at < next
            later = let some = st.skip in omega (arith, some, en)

            last_by : (m : Bool) (old : Std.Option PBind) (best : Option Cut) → old ≡ cut_place image t e best
                → (if m then Some (record_at at) else old) ≡ cut_place image t e (if m then some (cut_here h.passed i rest) else best)
            last_by true old best q = ap (λ n. Some (record_at n)) h.here
            last_by false old best q = q

            pair_both : (m : Bool)
                → (if m then paired_by g.pair g.minus at else g.pair) ≡ cut_place image t e (or_else h.pair (if m then h.prev else none))
            pair_both true = pair_by image t e g.pair g.minus at h.pair h.prev h.pair_is h.prev_is
            pair_both false = h.pair_is ∙ ap (cut_place image t e) (sym (or_none h.pair))

            fresh_by : (m : Bool) → is_token 45 i ≡ m → Fresh (h.passed ++ (i ∷ [])) rest (if m then some (cut_here h.passed i rest) else none)
            fresh_by true q = (q, refl, refl)
            fresh_by false q = tt

            prev_by : (m : Bool) → is_token 45 i ≡ m → PrevIs image t e g'.minus next (if m then some (cut_here h.passed i rest) else none)
            prev_by true q =
                let one = st.single (token_word 45 i q) in
                let here = h.here in
                (minus_now ∙ ap (λ m. if m then Some (record_at at) else g.minus) q ∙ ap (λ n. Some (record_at n)) here, omega (arith, here, one, en))
            prev_by false q =
                rw (minus_now ∙ ap (λ m. if m then Some (record_at at) else g.minus) q) (low_far g.minus at next later h.low)

            low_by : (m : Bool) → g'.minus ≡ (if m then Some (record_at at) else g.minus) → Low g'.minus next
            low_by true q = rw q (let l = later in omega (arith, l))
            low_by false q = rw q (low_later g.minus at next later h.low)
