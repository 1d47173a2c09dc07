-- 6 and 7: what a table of records gives at the places that the code reads, and each way through the record checker's loop.
use Rattle.std.specs.Prelude.{◌+◌, ◌&&◌, ◌∷◌}
use mathlib.Core.Path.{◌≡◌, refl, sym, ap, ◌∙◌}
use mathlib.Core.Bool.{and-true}
use native.Mathlib.Nat.{add-zero, sub-zero, suc-add, add-suc}
use native.Mathlib.Numerals.{add-one}
use native.Mathlib.Omega.{arith}
use borrow.Author.Tests.{leb-true, le-leb, lt-ltb, le-ltb, ne_eqb}
use Prim.Native.Nat.{◌<◌, ◌≤◌, ◌-◌}
use Rattle.definition.specs.Prelude.{ℕ, zero, suc, Bool, true, false, List, length, take, drop, leb, ltb, eqb}
use Rattle.definition.specs.Basics.{Result, ok, refused, Refusal, ◌>>=◌, tab}
use Rattle.definition.specs.Limits.{limits}
use Rattle.definition.specs.Refusals.{need, refuse, bad_record, too_deep}
use Rattle.definition.specs.Image.{Entry, opens, delimiter}
use Rattle.definition.specs.Check.{no_entry, text_right, delimiter_right, word_right, inside_of, closer_of, after_of, open_right, close_right, check_in}
use Rattle.laws.specs.Lists.{length_tab, get_or_tab}
use Rattle.laws.specs.Tests.{by_test, and_iff}
use Rattle.image.specs.record_rules.Rules.{skip_right, opener_right}
use Rattle.image.specs.check.Parts.{Says}

take_tab : (g : ℕ → Entry) (from n i : ℕ) → i ≤ n → take i (tab g from n) ≡ tab g from i
unfolding tab
take_tab g from n zero h = refl
take_tab g from zero (suc i) h = absurd (omega arith)
take_tab g from (suc n) (suc i) h = ap (λ (l : List Entry). g from ∷ l) (take_tab g (suc from) n i (omega arith))

drop_tab : (g : ℕ → Entry) (from n i : ℕ) → i ≤ n → drop i (tab g from n) ≡ tab g (from + i) (n - i)
unfolding tab
drop_tab g from n zero h = rw (add-zero, sub-zero)
drop_tab g from zero (suc i) h = absurd (omega arith)
drop_tab g from (suc n) (suc i) h =
    let e : suc n - suc i ≡ n - i = omega arith in
    drop_tab g (suc from) n i (omega arith) ∙ rw (suc-add, add-suc, e)

-- ---- the opener
-- an opener whose skip stays in the records that are left
pub record Opener (e : Entry) (left : ℕ) : Type 0 where
  pub group : opens e.kind ≡ true
  pub two : 2 ≤ e.skip
  pub most : e.skip ≤ left

pub skip_told : (e : Entry) (left : ℕ) → skip_right e left ≡ true → Opener e left
skip_told e left h =
    let q = (and_iff (opens e.kind && leb 2 e.skip) (leb e.skip left)).0 h in
    let p = (and_iff (opens e.kind) (leb 2 e.skip)).0 q.0 in
    record { group = p.0; two = leb-true 2 e.skip p.1; most = leb-true e.skip left q.1 }

skip_shut : (a b c d : Bool) → (b && c) ≡ false → (((a && b) && c) && d) ≡ false
skip_shut true true true d h = cc
skip_shut true true false d h = refl
skip_shut true false c d h = refl
skip_shut false b c d h = refl

no_word : (a b : Bool) → ((a && false) && b) ≡ false
no_word true b = refl
no_word false b = refl

module _ (t : ℕ) (g : ℕ → Entry) (e : Entry) (k left : ℕ) where
  abbrev text : Bool
  text = text_right t e && delimiter_right (delimiter e.kind).opening e

  abbrev closes : Bool
  closes = eqb (closer_of e (tab g (k + 1) (left - 1))).kind 5

  opener_tab : 0 < left → open_right t e (tab g (k + 1) (left - 1)) ≡ (((text && leb 2 e.skip) && leb e.skip left) && closes)
  opener_tab some =
      let n : 1 + length (tab g (k + 1) (left - 1)) ≡ left = omega (arith, length_tab g (k + 1) (left - 1)) in
      ap (λ n. ((text && leb 2 e.skip) && leb e.skip n) && closes) n

  opener_shut : 0 < left → (leb 2 e.skip && leb e.skip left) ≡ false → open_right t e (tab g (k + 1) (left - 1)) ≡ false
  opener_shut some h = opener_tab some ∙ skip_shut text (leb 2 e.skip) (leb e.skip left) closes h

  closer_tab : Opener e left → closer_of e (tab g (k + 1) (left - 1)) ≡ g (k + (e.skip - 1))
  closer_tab o =
      let two = o.two in
      let most = o.most in
      let q : k + 1 + (e.skip - 2) ≡ k + (e.skip - 1) = omega arith in
      get_or_tab g (k + 1) (left - 1) (e.skip - 2) no_entry (omega arith) ∙ ap g q

  opener_here : Opener e left → open_right t e (tab g (k + 1) (left - 1)) ≡ opener_right t e (g (k + (e.skip - 1)))
  opener_here o =
      let two = o.two in
      let most = o.most in
      opener_tab (omega arith)
      ∙ rw (le-leb 2 e.skip two, le-leb e.skip left most, and-true text, and-true text) (ap (opener_right t e) (closer_tab o))

-- ---- the loop: a word or a group is refused, or passed with what is left after it
abbrev bad : Result Unit
bad = refuse bad_record

-- the first refusal of two
abbrev pub first_of : Result Unit → Result Unit → Result Unit
first_of a b = a >>= λ _. b

abbrev opener : ℕ → Entry → List Entry → ℕ → Result Unit
opener t e rest depth = first_of (need (open_right t e rest) bad_record) (need (ltb depth limits.depth) too_deep)

five : (a b c d e : Result Unit) → first_of a (first_of b (first_of c (first_of d e))) ≡ first_of (first_of a b) (first_of (first_of c d) e)
five (ok u) (ok v) (ok w) d e = refl
five (ok u) (ok v) (refused q) d e = refl
five (ok u) (refused q) c d e = refl
five (refused q) b c d e = refl

check_word : (t f : ℕ) (e : Entry) (rest : List Entry) (depth : ℕ) → opens e.kind ≡ false
    → check_in t (suc f) (e ∷ rest) depth ≡ first_of (need (word_right t e) bad_record) (check_in t f rest depth)
unfolding check_in
check_word t f e rest depth o = rw (o, check_in)

check_group : (t f : ℕ) (e : Entry) (rest : List Entry) (depth : ℕ) → opens e.kind ≡ true
    → check_in t (suc f) (e ∷ rest) depth
    ≡ first_of (opener t e rest depth)
    (first_of (first_of (check_in t f (inside_of e rest) (suc depth)) (need (close_right t e (closer_of e rest)) bad_record)) (check_in t f (after_of e rest) depth))
unfolding check_in
check_group t f e rest depth o =
    rw (o, check_in)
    (five (need (open_right t e rest) bad_record) (need (ltb depth limits.depth) too_deep) (check_in t f (inside_of e rest) (suc depth))
    (need (close_right t e (closer_of e rest)) bad_record) (check_in t f (after_of e rest) depth))

-- record k is e, and `left` records are left from it on
module _ (t : ℕ) (g : ℕ → Entry) (depth k left : ℕ) (some : 0 < left) (e : Entry) (q : e ≡ g k) where
  abbrev after : List Entry
  after = tab g (k + 1) (left - 1)

  -- it is enough to look at e and what follows it
  says_by : (x : Result Unit) → ((f : ℕ) → left - 1 ≤ f → x ≡ check_in t (suc f) (e ∷ after) depth) → Says t g depth k left x
  unfolding tab
  says_by x s zero h = absurd (omega arith)
  says_by x s (suc f) h =
      let n : left ≡ suc (left - 1) = omega arith in
      let l : tab g k left ≡ e ∷ after = ap (tab g k) n ∙ rw (q, add-one k) in
      rw l (s f (omega arith))

  word_stops : opens e.kind ≡ false → word_right t e ≡ false → Says t g depth k left bad
  word_stops o r = says_by bad λ f h. rw (check_word t f e after depth o, r)

  pub word_refused : e.kind ≡ 0 → word_right t e ≡ false → Says t g depth k left bad
  word_refused z = word_stops (rw z)

  pub word_goes : e.kind ≡ 0 → word_right t e ≡ true → (x : Result Unit) → Says t g depth (k + 1) (left - 1) x → Says t g depth k left x
  word_goes z r x says = says_by x λ f h. rw (check_word t f e after depth (rw z), r) (says f h)

  group_stops : (q : Refusal) → opens e.kind ≡ true → refused q ≡ opener t e after depth → Says t g depth k left (refused q)
  group_stops q o p = says_by (refused q) λ f h. rw (check_group t f e after depth o, ← p)

  -- neither a word nor a group that stays in what is left
  pub skip_refused : (e.kind ≡ 0 → ⊥) → skip_right e left ≡ false → Says t g depth k left bad
  skip_refused a h =
      by_test (opens e.kind)
      (λ o.
      let s : (leb 2 e.skip && leb e.skip left) ≡ false = rw o at h in
      group_stops _ o (rw (opener_shut t g e k left some s)))
      (λ o. word_stops o (rw (ne_eqb e.kind 0 a) (no_word (text_right t e) (eqb e.skip 1))))

  -- a group that stays, c its closer
  module _ (o : Opener e left) (c : Entry) (p : c ≡ g (k + (e.skip - 1))) where
    opened : open_right t e after ≡ opener_right t e c
    opened = opener_here t g e k left o ∙ ap (opener_right t e) (sym p)

    pub opener_refused : opener_right t e c ≡ false → Says t g depth k left bad
    opener_refused h = group_stops _ o.group (rw (opened ∙ h))

    pub deep_refused : opener_right t e c ≡ true → 32 ≤ depth → Says t g depth k left (refuse too_deep)
    deep_refused h d = group_stops _ o.group (rw (opened ∙ h, le-ltb depth 32 d))

    -- its inside answered i
    module _ (r : opener_right t e c ≡ true) (d : depth < 32) (i : Result Unit) (says : Says t g (depth + 1) (k + 1) (e.skip - 2) i) where
      abbrev closed : Result Unit
      closed = first_of i (need (close_right t e c) bad_record)

      check_opened : (f : ℕ) → left - 1 ≤ f
          → check_in t (suc f) (e ∷ after) depth ≡ first_of closed (check_in t f (tab g (k + e.skip) (left - e.skip)) depth)
      check_opened f h =
          let two = o.two in
          let most = o.most in
          let inner : check_in t f (inside_of e after) (suc depth) ≡ i =
          rw (take_tab g (k + 1) (left - 1) (e.skip - 2) (omega arith), ← add-one depth) (sym (says f (omega arith))) in
          let j : k + 1 + (e.skip - 1) ≡ k + e.skip = omega arith in
          let n : left - 1 - (e.skip - 1) ≡ left - e.skip = omega arith in
          check_group t f e after depth o.group
          ∙ rw (opened ∙ r, lt-ltb depth 32 d, inner, closer_tab t g e k left o, ← p, drop_tab g (k + 1) (left - 1) (e.skip - 1) (omega arith), j, n)

      inside_stops : (q : Refusal) → refused q ≡ closed → Says t g depth k left (refused q)
      inside_stops q s = says_by (refused q) λ f h. rw (check_opened f h, ← s)

      pub inside_refused : (q : Refusal) → i ≡ refused q → Says t g depth k left (refused q)
      inside_refused q z = inside_stops q (rw z)

      pub close_refused : i ≡ ok tt → close_right t e c ≡ false → Says t g depth k left bad
      close_refused z s = inside_stops _ (rw (z, s))

      pub group_goes : i ≡ ok tt → close_right t e c ≡ true → (x : Result Unit) → Says t g depth (k + e.skip) (left - e.skip) x → Says t g depth k left x
      group_goes z s x rest =
          let two = o.two in
          says_by x λ f h. rw (check_opened f h, z, s) (rest f (omega arith))

pub says_end : (t : ℕ) (g : ℕ → Entry) (depth k left : ℕ) → left ≤ 0 → Says t g depth k left (ok tt)
unfolding check_in tab
says_end t g depth k zero l zero h = refl
says_end t g depth k zero l (suc f) h = refl
says_end t g depth k (suc m) l f h = absurd (omega arith)
