-- The tokens of a component, one after the other: what was done of their records, and what is left.
use Rattle.std.specs.Prelude.{◌+◌, ◌*◌, ◌-◌, ◌^◌, ◌||◌, ◌∷◌, ◌++◌}
use mathlib.Core.Path.{◌≡◌, refl, sym, ap, ◌∙◌}
use mathlib.Core.List.{append_assoc, append-nil}
use Prim.Native.Nat.{◌≤◌, ◌<◌}
use native.Mathlib.Nat.{pow-succ', pow-le-pow_right}
use native.Mathlib.Omega.{arith}
use lib.ListN.{length-append}
use lib.Seq.{sets}
use Rattle.definition.specs.Prelude.{ℕ, zero, suc, Bool, true, false, List, [], length}
use Rattle.definition.specs.Basics.{is_empty}
use Rattle.definition.specs.Characters.{char}
use Rattle.definition.specs.Image.{Rec, kinds, delimiter}
use Rattle.definition.specs.Tree.{text_of, record_bytes}
use Rattle.definition.specs.TokenStream.{leaf_text, is_ident}
use Rattle.definition.specs.Tokens.{Token, single, opener, closer}
use Rattle.image.specs.writer.Written.{record_row}
use Rattle.laws.specs.Tests.{by_test, and_iff}
use Rattle.laws.specs.Rows.{text_of_append, length_text_append, record_bytes_append, length_record_bytes}
use Rattle.laws.specs.Sets.{sets_append, sets_apart}
use Rattle.token_facts.specs.Flat.{after, starts_ident, joins, inner, innermost, rec_of, emit, deepest}
use Rattle.token_facts.specs.Records.{closed, deepest_least}
use Rattle.token_facts.specs.Walks.{emit_begun}
use Rattle.token_stream.specs.list.Tokens.{goes_on}
use Rattle.token_stream.specs.write.Steps.{token_bytes, token_row, open_after, StepIs}
use Rattle.token_stream.specs.declared.write.component.Mark.{Mark}

-- ts is left of the tokens whose records are rs. Rows began at `row` and texts at `at`: the records `past` are written, and the text
-- `begun` of the record that goes on; `groups` are open.
pub record Going (rs : List Rec) (base row at : ℕ) (area₀ area : List ℕ) (m : Mark) (ts : List Token) : Type 0 where
  pub past : List Rec
  pub begun : List ℕ
  pub groups : ℕ
  pub recs : past ++ emit m.groups begun ts ≡ rs
  pub follows : (is_empty begun || starts_ident ts) ≡ true
  pub area_is : area ≡ sets (sets area₀ at (text_of past ++ begun)) row (record_bytes (at - base) past)
  pub record_is : m.record ≡ row + 12 * length past
  pub start_is : m.start ≡ at + length (text_of past)
  pub text_is : m.text ≡ m.start + length begun
  pub deep : deepest groups ts ≤ 32
  pub low : m.groups < 4 ^ groups

-- there is room for all of them
pub record Room (rs : List Rec) (base row at : ℕ) : Type 0 where
  pub low : base < 2 ^ 32
  pub rows : row + 12 * length rs ≤ base
  pub begins : base ≤ at
  pub text : at + length (text_of rs) ≤ base + 16384

-- ---- writing a text and a row, each next to what was written

and_both : (area₀ area area' : List ℕ) (at row : ℕ) (u w x y : List ℕ) → row + length w ≤ at → area ≡ sets (sets area₀ at u) row w
    → area' ≡ sets (sets area (at + length u) x) (row + length w) y → area' ≡ sets (sets area₀ at (u ++ x)) row (w ++ y)
and_both area₀ area area' at row u w x y h p q =
    q ∙ ap (λ (l : List ℕ). sets (sets l (at + length u) x) (row + length w) y) p
    ∙ ap (λ (l : List ℕ). sets l (row + length w) y) (sets_apart (sets area₀ at u) row w (at + length u) x (omega arith))
    ∙ sets_append (sets (sets area₀ at u) (at + length u) x) row w y
    ∙ ap (λ (l : List ℕ). sets l row (w ++ y)) (sets_append area₀ at u x)

-- ---- what may have begun

or_right : (a b : Bool) → b ≡ true → (a || b) ≡ true
or_right true b h = refl
or_right false b h = h

none_begun : (p : List ℕ) (b : Bool) → b ≡ false → (is_empty p || b) ≡ true → p ≡ []
none_begun [] b q h = refl
none_begun (x ∷ p) b q h = let z : ◌≡◌ {A = ℕ} 0 1 = cc in absurd (omega arith)

begun_fits : (o : ℕ) (p : List ℕ) (ts : List Token) → (is_empty p || starts_ident ts) ≡ true → length p ≤ length (text_of (emit o p ts))
begun_fits o [] ts h = omega arith
begun_fits o (b ∷ p) ts h = emit_begun o (b ∷ p) ts h

module _ {rs : List Rec} {base row at : ℕ} {area₀ area : List ℕ} {m : Mark} {ts : List Token} (g : Going rs base row at area₀ area m ts)
    (r : Room rs base row at) where
  -- the marks stay where there is room
  pub stays : (m.record ≤ base) × (m.text ≤ base + 16384) × (base ≤ m.start) × (m.start ≤ base + 16384)
  stays =
      let rest = emit m.groups g.begun ts in
      let n : length (g.past ++ rest) ≡ length rs = ap (λ (l : List Rec). length l) g.recs in
      let t : length (text_of (g.past ++ rest)) ≡ length (text_of rs) = ap (λ (l : List Rec). length (text_of l)) g.recs in
      let a = length-append g.past rest in
      let b = length_text_append g.past rest in
      let c = begun_fits m.groups g.begun ts g.follows in
      (omega arith, omega arith, omega arith, omega arith)

-- ---- the groups that are open

-- an opener is of one of the four kinds
abbrev pub opens_group : Token → Type 0
opens_group (single a) = Unit
opens_group (opener k) = k ≤ 4
opens_group closer = Unit

open_after_lem : (o d : ℕ) (t : Token) → opens_group t → o < 4 ^ d → open_after o t < 4 ^ after d t
open_after_lem o d (single a) s h = h
open_after_lem o d (opener k) s h = rw (pow-succ' 4 d) (omega arith)
open_after_lem o zero closer s h = omega arith
open_after_lem o (suc d) closer s h = let h' : o < 4 * 4 ^ d = rw (pow-succ' 4 d) at h in rw (closed d) (omega arith)

deep_after : (d : ℕ) (t : Token) (ts : List Token) → deepest d (t ∷ ts) ≤ 32 → deepest (after d t) ts ≤ 32
unfolding deepest
deep_after d t ts h = omega arith

pub groups_fit : (o d : ℕ) (t : Token) (ts : List Token) → opens_group t → deepest d (t ∷ ts) ≤ 32 → o < 4 ^ d → open_after o t < 2 ^ 64
groups_fit o d t ts s h l =
    let few : after d t ≤ 32 = omega (arith, deep_after d t ts h, deepest_least (after d t) ts) in
    let most : 4 ^ after d t ≤ 4 ^ 32 = pow-le-pow_right (omega arith) few in
    omega (arith, open_after_lem o d t s l)

-- ---- the next token

module _ {rs : List Rec} {base row at : ℕ} {area₀ area area' : List ℕ} {m m' : Mark} (t : Token) (ts : List Token) (r : Room rs base row at)
    (g : Going rs base row at area₀ area m (t ∷ ts)) (s : StepIs base t ts area area' m m') (sound : opens_group t) where
  -- where it is written
  written : area' ≡ sets (sets area₀ at ((text_of g.past ++ g.begun) ++ token_bytes m.groups t ts)) row
      (record_bytes (at - base) g.past ++ token_row t ts (m.start - base))
  written =
      let w = length_record_bytes (at - base) g.past in
      let u = length-append (text_of g.past) g.begun in
      let low = stays g r in
      let bytes = token_bytes m.groups t ts in
      let rows = token_row t ts (m.start - base) in
      let place : m.text ≡ at + length (text_of g.past ++ g.begun) = omega (arith, g.text_is, g.start_is) in
      let here : m.record ≡ row + length (record_bytes (at - base) g.past) = omega (arith, g.record_is) in
      and_both area₀ area area' at row (text_of g.past ++ g.begun) (record_bytes (at - base) g.past) bytes rows
      (omega (arith, g.record_is, r.begins)) g.area_is
      (s.area_is
      ∙ ap (λ (x : ℕ). sets (sets area x bytes) m.record rows) place
      ∙ ap (λ (x : ℕ). sets (sets area (at + length (text_of g.past ++ g.begun)) bytes) x rows) here)

  low_after : m'.groups < 4 ^ after g.groups t
  low_after = rw s.groups_is (open_after_lem m.groups g.groups t sound g.low)

  -- its record goes on
  goes : (x : List ℕ) → goes_on t ts ≡ true → token_bytes m.groups t ts ≡ x → token_row t ts (m.start - base) ≡ []
      → emit m.groups g.begun (t ∷ ts) ≡ emit m'.groups (g.begun ++ x) ts → starts_ident ts ≡ true
      → Going rs base row at area₀ area' m' ts
  goes x on bytes none recs follow =
      let r₁ : m'.record ≡ m.record + 0 = rw none at s.record_is in
      let s₁ : m'.start ≡ m.start = rw on at s.start_is in
      let t₁ : m'.text ≡ m.text + length x = rw bytes at s.text_is in
      record {
        past = g.past;
        begun = g.begun ++ x;
        groups = after g.groups t;
        recs = ap (λ (l : List Rec). g.past ++ l) (sym recs) ∙ g.recs;
        follows = or_right (is_empty (g.begun ++ x)) (starts_ident ts) follow;
        area_is = written ∙ rw (bytes, none, append-nil (record_bytes (at - base) g.past), append_assoc (text_of g.past) g.begun x);
        record_is = omega (arith, g.record_is);
        start_is = s₁ ∙ g.start_is;
        text_is = omega (arith, g.text_is, length-append g.begun x);
        deep = deep_after g.groups t ts g.deep;
        low = low_after;
      }

  -- record e ends
  ends : (e : Rec) → goes_on t ts ≡ false → e.text ≡ g.begun ++ token_bytes m.groups t ts
      → ((n : ℕ) → token_row t ts n ≡ record_row e.kind n e.skip)
      → emit m.groups g.begun (t ∷ ts) ≡ e ∷ emit m'.groups [] ts → Going rs base row at area₀ area' m' ts
  unfolding text_of record_bytes
  ends e on text is recs =
      let bytes = token_bytes m.groups t ts in
      let r₁ : m'.record ≡ m.record + 12 = rw (is (m.start - base)) at s.record_is in
      let s₁ : m'.start ≡ m.text + length bytes = rw on at s.start_is in
      let t₁ : m'.text ≡ m.text + length bytes = s.text_is in
      let n₁ : length (g.past ++ e ∷ []) ≡ length g.past + 1 = length-append g.past (e ∷ []) in
      let texts : text_of (g.past ++ e ∷ []) ≡ (text_of g.past ++ g.begun) ++ bytes =
      text_of_append g.past (e ∷ []) ∙ rw (append-nil e.text, text, append_assoc (text_of g.past) g.begun bytes) in
      let l₁ : length (text_of (g.past ++ e ∷ [])) ≡ length (text_of g.past) + length g.begun + length bytes =
      ap (λ (l : List ℕ). length l) texts ∙ simp length-append in
      let place : at - base + length (text_of g.past) ≡ m.start - base = omega (arith, g.start_is, r.begins) in
      let rows : record_bytes (at - base) (g.past ++ e ∷ []) ≡ record_bytes (at - base) g.past ++ token_row t ts (m.start - base) =
      record_bytes_append (at - base) g.past (e ∷ []) ∙ rw (place, is (m.start - base)) in
      record {
        past = g.past ++ e ∷ [];
        begun = [];
        groups = after g.groups t;
        recs = append_assoc g.past (e ∷ []) (emit m'.groups [] ts) ∙ ap (λ (l : List Rec). g.past ++ l) (sym recs) ∙ g.recs;
        follows = refl;
        area_is = written ∙ rw (append-nil (text_of (g.past ++ e ∷ [])), texts, rows);
        record_is = omega (arith, g.record_is);
        start_is = omega (arith, g.start_is, g.text_is);
        text_is = omega arith;
        deep = deep_after g.groups t ts g.deep;
        low = low_after;
      }

pub next : {rs : List Rec} {base row at : ℕ} {area₀ area area' : List ℕ} {m m' : Mark} (t : Token) (ts : List Token) → Room rs base row at
    → Going rs base row at area₀ area m (t ∷ ts) → StepIs base t ts area area' m m' → opens_group t → Going rs base row at area₀ area' m' ts
unfolding emit
next (single a) ts r g s o =
    by_test (joins a ts)
    (λ q.
    goes (single a) ts r g s o (leaf_text a ++ char.space ∷ []) q (rw q) (rw q)
    (rw (q, s.groups_is, append_assoc g.begun (leaf_text a) (char.space ∷ [])))
    ((and_iff (is_ident a) (starts_ident ts)).0 q).1)
    (λ q. ends (single a) ts r g s o (rec_of kinds.chars (g.begun ++ leaf_text a) 1) q (rw q) (λ n. rw q) (rw (q, s.groups_is)))
next (opener k) ts r g s o =
    let p = none_begun g.begun false refl g.follows in
    ends (opener k) ts r g s o (rec_of k ((delimiter k).opening ∷ []) (2 + inner 0 ts)) refl (rw p) (λ n. refl) (rw s.groups_is)
next {m = m} closer ts r g s o =
    let p = none_begun g.begun false refl g.follows in
    ends closer ts r g s o (rec_of kinds.closer ((delimiter (innermost m.groups)).closing ∷ []) 1) refl (rw p) (λ n. refl)
    (rw s.groups_is)

-- ---- the first, and after the last

pub first : (list : List Token) (base row at : ℕ) (area : List ℕ) → deepest 0 list ≤ 32
    → Going (emit 0 [] list) base row at area area (record { «record» = row; text = at; start = at; groups = 0 }) list
unfolding text_of record_bytes
first list base row at area h =
    record {
      past = [];
      begun = [];
      groups = 0;
      recs = refl;
      follows = refl;
      area_is = refl;
      record_is = omega arith;
      start_is = omega arith;
      text_is = omega arith;
      deep = h;
      low = omega arith;
    }

pub last : {rs : List Rec} {base row at : ℕ} {area₀ area : List ℕ} {m : Mark} → Going rs base row at area₀ area m []
    → (area ≡ sets (sets area₀ at (text_of rs)) row (record_bytes (at - base) rs)) × (m.record ≡ row + 12 * length rs)
    × (m.text ≡ at + length (text_of rs))
unfolding emit
last {rs} {base} {row} {at} {area₀} g =
    let p = none_begun g.begun false refl g.follows in
    let q : g.past ≡ rs = sym (append-nil g.past) ∙ g.recs in
    let b : length g.begun ≡ 0 = ap (λ (l : List ℕ). length l) p in
    let n : length (text_of g.past) ≡ length (text_of rs) = ap (λ (l : List Rec). length (text_of l)) q in (
      g.area_is ∙ rw (p, append-nil (text_of g.past), q),
      g.record_is ∙ ap (λ (l : List Rec). row + 12 * length l) q,
      omega (arith, g.text_is, g.start_is),
    )
