-- The items of a text stand in it: one after the other, each with what stands inside it.
use Rattle.std.specs.Prelude.{◌≡◌, refl, ℕ, zero, suc, ◌+◌, ◌∷◌, ◌++◌}
use Rattle.std.proofs.Common.{sym, ap, ◌∙◌, add-zero, arith, length-append, take-append-drop, drop-drop}
use mathlib.Core.List.{append_assoc, drop_last-prefix}
use Rattle.std.proofs.Math.Seq.{drop-append_seam}
use Rattle.definition.specs.Prelude.{List, [], length, take, drop, drop_last}
use Rattle.definition.specs.Image.{Rec}
use Rattle.definition.specs.Tree.{text_of}
use Rattle.definition.specs.Text.{Part, Item, more, chunks, items_of, items, bytes_of, part_of}
use Rattle.prepared.specs.Bytes.{Holds, holds_left, holds_right}
use Rattle.prepared.specs.Groups.{text_of_append}

-- a part stands in a text: its bytes are there, at its offset
abbrev pub Stands : List ℕ → Part → Type 0
Stands text p = Holds text p.at p.bytes

-- items that stand one after the other from an offset, each with the records inside it
pub data Row (text : List ℕ) : ℕ → List Item → Type 0 where
  row_nil : {at : ℕ} → Row text at []
  row_cons : {at : ℕ} {i : Item} {is : List Item} → i.part.at ≡ at → Stands text i.part → Holds text i.inside_at (text_of i.inside)
      → Row text (at + length i.part.bytes) is → Row text at (i ∷ is)

-- from some offset
pub data Run (text : List ℕ) (is : List Item) : Type 0 where
  from : (at : ℕ) → Row text at is → Run text is

-- ---- two texts side by side

pub holds_join : (s : List ℕ) (i : ℕ) (a b : List ℕ) → Holds s i a → Holds s (i + length a) b → Holds s i (a ++ b)
holds_join s i a b (r, e) (r', e') =
    let q : r ≡ b ++ r' = sym (drop-append_seam a r) ∙ ap (drop (length a)) (sym e) ∙ drop-drop (length a) i s ∙ e' in
    (r', e ∙ rw (q, append_assoc))

-- ---- the records inside a group

inside_holds : (text : List ℕ) (at : ℕ) (rs : List Rec) → Holds text at (text_of rs) → Holds text at (text_of (drop_last rs))
inside_holds text at rs h =
    let (last, e) = drop_last-prefix rs in
    holds_left text at (text_of (drop_last rs)) (text_of last) (rw (← text_of_append (drop_last rs) last, e) h)

-- ---- the items of records whose text stands

row_chunks : (text : List ℕ) (n at : ℕ) (rs : List Rec) → Holds text at (text_of rs)
    → Holds text at (text_of (chunks n rs).0)
    × Row text (at + length (text_of (chunks n rs).0)) (items_of (at + length (text_of (chunks n rs).0)) (chunks n rs).1)
unfolding chunks items_of text_of
row_chunks text n at [] h = ((drop at text, refl), row_nil)
row_chunks text zero at (r ∷ rs) h =
    go (chunks (more r) rs) (row_chunks text (more r) (at + length r.text) rs (holds_right text at r.text (text_of rs) h))
  where
    go : (c : List Rec × List (List Rec))
        → Holds text (at + length r.text) (text_of c.0)
        × Row text (at + length r.text + length (text_of c.0)) (items_of (at + length r.text + length (text_of c.0)) c.1)
        → Holds text at [] × Row text (at + 0) (items_of (at + 0) ((r ∷ c.0) ∷ c.1))
    go c (inside, later) =
        let whole : Holds text at (r.text ++ text_of c.0) = holds_join text at r.text (text_of c.0) (holds_left text at r.text (text_of rs) h) inside in
        let e : at + length (r.text ++ text_of c.0) ≡ at + length r.text + length (text_of c.0) = simp length-append (omega arith) in
        let later' : Row text (at + length (r.text ++ text_of c.0)) (items_of (at + length (r.text ++ text_of c.0)) c.1) = rw e later in
        ((drop at text, refl), rw add-zero (row_cons refl whole (inside_holds text (at + length r.text) c.0 inside) later'))
row_chunks text (suc n) at (r ∷ rs) h =
    go (chunks n rs) (row_chunks text n (at + length r.text) rs (holds_right text at r.text (text_of rs) h))
  where
    go : (c : List Rec × List (List Rec))
        → Holds text (at + length r.text) (text_of c.0)
        × Row text (at + length r.text + length (text_of c.0)) (items_of (at + length r.text + length (text_of c.0)) c.1)
        → Holds text at (r.text ++ text_of c.0)
        × Row text (at + length (r.text ++ text_of c.0)) (items_of (at + length (r.text ++ text_of c.0)) c.1)
    go c (inside, later) =
        let e : at + length (r.text ++ text_of c.0) ≡ at + length r.text + length (text_of c.0) = simp length-append (omega arith) in
        (holds_join text at r.text (text_of c.0) (holds_left text at r.text (text_of rs) h) inside, rw e later)

first_none : (rs : List Rec) → (chunks 0 rs).0 ≡ []
unfolding chunks
first_none [] = refl
first_none (r ∷ rs) = refl

pub items_run : (text : List ℕ) (at : ℕ) (rs : List Rec) → Holds text at (text_of rs) → Run text (items at rs)
unfolding text_of
items_run text at rs h = from at (rw (first_none rs, add-zero) at (row_chunks text 0 at rs h).1)

-- ---- runs of items

row_split : {text : List ℕ} {at : ℕ} (is : List Item) {js : List Item} → Row text at (is ++ js) → Row text at is × Run text js
row_split {at = at} [] r = (row_nil, from at r)
row_split {text = text} {at = at} (i ∷ is) {js = js} (row_cons e p h r) = let (a, b) = row_split {at = at + length i.part.bytes} is r in (row_cons e p h a, b)

pub run_split : {text : List ℕ} (is : List Item) {js : List Item} → Run text (is ++ js) → Run text is × Run text js
run_split is (from at r) = let (a, b) = row_split is r in (from at a, b)

pub run_take : {text : List ℕ} (n : ℕ) (is : List Item) → Run text is → Run text (take n is)
run_take {text} n is r = (run_split {text = text} (take n is) {js = drop n is} (rw take-append-drop r)).0

pub run_drop : {text : List ℕ} (n : ℕ) (is : List Item) → Run text is → Run text (drop n is)
run_drop {text} n is r = (run_split {text = text} (take n is) {js = drop n is} (rw take-append-drop r)).1

row_bytes : {text : List ℕ} {at : ℕ} {is : List Item} → Row text at is → Holds text at (bytes_of is)
unfolding bytes_of
row_bytes {text} {at} row_nil = (drop at text, refl)
row_bytes {text} {at} (row_cons {i = i} {is = is} e p h r) =
    holds_join text at i.part.bytes (bytes_of is) (rw e at p) (row_bytes r)

-- "The text of a run of records is thus one part of the text"
pub run_part : {text : List ℕ} {is : List Item} → Run text is → Stands text (part_of is)
run_part {text} (from at row_nil) = (text, refl)
run_part {text} (from at (row_cons {i = i} {is = is} e p h r)) =
    let q : Holds text at (bytes_of (i ∷ is)) = row_bytes (row_cons e p h r) in
    rw (← e) at q

-- what stands inside a group
pub run_inside : {text : List ℕ} {i : Item} {is : List Item} → Run text (i ∷ is) → Run text (items i.inside_at i.inside)
run_inside {text} {i} (from at (row_cons e p h r)) = items_run text i.inside_at i.inside h
