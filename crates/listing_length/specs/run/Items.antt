-- The bytes of text that items have: no more than the records they are made of, and what stands inside a group no more than the group.
use Rattle.std.specs.Prelude.{◌≡◌, refl, ◌≤◌, ◌+◌, ◌∷◌, ◌++◌}
use Rattle.std.proofs.Common.{arith, length-append, take-append-drop}
use mathlib.Core.List.{drop_last-prefix}
use Rattle.definition.specs.Prelude.{ℕ, zero, suc, List, [], length, take, drop, drop_last}
use Rattle.definition.specs.Image.{Rec}
use Rattle.definition.specs.Tree.{text_of}
use Rattle.definition.specs.Text.{Item, more, chunks, item_of, items_of, items, bytes_of, part_of}
use Rattle.prepared.specs.Groups.{text_of_append}
use Rattle.answer_facts.specs.read.Facts.{Every, every_nil, every_cons, every_split}

abbrev pub size : List Item → ℕ
size is = length (bytes_of is)

pub part_size : (is : List Item) → length (part_of is).bytes ≡ size is
unfolding bytes_of
part_size [] = refl
part_size (i ∷ is) = refl

pub size_append : (is js : List Item) → size (is ++ js) ≡ size is + size js
unfolding bytes_of
size_append [] js = omega arith
size_append (i ∷ is) js =
    let h = size_append is js in
    omega (arith, length-append i.part.bytes (bytes_of (is ++ js)), length-append i.part.bytes (bytes_of is))

-- two parts of items, the second after the first
pub apart_size : (a b : ℕ) (is : List Item) → a ≤ b → size (take a is) + size (drop b is) ≤ size is
unfolding bytes_of
apart_size a b [] h = go a b
  where
    go : (a b : ℕ) → size (take a []) + size (drop b []) ≤ 0
    go zero zero = omega arith
    go zero (suc b) = omega arith
    go (suc a) zero = omega arith
    go (suc a) (suc b) = omega arith
apart_size zero zero (i ∷ is) h = omega arith
apart_size zero (suc b) (i ∷ is) h =
    let k = apart_size zero b is (omega arith) in
    omega (arith, length-append i.part.bytes (bytes_of is))
apart_size (suc a) zero (i ∷ is) h = absurd (omega arith)
apart_size (suc a) (suc b) (i ∷ is) h =
    let k = apart_size a b is (omega arith) in
    omega (arith, length-append i.part.bytes (bytes_of is), length-append i.part.bytes (bytes_of (take a is)))

-- ---- the items of records

chunks_size : (n at : ℕ) (rs : List Rec) → length (text_of (chunks n rs).0) + size (items_of at (chunks n rs).1) ≡ length (text_of rs)
unfolding chunks items_of text_of bytes_of
chunks_size n at [] = refl
chunks_size zero at (r ∷ rs) =
    let c = chunks (more r) rs in
    let next = at + length (r.text ++ text_of c.0) in
    let h = chunks_size (more r) next rs in
    omega (arith, length-append r.text (text_of rs), length-append r.text (text_of c.0), length-append (r.text ++ text_of c.0) (bytes_of (items_of next c.1)))
chunks_size (suc n) at (r ∷ rs) =
    let c = chunks n rs in
    let h = chunks_size n at rs in
    omega (arith, length-append r.text (text_of rs), length-append r.text (text_of c.0))

pub items_size : (at : ℕ) (rs : List Rec) → size (items at rs) ≤ length (text_of rs)
items_size at rs = let h = chunks_size 0 at rs in omega arith

-- what stands inside an item has no more text than the item
abbrev pub Holding : Item → Type 0
Holding i = size (items i.inside_at i.inside) ≤ length i.part.bytes

item_holds : (at : ℕ) (c : List Rec) → Holding (item_of at c)
unfolding text_of
item_holds at [] = let h = items_size 0 [] in omega arith
item_holds at (r ∷ rs) =
    let (last, e) = drop_last-prefix rs in
    let h = items_size (at + length r.text) (drop_last rs) in
    let l : length (text_of (drop_last rs) ++ text_of last) ≡ length (text_of rs) = rw (← text_of_append (drop_last rs) last, e) in
    omega (arith, length-append (text_of (drop_last rs)) (text_of last), length-append r.text (text_of rs))

of_hold : (at : ℕ) (cs : List (List Rec)) → Every Holding (items_of at cs)
unfolding items_of
of_hold at [] = every_nil
of_hold at (c ∷ cs) = every_cons (item_holds at c) (of_hold (at + length (text_of c)) cs)

pub items_hold : (at : ℕ) (rs : List Rec) → Every Holding (items at rs)
items_hold at rs = of_hold at (chunks 0 rs).1

-- ---- in parts of items

pub hold_take : (n : ℕ) (is : List Item) → Every Holding is → Every Holding (take n is)
hold_take n is h = (every_split {P = Holding} (take n is) {l = drop n is} (rw take-append-drop h)).0

pub hold_drop : (n : ℕ) (is : List Item) → Every Holding is → Every Holding (drop n is)
hold_drop n is h = (every_split {P = Holding} (take n is) {l = drop n is} (rw take-append-drop h)).1
