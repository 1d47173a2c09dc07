-- Demand 3: cutting a literal changes nothing. A fixed literal of an accepted image is written as neighbouring pieces; the run
-- accepts the new image too, and the two answers are equal in every field. One claim, for the whole list of places.
-- Quotations are document 01's, section "Cutting a literal". Every image that the run accepts is the image of a tree that fits
-- (cut_proof, every-accepted), so "every image" is "every tree that fits" here.
use Rattle.std.specs.Prelude.{◌≡◌, ◌≤◌, ◌<◌, ◌+◌, ◌-◌, ◌/◌, ◌%◌, ◌^◌, ◌&&◌, ◌∷◌, ◌++◌, if◌then◌else◌}
use Rattle.definition.specs.Prelude.{ℕ, suc, Bool, true, false, Option, none, some, List, [], map, length, get_or, take, ltb, eqb, pos, negsuc, nat_abs}
use Rattle.definition.specs.Basics.{ok, refused, ◌>>=◌, is_empty, same_bytes, sum, joined, area_after}
use Rattle.definition.specs.Characters.{char}
use Rattle.definition.specs.Limits.{area_needed}
use Rattle.definition.specs.Image.{Unparsed, Placed, kinds, tree_of}
use Rattle.definition.specs.Tree.{Forest, end, word, group, Node, Tree, recs_of, flat, literals_of, image_of, fits}
use Rattle.definition.specs.Text.{items}
use Rattle.definition.specs.Ranges.{Usb, Usbr, parse_range, single_bit, static_val, static_width}
use Rattle.definition.specs.Component.{Component, literal, variable, filler, stage1_component, stage1, stage2, simplify_usb, the_end}
use Rattle.definition.specs.Concatenation.{is_static_literal, merge}
use Rattle.definition.specs.Answer.{Read, read_answer}
use Rattle.definition.specs.Run.{Choices, run, in_force}

-- ── The parts of a component ──

-- records one after the other
infixr 5 ◌⊕◌
unfoldable pub ◌⊕◌ : Forest → Forest → Forest
end ⊕ g = g
word s f ⊕ g = word s (f ⊕ g)
group k inside f ⊕ g = group k inside (f ⊕ g)

abbrev pub is_end : Forest → Bool
is_end end = true
is_end (word s f) = false
is_end (group k inside f) = false

-- what stands before a range: "A component ending in a `[` group has that as its range."
unfoldable pub unranged : Forest → Forest
unranged end = end
unranged (word s rest) = word s (unranged rest)
unranged (group k inside rest) = if is_end rest && eqb k kinds.bracket then end else group k inside (unranged rest)

-- a starting value with its colon, and what stands after it
pub record Colon : Type 0 where
  pub prefix : Forest
  pub after : Forest

abbrev pub on_prefix : (Forest → Forest) → Option Colon → Option Colon
on_prefix f none = none
on_prefix f (some c) = some (record { prefix = f c.prefix; after = c.after })

abbrev pub is_colon : List ℕ → Bool
is_colon s = same_bytes s (char.colon ∷ [])

-- "starting-value colon (single, top level, `::` skipped)"
unfoldable pub at_colon : Forest → Option Colon
at_colon end = none
at_colon (group k inside rest) = on_prefix (group k inside) (at_colon rest)
at_colon (word s end) = if is_colon s then some (record { prefix = word s end; after = end }) else none
at_colon (word s (group k inside rest)) =
    if is_colon s then some (record { prefix = word s end; after = group k inside rest })
    else on_prefix (λ p. word s p) (on_prefix (group k inside) (at_colon rest))
at_colon (word s (word s' rest)) =
    let skipped = on_prefix (λ p. word s (word s' p)) (at_colon rest) in
    let later = on_prefix (λ p. word s p) (at_colon (word s' rest)) in
    if is_colon s then (if is_colon s' then skipped else some (record { prefix = word s end; after = word s' rest })) else later

-- The prefix of a component, empty where it has none, and "the literal's records between prefix and range". Only the most significant
-- component of concatenation 0 is scanned for a prefix.
abbrev pub prefix_part : Bool → Forest → Forest
prefix_part scanned f = if scanned then elim (at_colon (unranged f)) [ none ↦ end | some c ↦ c.prefix ] else end

abbrev pub middle_part : Bool → Forest → Forest
middle_part scanned f = if scanned then elim (at_colon (unranged f)) [ none ↦ unranged f | some c ↦ c.after ] else unranged f

-- ── Bounds ──

-- the number of a bound once stage 2 has added a number text to x, where no text is left
abbrev pub fixed_bound : Usb → Option ℕ
fixed_bound u =
    elim (simplify_usb u) [
      | refused q ↦ none
      | ok u' ↦ elim (static_val u') [ none ↦ none | some z ↦ elim z [ pos n ↦ some n | negsuc n ↦ none ] ]
    ]

-- "A literal's bounds are start and end once stage 2 has added number texts to x, the end being its width where none is written; they
-- are fixed where no text is left."
abbrev pub fixed_range : ℕ → Usbr → Option (ℕ × ℕ)
fixed_range w r = elim (fixed_bound r.start) [ none ↦ none | some a ↦ elim (fixed_bound (the_end w r)) [ none ↦ none | some b ↦ some (a, b) ] ]

abbrev pub unparsed : Node → Unparsed
unparsed n = record { recs = recs_of n; bits = n.bits }

-- the fixed bounds of a component that stage 1 reads as a literal
abbrev pub fixed_literal : Bool → Node → Option (ℕ × ℕ)
fixed_literal scanned n =
    elim (stage1_component scanned (unparsed n)) [
      | refused q ↦ none
      | ok c ↦ elim c.c_type [ literal bits ↦ fixed_range (length bits) c.range | variable p ↦ none | filler ↦ none ]
    ]

-- what a bracket around these records is read as, without refusal, on a literal of width w
abbrev pub reads_as : ℕ → Forest → Option (ℕ × ℕ)
reads_as w f =
    let is = items 0 (flat f) in
    elim (parse_range is) [
      | refused q ↦ none
      | ok r ↦ fixed_range w (elim r [ none ↦ single_bit is | some r' ↦ r' ])
    ]

-- ── The cut tree ──

-- "every strictly rising list of places, all strictly between a and b"
unfoldable pub rising : ℕ → List ℕ → ℕ → Bool
rising a [] b = ltb a b
rising a (p ∷ ps) b = ltb a p && rising p ps b

-- the bounds of the pieces, lowest first
unfoldable pub pieces_of : ℕ → List ℕ → ℕ → List (ℕ × ℕ)
pieces_of a [] b = (a, b) ∷ []
pieces_of a (p ∷ ps) b = (a, p) ∷ pieces_of p ps b

-- "A piece from c to d has the literal's records between prefix and range, and any bracket read without refusal as c and d", and the
-- literal's width and bits; a prefix stays on the highest piece
abbrev pub piece : Bool → Node → Forest → Forest → Node
piece scanned n prefix f = record { forest = prefix ⊕ middle_part scanned n.forest ⊕ group kinds.bracket f end; bits = n.bits }

unfoldable pub pieces : Bool → Node → List Forest → List Node
pieces scanned n [] = []
pieces scanned n (f ∷ []) = piece scanned n (prefix_part scanned n.forest) f ∷ []
pieces scanned n (f ∷ g ∷ fs) = piece scanned n end f ∷ pieces scanned n (g ∷ fs)

-- ── Bit places ──

-- the components of an image after stage 2
abbrev pub components_of : List ℕ → List (List (Placed Component))
components_of image = elim (stage1 (tree_of image) >>= stage2) [ refused q ↦ [] | ok p ↦ p.cc ]

-- the literals with static ranges that end a list, and what stands below them
pub record Below : Type 0 where
  pub rest : List (Placed Component)
  pub in_run : List (Placed Component)

unfoldable pub run_end : List (Placed Component) → Below
run_end [] = record { rest = []; in_run = [] }
run_end (c ∷ cs) =
    let r = run_end cs in
    if is_empty r.rest && is_static_literal c.value then record { rest = []; in_run = c ∷ r.in_run } else record { rest = c ∷ r.rest; in_run = r.in_run }

-- "the widths, end less start"
abbrev pub width_of : Placed Component → ℕ
width_of c = elim (static_width c.value.range) [ none ↦ 0 | some w ↦ nat_abs w ]

-- a component of the answer, and a bit of its literal
pub record BitPlace : Type 0 where
  pub field : ℕ
  pub bit : ℕ

-- "Bit i of a literal or piece from c to d lies at bit p+i-c of its run's merged literal, p being the sum of the widths, end less start,
-- of the literals and pieces below it in the run.": component k of concatenation j, `above` being i-c
abbrev pub place_of : List (List (Placed Component)) → ℕ → ℕ → ℕ → BitPlace
place_of cc j k above =
    let low = run_end (take k (get_or cc j [])) in
    record { field = sum (map (λ c. length (merge c)) (take j cc)) + length (merge low.rest); bit = sum (map width_of low.in_run) + above }

-- the piece that bit i lies in, counted from 0, and its start
unfoldable pub piece_at : ℕ → List ℕ → ℕ → record { index : ℕ; start : ℕ }
piece_at a [] i = record { index = 0; start = a }
piece_at a (p ∷ ps) i =
    let later = piece_at p ps i in
    if ltb i p then record { index = 0; start = a } else record { index = suc later.index; start = later.start }

-- the bit that an answer holds at a place, where that is a bit of a literal
abbrev pub bit_in : Read → BitPlace → Option ℕ
bit_in r p =
    let f = get_or r.fields p.field (record { kind = 0; text = []; width = 0; offset = 0; literal = []; start = record { text = []; x = pos 0 }; «end» = none }) in
    if eqb f.kind 1 && ltb p.bit f.width then some (get_or f.literal (p.bit / 8) 0 / 2 ^ (p.bit % 8) % 2) else none

-- ── The claim ──

-- all that is given
pub record Given : Type 0 where
  -- an image, choices (the mode and the default) and an area on which the run accepts
  pub how : Choices
  pub area : List ℕ
  pub answer : List ℕ
  -- its tree, with the literal in its place: the concatenations below and above, and the components below and above in its own
  pub concatenations_below : Tree
  pub below : List Node
  pub node : Node
  pub above : List Node
  pub concatenations_above : Tree
  -- the literal's bounds, the places (one or more), a bracket for each piece, and an area for the new image
  pub a : ℕ
  pub b : ℕ
  pub place : ℕ
  pub places : List ℕ
  pub brackets : List Forest
  pub new_area : List ℕ

-- the tree with some nodes in the literal's place
abbrev pub tree_with : Given → List Node → Tree
tree_with g ns = g.concatenations_below ++ (g.below ++ ns ++ g.above) ∷ g.concatenations_above

abbrev pub image : Given → List ℕ
image g = image_of (tree_with g (g.node ∷ []))

-- whether it is the most significant component of concatenation 0
abbrev pub scanned : Given → Bool
scanned g = is_empty g.concatenations_below && is_empty g.above

-- "The pieces stand in the literal's place in its concatenation."
abbrev pub new_tree : Given → Tree
new_tree g = tree_with g (pieces (scanned g) g.node g.brackets)

abbrev pub new_image : Given → List ℕ
new_image g = image_of (new_tree g)

pub record Premises (g : Given) : Type 0 where
  pub a_tree : fits (tree_with g (g.node ∷ [])) ≡ true
  pub accepted : run (image g) g.how (length g.area) ≡ ok g.answer
  pub bounds : fixed_literal (scanned g) g.node ≡ some (g.a, g.b)
  pub rises : rising g.a (g.place ∷ g.places) g.b ≡ true
  pub brackets_read : map (reads_as (length g.node.bits)) g.brackets ≡ map some (pieces_of g.a (g.place ∷ g.places) g.b)
  -- "if that tree keeps document 01's limits and the area is long enough for it"
  pub within_limits : fits (new_tree g) ≡ true
  pub long_enough : area_needed (length (new_tree g)) (length (joined (new_tree g))) (length (literals_of (joined (new_tree g)))) ≤ length g.new_area

-- what the two runs leave in their areas, read field by field
abbrev pub read_old : Given → Read
read_old g = read_answer (image g) (area_after g.area (ok g.answer))

abbrev pub read_new : Given → List ℕ → Read
read_new g new_answer = read_answer (new_image g) (area_after g.new_area (ok new_answer))

-- bit i of the literal lies in both at the same place of the same component, and that place holds its value in both answers
pub record BitKept (g : Given) (new_answer : List ℕ) (i : ℕ) : Type 0 where
  pub at : BitPlace
  pub old_place : place_of (components_of (image g)) (length g.concatenations_below) (length g.below) (i - g.a) ≡ at
  pub new_place :
      let p = piece_at g.a (g.place ∷ g.places) i in
      place_of (components_of (new_image g)) (length g.concatenations_below) (length g.below + p.index) (i - p.start) ≡ at
  pub old_value : bit_in (read_old g) at ≡ some (get_or g.node.bits i 0)
  pub new_value : bit_in (read_new g new_answer) at ≡ some (get_or g.node.bits i 0)

pub record Same (g : Given) : Type 0 where
  pub new_answer : List ℕ
  pub new_accepted : run (new_image g) g.how (length g.new_area) ≡ ok new_answer
  pub fields_equal : read_new g new_answer ≡ read_old g
  -- document 02, L1: "the cutting statement keeps the default", and so the starting value in force
  pub start_kept : in_force (new_image g) g.how (ok new_answer) ≡ in_force (image g) g.how (ok g.answer)
  pub bits_kept : (i : ℕ) → g.a ≤ i → i < g.b → BitKept g new_answer i

abbrev pub Cutting : Type 0
Cutting = (g : Given) → Premises g → Same g
