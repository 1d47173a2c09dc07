-- Closed examples that meet every premise of the cutting claim, with the claim computed on each: no premise is empty. Others,
-- also under modes 1 and 2 and under a default, stand in Further.
use Rattle.std.specs.Prelude.{◌≡◌, refl, replicate, T, ◌+◌, ◌-◌, ◌∷◌, ◌++◌}
use Rattle.std.proofs.Common.{sym, ap, subst, leb→le}
use Rattle.definition.specs.Prelude.{ℕ, Bool, true, some, List, [], map, length, get_or, Option, leb}
use Rattle.definition.specs.Basics.{ascii, Result, ok, refused, tab, joined}
use Rattle.definition.specs.Limits.{area_needed}
use Rattle.definition.specs.Image.{kinds}
use Rattle.definition.specs.Tree.{Forest, end, word, group, Node, Tree, image_of, fits, literals_of}
use Rattle.definition.specs.Readings.{tokens}
use Rattle.definition.specs.Answer.{Read}
use Rattle.definition.specs.Run.{Choices, under, run, in_force}
use Rattle.definition.specs.Compute.{computed}
use Rattle.cutting.specs.Statement.{Given, Premises, BitPlace, ◌⊕◌, unranged, at_colon, rising, pieces_of, pieces, run_end, piece_at, tree_with, new_tree, scanned, fixed_literal, reads_as, image, new_image, read_old, read_new, place_of, components_of, bit_in}

-- the answer of a run that accepts
abbrev pub answer_of : List ℕ → Choices → ℕ → List ℕ
answer_of im how area = elim (run im how area) [ ok s ↦ s | refused q ↦ [] ]

abbrev pub new_answer : Given → List ℕ
new_answer g = answer_of (new_image g) g.how (length g.new_area)

-- where the bits a to b lie in the old and in the new answer, and what the answers hold there
abbrev pub old_places : Given → List BitPlace
old_places g = tab (λ i. place_of (components_of (image g)) (length g.concatenations_below) (length g.below) (i - g.a)) g.a (g.b - g.a)

abbrev pub new_places : Given → List BitPlace
new_places g =
    tab (λ i.
    let p = piece_at g.a (g.place ∷ g.places) i in
    place_of (components_of (new_image g)) (length g.concatenations_below) (length g.below + p.index) (i - p.start)) g.a (g.b - g.a)

-- the premises and the conclusions of the claim on one example: what is computed, and what it is claimed to be
pub record Facts : Type 0 where
  pub fits_old : Bool
  pub accepted : Result (List ℕ)
  pub bounds : Option (ℕ × ℕ)
  pub rises : Bool
  pub brackets_read : List (Option (ℕ × ℕ))
  pub fits_new : Bool
  pub room : Bool
  pub new_accepted : Result (List ℕ)
  pub fields : Read
  pub start : List ℕ
  pub places : List BitPlace
  pub old_bits : List (Option ℕ)
  pub new_bits : List (Option ℕ)

abbrev pub room : Given → ℕ
room g = area_needed (length (new_tree g)) (length (joined (new_tree g))) (length (literals_of (joined (new_tree g))))

abbrev pub found : Given → Facts
found g =
    record {
      fits_old = fits (tree_with g (g.node ∷ []));
      accepted = run (image g) g.how (length g.area);
      bounds = fixed_literal (scanned g) g.node;
      rises = rising g.a (g.place ∷ g.places) g.b;
      brackets_read = map (reads_as (length g.node.bits)) g.brackets;
      fits_new = fits (new_tree g);
      room = leb (room g) (length g.new_area);
      new_accepted = run (new_image g) g.how (length g.new_area);
      fields = read_new g (new_answer g);
      start = in_force (new_image g) g.how (run (new_image g) g.how (length g.new_area));
      places = new_places g;
      old_bits = map (bit_in (read_old g)) (old_places g);
      new_bits = map (bit_in (read_new g (new_answer g))) (new_places g);
    }

abbrev pub claimed : Given → Facts
claimed g =
    record {
      fits_old = true;
      accepted = ok g.answer;
      bounds = some (g.a, g.b);
      rises = true;
      brackets_read = map some (pieces_of g.a (g.place ∷ g.places) g.b);
      fits_new = true;
      room = true;
      new_accepted = ok (new_answer g);
      fields = read_old g;
      start = in_force (image g) g.how (ok g.answer);
      places = old_places g;
      old_bits = tab (λ i. some (get_or g.node.bits i 0)) g.a (g.b - g.a);
      new_bits = tab (λ i. some (get_or g.node.bits i 0)) g.a (g.b - g.a);
    }

-- an example on which the two agree meets every premise
pub meets : (g : Given) → found g ≡ claimed g → Premises g
meets g h =
    record {
      a_tree = ap (λ f. f.fits_old) h;
      accepted = ap (λ f. f.accepted) h;
      bounds = ap (λ f. f.bounds) h;
      rises = ap (λ f. f.rises) h;
      brackets_read = ap (λ f. f.brackets_read) h;
      within_limits = ap (λ f. f.fits_new) h;
      long_enough = leb→le (room g) (length g.new_area) (subst T (sym (ap (λ f. f.room) h)) tt);
    }

-- a literal in its place, its bounds, places and brackets, under a call's choices, with areas that hold other bytes
abbrev pub example_in : Choices → Tree → List Node → Node → List Node → Tree → ℕ → ℕ → ℕ → List ℕ → List Forest → Given
example_in how cb below node above ca a b place places brackets =
    record {
      how = how;
      area = replicate 500 7;
      answer = answer_of (image_of (cb ++ (below ++ (node ∷ []) ++ above) ∷ ca)) how 500;
      concatenations_below = cb;
      below = below;
      node = node;
      above = above;
      concatenations_above = ca;
      a = a;
      b = b;
      place = place;
      places = places;
      brackets = brackets;
      new_area = replicate 900 9;
    }

abbrev pub example : Tree → List Node → Node → List Node → Tree → ℕ → ℕ → ℕ → List ℕ → List Forest → Given
example = example_in (under 0)

-- 165, as document 01's worked literal: bits 10100101
abbrev pub byte : Forest → Node
byte f = record { forest = f; bits = 1 ∷ 0 ∷ 1 ∷ 0 ∷ 0 ∷ 1 ∷ 0 ∷ 1 ∷ [] }

abbrev pub plain : Forest → Node
plain f = record { forest = f; bits = [] }

-- `rec[..8]`
abbrev pub sink : List Node
sink = plain (word (ascii "rec") (group kinds.bracket (tokens ("." ∷ "." ∷ "8" ∷ [])) end)) ∷ []

-- all names that the examples compute with
unfoldable pub opened : ℕ
unfolding computed tokens ◌⊕◌ unranged at_colon rising pieces_of pieces run_end piece_at
opened = 0

-- the worked example with its 8 bits as one literal, cut into two: `[..4]` and `[4..]`, whose end is omitted
unfoldable pub two : Given
two = example [] [] (byte (tokens ("165u8" ∷ []))) [] (sink ∷ []) 0 8 4 [] (tokens ("." ∷ "." ∷ "4" ∷ []) ∷ tokens ("4" ∷ "." ∷ "." ∷ []) ∷ [])

-- `a::b:165u8`: the prefix stays on the highest piece
unfoldable pub prefixed : Given
prefixed =
    example [] [] (byte (tokens ("a" ∷ ":" ∷ ":" ∷ "b" ∷ ":" ∷ "165u8" ∷ []))) [] (sink ∷ []) 0 8 4 []
    (tokens ("." ∷ "." ∷ "4" ∷ []) ∷ tokens ("4" ∷ "." ∷ "." ∷ "8" ∷ []) ∷ [])

pub two_right : found two ≡ claimed two
unfolding opened two
two_right = refl

pub prefixed_right : found prefixed ≡ claimed prefixed
unfolding opened prefixed
prefixed_right = refl
